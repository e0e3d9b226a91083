-- What sources and observations are ordered by, as lists of numbers.
use Rattle.std.specs.Prelude.{List, [], ◌∷◌, ◌++◌, ℕ}
use Rattle.format.specs.Values.{Observation}
use Rattle.format.specs.declared.records.Source.{Source}
use Rattle.context.specs.Listing.{span_key}
use Rattle.length.specs.Total.{total_key}

unfoldable pub source_key : Source → List ℕ
source_key s = s.from ∷ s.to ∷ []

-- Lists of sources, by the first place where they differ, a beginning before the whole.
unfoldable pub sources_key : List Source → List ℕ
sources_key [] = []
sources_key (s ∷ ss) = s.from ∷ s.to ∷ sources_key ss

-- 000's order of observations: by ends, then "ordered by IEEE 754 total_order" of their widths, "those alike in ends and width going by their sources".
unfoldable pub observation_key : Observation → List ℕ
observation_key o = span_key o.ends ++ (total_key o.bits ∷ sources_key o.sources)
