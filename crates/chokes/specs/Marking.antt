-- What is left where a job's marks are computed.
use Rattle.std.specs.Prelude.{List, ℕ, get_or}
use Rattle.lists.specs.Rows.{rows}
use Rattle.wire.specs.Bytes.{splice}
use Rattle.position.specs.declared.Span.{Span}
use Rattle.format.specs.Values.{Job}
use Rattle.results.specs.Rules.{grid_of}
use Rattle.results.specs.Results.{max_pairs}
use Rattle.analysis.specs.Bridging.{MarkedWithin}

-- a job partitioned by the spans: the work, the number of region pairs (4,097 where they are over 4,096), and the marks
abbrev pub Analysed : List ℕ → Job → List Span → List ℕ → List ℕ → List ℕ → ℕ → Type 0
Analysed dirs j ss before work marks pairs = MarkedWithin max_pairs dirs (grid_of j) ss marks before work pairs

-- the first n bytes are those of another list
abbrev pub first_copied : List ℕ → ℕ → List ℕ → List ℕ
first_copied from n to = splice to 0 (rows n (λ k. get_or from k 0))
