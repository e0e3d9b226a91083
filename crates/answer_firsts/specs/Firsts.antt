-- Own sources of a kept boundary, each once, as numbers.
use Rattle.std.specs.Prelude.{List, ℕ, ◌-◌, ◌≤◌}
use Rattle.order.specs.Pairs.{SameMembers}
use Rattle.format.specs.declared.records.Source.{Source}
use Rattle.answer_sorting.specs.Parts.{placed_sources}
use Rattle.answer_firsts.specs.Links.{Linked}

-- the numbers from `first` up to `count` stand each once for the members of xs
pub record FirstSources (heads : ℕ) (job : List ℕ) (base first count : ℕ) (links places : List ℕ) (xs : List Source) : Type 0 where
  pub linked : Linked heads job base first count links places
  pub low : first ≤ count
  pub members : SameMembers (placed_sources job base places first (count - first)) xs
