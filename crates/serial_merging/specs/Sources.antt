-- "the sources are counted after each merge besides": the sources of boundaries, as sets.
use Rattle.std.specs.Prelude.{List}
use Rattle.order.specs.Pairs.{SameMembers}
use Rattle.order.specs.Lists.{gather}
use Rattle.format.specs.Values.{Boundary}
use Rattle.format.specs.Encode.{sources_of}
use Rattle.format.specs.declared.records.Source.{Source}

unfoldable pub own_sources : List Boundary → List Source
own_sources bs = gather (λ (b : Boundary). b.sources) bs

-- "Two sources are the same if both their u32 are, in order": the own ones by themselves, and own and observed ones together.
pub record SameSources (l m : List Boundary) : Type 0 where
  pub own : SameMembers (own_sources l) (own_sources m)
  pub all : SameMembers (sources_of l) (sources_of m)
