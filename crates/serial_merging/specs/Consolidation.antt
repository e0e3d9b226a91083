-- One boundary in the stead of its group's members: 000's `consolidated_boundary`.
use Rattle.std.specs.Prelude.{List, [], ◌∷◌}
use Rattle.order.specs.Lists.{gather}
use Rattle.format.specs.Values.{Observation, Boundary}
use Rattle.serial_merging.specs.Copies.{sorted_sources, sorted_observations}

-- "a member without observations giving itself as one, with its own sources"
unfoldable pub or_itself : Boundary → List Observation → List Observation
or_itself b [] = record { ends = b.ends; bits = b.bits; sources = b.sources } ∷ []
or_itself b (o ∷ os) = o ∷ os

unfoldable pub observed : Boundary → List Observation
unfolding or_itself
observed b = or_itself b b.observations

-- "it keeps all their own sources and observations": of members that are canonical copies, with the retained one's ends, width and ramp.
unfoldable pub consolidate : Boundary → List Boundary → Boundary
consolidate retained members = record {
  ends = retained.ends;
  bits = retained.bits;
  ramp = retained.ramp;
  sources = sorted_sources (gather (λ (b : Boundary). b.sources) members);
  observations = sorted_observations (gather observed members);
}
