-- Two listings of one run.
use Rattle.std.specs.Prelude.{◌≡◌}
use mathlib.Core.List.{List, Permᴰ}
use Rattle.order.specs.Pairs.{Pairs}
use Rattle.order.specs.Shuffled.{Shuffled}
use Rattle.position.specs.Order.{canonical, swapped}
use Rattle.position.specs.declared.Span.{Span}
use Rattle.format.specs.Values.{Observation, Boundary}
use Rattle.context.specs.Listing.{Item}
use Rattle.serial_merging.specs.Runs.{Run, Matched, items_of}

-- "its ends either way round"
pub data Turned : Span → Span → Type 0 where
  same : {s : Span} → Turned s s
  turned : {s : Span} → Turned s (swapped s)

-- "an observation takes its sources along"; its ends may be swapped and its sources permuted too.
pub record LikeObservation (o p : Observation) : Type 0 where
  pub ends : Turned o.ends p.ends
  pub bits : o.bits ≡ p.bits
  pub sources : Permᴰ o.sources p.sources

pub record LikeBoundary (b c : Boundary) : Type 0 where
  pub ends : Turned b.ends c.ends
  pub bits : b.bits ≡ c.bits
  pub ramp : b.ramp ≡ c.ramp
  pub sources : Permᴰ b.sources c.sources
  pub observations : Shuffled LikeObservation b.observations c.observations

pub record LikeItem (i j : Item) : Type 0 where
  pub boundary : LikeBoundary i.boundary j.boundary
  pub span : Turned i.span j.span

-- "span i belongs to boundary i and moves with it, its ends either way round; where spans and boundaries differ in number, run B has the same spans
-- in any order"
pub data Relisted : Run → Run → Type 0 where
  matched : {r s : Run} → Matched r → Matched s → Shuffled LikeItem (items_of r) (items_of s) → Relisted r s
  unmatched : {r s : Run} → (Matched r → ⊥) → Shuffled LikeBoundary r.boundaries s.boundaries → Shuffled Turned r.spans s.spans → Relisted r s

-- No two boundaries have the same ends in either order.
abbrev pub DistinctEnds : List Boundary → Type 0
DistinctEnds = Pairs (λ (b c : Boundary). canonical b.ends ≡ canonical c.ends → ⊥)
