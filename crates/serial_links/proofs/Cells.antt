-- The laws of a link that is measured cell by cell: it begins with no cell, takes each of its region's cells, and then has its measure.
use mathlib.Core.Path.{◌≡◌, refl, ◌∙◌, ap}
use mathlib.Core.Bool.{true, ◌&&◌}
use mathlib.Core.List.{List, [], ◌∷◌, ◌++◌, map, map-append}
use Prim.Native.Nat.{ℕ, ◌/◌, ◌%◌}
use lib.Ieee.{Float}
use Rattle.order.proofs.Bools.{and_assoc, and-true}
use Rattle.serial_links.specs.Limits.{Limits}
use Rattle.serial_links.specs.Geometry.{cell_centre}
use Rattle.serial_links.specs.Link.{Link, Bounds, no_bounds, widened, widened_by, bounds_of}
use Rattle.serial_links.specs.Measure.{placed, extremes, measured, judged}
use Rattle.serial_links.specs.Flat.{inside_both, inside_flat}
use Rattle.serial_links.specs.HeldLink.{no_cell, link_with_cell, some_cell, link_after, measured_in}

-- one value more, at the end
pub widened-last : (b : Bounds) (vs : List Float) (v : Float) → widened_by b (vs ++ (v ∷ [])) ≡ widened (widened_by b vs) v
unfolding widened_by
widened-last b [] v = refl
widened-last b (u ∷ us) v = widened-last (widened b u) us v

pub bounds-last : (f : ℕ → Float) (cs : List ℕ) (c : ℕ) → bounds_of (map f (cs ++ (c ∷ []))) ≡ widened (bounds_of (map f cs)) (f c)
bounds-last f cs c = ap bounds_of (map-append f cs (c ∷ [])) ∙ widened-last no_bounds (map f cs) (f c)

module _ (limits : Limits) (k : Link) (columns : ℕ) where
  -- one cell more, at the end
  pub inside-last : (cs : List ℕ) (c : ℕ)
      → inside_flat limits k columns (cs ++ (c ∷ [])) ≡ (inside_flat limits k columns cs && inside_both limits k (cell_centre columns c))
  unfolding inside_flat
  inside-last [] c = and-true (inside_both limits k (cell_centre columns c))
  inside-last (d ∷ ds) c = ap (λ p. inside_both limits k (cell_centre columns d) && p) (inside-last ds c)
      ∙ and_assoc (inside_both limits k (cell_centre columns d)) (inside_flat limits k columns ds) (inside_both limits k (cell_centre columns c))

  some-last : (cs : List ℕ) (c : ℕ) → some_cell (cs ++ (c ∷ [])) ≡ true
  some-last [] c = refl
  some-last (d ∷ ds) c = refl

  pub after_none : no_cell k ≡ link_after limits k columns []
  unfolding link_after extremes inside_flat widened_by
  after_none = refl

  pub after_next : (cs : List ℕ) (c : ℕ)
      → link_with_cell limits (link_after limits k columns cs) (c % columns) (c / columns) ≡ link_after limits k columns (cs ++ (c ∷ []))
  unfolding link_with_cell link_after extremes
  after_next cs c =
      simp (bounds-last (placed k k.unit columns) cs c, bounds-last (placed k k.normal columns) cs c, inside-last cs c, some-last cs c)

  pub after-measured : (cs : List ℕ) → measured_in limits (link_after limits k columns cs) ≡ measured limits k columns cs
  unfolding measured_in link_after measured extremes judged
  after-measured [] = refl
  after-measured (c ∷ cs) = refl
