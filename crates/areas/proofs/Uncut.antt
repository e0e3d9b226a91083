-- A path of uncut steps goes by steps that no span cuts, from either of their cells.
use mathlib.Core.Path.{refl, ◌∙◌, subst₂}
use mathlib.Core.Logic.{◌↔◌, ⊎_elim}
use mathlib.Core.List.{List, Memᴰ}
use Prim.Native.Nat.{ℕ}
use Rattle.position.specs.declared.Span.{Span}
use Rattle.graph.specs.Path.{Edge, Joins, forth, back}
use Rattle.grid.specs.Cells.{Grid, Whole}
use Rattle.grid.specs.Directions.{ClosedUnderReversal}
use Rattle.grid.specs.Steps.{step_of, steps}
use Rattle.grid.proofs.Steps.{step_back}
use Rattle.grid.proofs.StepList.{steps-iff, step-listed}
use Rattle.areas.specs.Cuts.{uncut_steps, Uncut}
use Rattle.areas.proofs.Cuts.{cut-turned, uncut-iff}

module _ (dirs : List ℕ) (g : Grid) (ss : List Span) (closed : ClosedUnderReversal dirs) (whole : Whole g) where
  -- an uncut step goes both ways
  pub uncut-back : {i j : ℕ} → Uncut dirs g ss i j → Uncut dirs g ss j i
  uncut-back {i} {j} (s, u) = (step_back closed whole s, λ t m. cut-turned g t i j ∙ u t m)

  -- what one edge of a path is
  pub uncut-joins : (i j : ℕ) → ((e : Edge) × Memᴰ e (uncut_steps dirs g ss) × Joins e i j) ↔ Uncut dirs g ss i j
  uncut-joins i j = (to, from)
    where
      over : (e : Edge) → Uncut dirs g ss e.left e.right → Joins e i j → Uncut dirs g ss i j
      over e h (forth p q) = subst₂ (Uncut dirs g ss) p q h
      over e h (back p q) = uncut-back (subst₂ (Uncut dirs g ss) p q h)

      to : (e : Edge) × Memᴰ e (uncut_steps dirs g ss) × Joins e i j → Uncut dirs g ss i j
      to (e, m, k) = let p = (uncut-iff dirs g ss e).0 m in over e (((steps-iff dirs g e.left e.right).0 p.0).0, p.1) k

      from : Uncut dirs g ss i j → (e : Edge) × Memᴰ e (uncut_steps dirs g ss) × Joins e i j
      from (s, u) =
          ⊎_elim (λ (m : Memᴰ (step_of i j) (steps dirs g)). (step_of i j, (uncut-iff dirs g ss (step_of i j)).1 (m, u), forth refl refl))
          (λ (m : Memᴰ (step_of j i) (steps dirs g)). (step_of j i, (uncut-iff dirs g ss (step_of j i)).1 (m, (uncut-back (s, u)).1), back refl refl))
          (step-listed dirs g closed whole i j s)
