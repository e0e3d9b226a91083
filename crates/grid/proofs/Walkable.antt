-- Of the bytes of a map the steps read bit 0 alone.
use mathlib.Core.Path.{◌≡◌, ap, ap₂, fun_ext}
use mathlib.Core.Bool.{◌&&◌}
use mathlib.Core.List.{List, map}
use Prim.Native.Nat.{ℕ}
use lib.Dec.{ltb}
use lib.ListN.{length}
use Rattle.order.specs.Lists.{gather, up_from}
use Rattle.order.proofs.Keep.{keep-ext}
use Rattle.graph.specs.Path.{Edge}
use Rattle.grid.specs.Cells.{Grid, size, with_cells, walkable}
use Rattle.grid.specs.Steps.{neighbour, beside, across, has_step, step_of, steps_from, steps}

module _ (g : Grid) (cs : List ℕ) (same : (i : ℕ) → walkable (with_cells g cs) i ≡ walkable g i) where
  same_step : (i d : ℕ) → has_step (with_cells g cs) i d ≡ has_step g i d
  unfolding has_step
  same_step i d = rw (same i, same (neighbour g i d), same (beside g i d), same (across g i d))

  same_from : (dirs : List ℕ) (i : ℕ) → steps_from dirs (with_cells g cs) i ≡ steps_from dirs g i
  unfolding steps_from
  same_from dirs i =
      ap (map (λ d. step_of i (neighbour g i d)))
      (keep-ext (λ d. has_step (with_cells g cs) i d && ltb i (neighbour g i d)) (λ d. has_step g i d && ltb i (neighbour g i d)) dirs
      (λ d m. rw (same_step i d)))

  pub same-steps : (dirs : List ℕ) → length cs ≡ size g → steps dirs (with_cells g cs) ≡ steps dirs g
  unfolding steps
  same-steps dirs e = ap₂ (λ (f : ℕ → List Edge) (n : ℕ). gather f (up_from 0 n)) (fun_ext (same_from dirs)) e
