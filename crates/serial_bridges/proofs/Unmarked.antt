-- Without records there is no bridge.
use mathlib.Core.Path.{◌≡◌, refl, sym, ap}
use mathlib.Core.List.{List, ◌∷◌}
use Prim.Native.Nat.{ℕ, zero, suc}
use lib.ListN.{replicate}
use Rattle.lists.specs.Rows.{rows}
use Rattle.graph.specs.Records.{records_in}
use Rattle.graph.specs.Bridges.{is_bridge}
use Rattle.serial_walk.specs.Marks.{bridge_marks}

rows-zero : (n : ℕ) → rows n (λ _. 0) ≡ replicate {A = ℕ} n 0
unfolding rows
rows-zero zero = refl
rows-zero (suc n) = ap (λ (l : List ℕ). 0 ∷ l) (rows-zero n)

pub no-records : (owners lefts rights : List ℕ) (count : ℕ) → count ≡ 0 → (n : ℕ)
    → replicate {A = ℕ} n 0 ≡ bridge_marks (records_in owners lefts rights count) n
unfolding bridge_marks records_in rows is_bridge
no-records owners lefts rights count e n = rw e (sym (rows-zero n))
