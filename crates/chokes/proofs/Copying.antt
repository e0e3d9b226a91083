-- The first bytes of a slice as rows.
use mathlib.Core.Path.{◌≡◌, refl, ap}
use mathlib.Core.List.{List, [], ◌∷◌, ◌++◌}
use Prim.Native.Nat.{ℕ, zero, suc, ◌+◌, ◌≤◌}
use native.Mathlib.Omega.{arith}
use lib.ListN.{length, get_or, take, drop}
use Rattle.lists.specs.Rows.{rows}
use Rattle.lists.proofs.Rows.{length-rows}
use Rattle.wire.specs.Bytes.{splice}
use Rattle.chokes.specs.Marking.{first_copied}

take-rows : (xs : List ℕ) (n : ℕ) → n ≤ length xs → take n xs ≡ rows n (λ k. get_or xs k 0)
unfolding rows
take-rows xs zero h = refl
take-rows [] (suc n) h = absurd (omega arith)
take-rows (x ∷ xs) (suc n) h = ap (λ (l : List ℕ). x ∷ l) (take-rows xs n (omega arith))

pub copied : (from : List ℕ) (n : ℕ) (to : List ℕ) → n ≤ length from → take n from ++ drop n to ≡ first_copied from n to
unfolding splice
copied from n to h =
    let e : 0 + length (rows n (λ k. get_or from k 0)) ≡ n = omega (arith, length-rows n (λ k. get_or from k 0)) in
    rw (take-rows from n h, e) refl
