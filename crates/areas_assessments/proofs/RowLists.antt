-- Rows by number: what holds of every two, and members.
use mathlib.Core.Path.{◌≡◌, refl}
use mathlib.Core.List.Memᴰ
use mathlib.Core.List.{Memᴰ}
use Prim.Native.Nat.{ℕ, zero, suc, ◌<◌}
use native.Mathlib.Omega.{arith}
use Rattle.lists.specs.Rows.{rows}
use Rattle.order.specs.Pairs.{Pairs, none, more}

module _ {A : Type 0} where
  pub row-mem : (n : ℕ) (f : ℕ → A) (i : ℕ) → i < n → Memᴰ (f i) (rows n f)
  unfolding rows
  row-mem zero f i h = absurd (omega arith)
  row-mem (suc n) f zero h = Memᴰ.head refl
  row-mem (suc n) f (suc i) h = Memᴰ.tail (row-mem n (λ k. f (suc k)) i (omega arith))

  pub mem-row : (n : ℕ) (f : ℕ → A) {y : A} → Memᴰ y (rows n f) → (i : ℕ) × (i < n) × (y ≡ f i)
  unfolding rows
  mem-row zero f m = absurd (Memᴰ.not-nil m)
  mem-row (suc n) f (Memᴰ.head e) = (0, omega arith, e)
  mem-row (suc n) f (Memᴰ.tail m) = let r = mem-row n (λ k. f (suc k)) m in (suc r.0, omega arith, r.2)

  pub rows-pairs : {R : A → A → Type 0} (n : ℕ) (f : ℕ → A) → ((i j : ℕ) → i < j → j < n → R (f i) (f j)) → Pairs R (rows n f)
  unfolding rows
  rows-pairs zero f h = none
  rows-pairs {R} (suc n) f h =
      more {x = f 0} (λ y m. let r = mem-row n (λ k. f (suc k)) m in rw r.2 (h 0 (suc r.0) (omega arith) (omega arith)))
      (rows-pairs n (λ k. f (suc k)) (λ i j l k. h (suc i) (suc j) (omega arith) (omega arith)))

  pub pairs-rows : {R : A → A → Type 0} (n : ℕ) (f : ℕ → A) → Pairs R (rows n f) → (i j : ℕ) → i < j → j < n → R (f i) (f j)
  unfolding rows
  pairs-rows zero f p i j l h = absurd (omega arith)
  pairs-rows (suc n) f (more g t) i zero l h = absurd (omega arith)
  pairs-rows (suc n) f (more g t) zero (suc j) l h = g (f (suc j)) (row-mem n (λ k. f (suc k)) j (omega arith))
  pairs-rows (suc n) f (more g t) (suc i) (suc j) l h = pairs-rows n (λ k. f (suc k)) t i j (omega arith) (omega arith)
