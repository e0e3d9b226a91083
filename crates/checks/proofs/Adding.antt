-- Sums over rows, as a loop adds them up.
use mathlib.Core.Path.{◌≡◌, refl, sym, ◌∙◌, ap}
use mathlib.Core.List.{map}
use Prim.Native.Nat.{ℕ, ◌+◌, ◌*◌, ◌≤◌, ◌<◌}
use native.Mathlib.Numerals.{add-one}
use native.Mathlib.Omega.{arith}
use Rattle.lists.specs.Rows.{rows, sum}
use Rattle.lists.proofs.Rows.{map_rows, sum-last}

-- A loop over n u32 numbers that has come to i: t is the sum of those before it.
pub record Added (f : ℕ → ℕ) (n i t : ℕ) : Type 0 where
  pub below : i ≤ n
  pub value : t ≡ sum (rows i f)
  pub small : t ≤ i * 0xFFFF_FFFF

pub added-start : (f : ℕ → ℕ) (n : ℕ) → Added f n 0 0
unfolding rows sum
added-start f n = record { below = omega arith; value = refl; small = omega arith }

pub added_next : {f : ℕ → ℕ} {n i t : ℕ} (v : ℕ) → Added f n i t → i < n → v ≡ f i → v < 0x1_0000_0000 → Added f n (i + 1) (t + v)
added_next {f} {n} {i} {t} v a h e l =
    let s : sum (rows (i + 1) f) ≡ sum (rows i f) + f i = rw add-one (sum-last i f) in
    record { below = omega arith; value = omega (arith, a.value); small = omega (arith, a.small) }

pub added-end : {f : ℕ → ℕ} {n i t : ℕ} → Added f n i t → n ≤ i → t ≡ sum (rows n f)
added-end {f} {n} {i} {t} a h =
    let e : i ≡ n = omega (arith, a.below) in
    a.value ∙ ap (λ (k : ℕ). sum (rows k f)) e

-- A field's sum over the rows of records.
pub sum-field : {A : Type 0} (g : A → ℕ) (n : ℕ) (f : ℕ → A) → sum (map g (rows n f)) ≡ sum (rows n (λ i. g (f i)))
sum-field g n f = ap sum (map_rows g n f)

pub added-all : {A : Type 0} (g : A → ℕ) {r : ℕ → A} {n i t : ℕ} → Added (λ k. g (r k)) n i t → n ≤ i → t ≡ sum (map g (rows n r))
added-all g {r} {n} a h = added-end a h ∙ sym (sum-field g n r)
