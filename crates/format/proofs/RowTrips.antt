-- Records of one size side by side: their bytes are read as the list of them, and written again as they stood.
use mathlib.Core.Path.{◌≡◌, refl, sym, ◌∙◌, ap, ap₂}
use mathlib.Core.List.{List, ◌∷◌, ◌++◌, flat_map}
use Prim.Native.Nat.{ℕ, zero, suc, ◌+◌, ◌*◌, ◌≤◌}
use native.Mathlib.Nat.{mul-le-mul_right}
use native.Mathlib.Omega.{arith}
use lib.ListN.{length}
use Rattle.lists.specs.Rows.{rows, All, none, more}
use Rattle.lists.proofs.Rows.{rows_same}
use Rattle.lists.proofs.Each.{all-rows}
use Rattle.lists.proofs.Flat.{length-pieces}
use Rattle.wire.specs.Bytes.{part, AreBytes}
use Rattle.wire.proofs.Parts.{part_join}
use Rattle.format.proofs.Sections.{part-first, part-second}
use Rattle.format.proofs.Trip.{Trip}

module _ {A : Type 0} {n : ℕ} {at : List ℕ → ℕ → A} {out : A → List ℕ} {F : A → Type 0} (T : Trip n at out F) where
  -- The rows from i, without the first, are the rows from i + n.
  later : (m : ℕ) (s : List ℕ) (i : ℕ) → rows m (λ k. at s (i + suc k * n)) ≡ rows m (λ k. at s (i + n + k * n))
  later m s i = rows_same m (λ k. at s (i + suc k * n)) (λ k. at s (i + n + k * n)) (λ k l. let e : i + suc k * n ≡ i + n + k * n = omega arith in ap (at s) e)

  first : (s : List ℕ) (i : ℕ) → at s (i + 0 * n) ≡ at s i
  first s i = let e : i + 0 * n ≡ i = omega arith in ap (at s) e

  reads : {xs : List A} → All F xs → (s : List ℕ) (i : ℕ) → part s i (length xs * n) ≡ flat_map out xs → rows (length xs) (λ k. at s (i + k * n)) ≡ xs
  unfolding rows flat_map
  reads none s i e = refl
  reads (more {x} {xs} p h) s i e =
      let c : n + length xs * n ≡ suc (length xs) * n = omega arith in
      let d : part s i (n + length xs * n) ≡ out x ++ flat_map out xs = ap (part s i) c ∙ e in
      ap₂ {B = List A} {C = List A} (λ y t. y ∷ t)
      (first s i ∙ T.read s i x p (part-first s i n (length xs * n) (out x) (flat_map out xs) (T.size x) d))
      (later (length xs) s i
      ∙ reads h s (i + n) (part-second s i n (length xs * n) (out x) (flat_map out xs) (T.size x) (length-pieces n out T.size xs) d))

  -- Where the bytes of m records stand, they are read.
  pub rows-read : {xs : List A} → All F xs → (m : ℕ) → length xs ≡ m → (s : List ℕ) (i : ℕ) → part s i (m * n) ≡ flat_map out xs
      → rows m (λ k. at s (i + k * n)) ≡ xs
  rows-read h m l s i e =
      ap (λ (c : ℕ). rows c (λ k. at s (i + k * n))) (sym l)
      ∙ reads h s i (ap (λ (c : ℕ). part s i (c * n)) l ∙ e)

  -- The bytes of m records that are read are those that stand there.
  pub rows_write : (m : ℕ) (s : List ℕ) (i : ℕ) → AreBytes s → i + m * n ≤ length s → flat_map out (rows m (λ k. at s (i + k * n))) ≡ part s i (m * n)
  unfolding rows flat_map part
  rows_write zero s i h l = let e : 0 ≡ 0 * n = omega arith in ap (part s i) e
  rows_write (suc m) s i h l =
      let c : n + m * n ≡ suc m * n = omega arith in
      ap₂ ◌++◌ (ap out (first s i) ∙ T.write s i h (omega arith)) (ap (flat_map out) (later m s i) ∙ rows_write m s (i + n) h (omega arith))
      ∙ sym (part_join s i n (m * n))
      ∙ ap (part s i) c

  -- Records that are read fit.
  pub rows_fit : (m : ℕ) (s : List ℕ) (i : ℕ) → AreBytes s → i + m * n ≤ length s → All F (rows m (λ k. at s (i + k * n)))
  rows_fit m s i h l = all-rows m (λ k. at s (i + k * n)) (λ k b. T.fits s (i + k * n) h (omega (arith, mul-le-mul_right n b)))
