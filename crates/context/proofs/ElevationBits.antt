-- The set of elevations of a region: bit e is set exactly if a cell of it has elevation e.
use mathlib.Core.Path.{◌≡◌, refl, sym, ◌∙◌, ap}
use mathlib.Core.Logic.{◌↔◌}
use mathlib.Core.Bool.{Bool, true, false, cond}
use mathlib.Core.List.{List, [], ◌∷◌, Memᴰ}
use Prim.Native.Nat.{ℕ, zero, suc, ◌+◌, ◌*◌, ◌/◌, ◌%◌, ◌^◌, ◌<◌}
use native.Mathlib.Omega.{arith}
use native.Mathlib.Nat.{pow-succ', div-div-eq-div-mul, zero-div}
use borrow.Author.Tests.{ltb-true, lt-ltb}
use lib.Dec.{ltb}
use lib.ListN.{get_or}
use Rattle.grid.specs.Cells.{Grid, elevation}
use Rattle.context.specs.RegionStats.{region_cells, region_stats, elevation_bits, elevations}
use Rattle.context.specs.Held.{one}
use Rattle.context.proofs.RegionStats.{elevation-iff}

-- a bit, and what is above it
halved : (t : Bool) (m : ℕ) → ((cond t 1 0 + 2 * m) / 2 ≡ m) × ((cond t 1 0 + 2 * m) % 2 ≡ cond t 1 0)
halved true m = (omega arith, omega arith)
halved false m = (omega arith, omega arith)

bit-of : (ns : List ℕ) (e : ℕ) → elevation_bits ns / 2 ^ e % 2 ≡ cond (ltb 0 (get_or ns e 0)) 1 0
unfolding elevation_bits
bit-of [] e = ap (λ (k : ℕ). k % 2) (zero-div (2 ^ e))
bit-of (n ∷ ns) zero =
    let v = cond (ltb 0 n) 1 0 + 2 * elevation_bits ns in
    let whole : v / 1 ≡ v = omega arith in
    ap (λ (k : ℕ). k % 2) whole ∙ (halved (ltb 0 n) (elevation_bits ns)).1
bit-of (n ∷ ns) (suc e) =
    let v = cond (ltb 0 n) 1 0 + 2 * elevation_bits ns in
    ap (λ (k : ℕ). v / k % 2) (pow-succ' 2 e)
    ∙ (ap (λ (k : ℕ). k % 2) (sym (div-div-eq-div-mul v 2 (2 ^ e)))
    ∙ (ap (λ (k : ℕ). k / 2 ^ e % 2) (halved (ltb 0 n) (elevation_bits ns)).0 ∙ bit-of ns e))

one-true : (t : Bool) → ◌≡◌ {A = ℕ} (cond t 1 0) 1 → t ≡ true
one-true true e = refl
one-true false e = absurd (omega arith)

module _ (g : Grid) (ls : List ℕ) (r e : ℕ) (small : e < 4) where
  count : ℕ
  count = get_or (region_stats g ls r).elevation_counts e 0

  pub elevations-iff : (elevations (region_stats g ls r) / 2 ^ e % 2 ≡ 1) ↔ ((i : ℕ) × Memᴰ i (region_cells ls r) × (elevation g i ≡ e))
  unfolding elevations count
  elevations-iff = (
    λ h. (elevation-iff g ls r e small).0 (ltb-true 0 count (one-true (ltb 0 count) (sym (bit-of (region_stats g ls r).elevation_counts e) ∙ h))),
    λ w. bit-of (region_stats g ls r).elevation_counts e ∙ ap (λ (t : Bool). cond t 1 0) (lt-ltb 0 count ((elevation-iff g ls r e small).1 w)),
  )

-- the sum that the code adds up
pub bits_are : (a b c d : ℕ) → one (ltb 0 a) + 2 * one (ltb 0 b) + 4 * one (ltb 0 c) + 8 * one (ltb 0 d) ≡ elevation_bits (a ∷ b ∷ c ∷ d ∷ [])
unfolding elevation_bits
bits_are a b c d = omega arith

-- no other bit is set
pub four-bits : (a b c d : ℕ) → elevation_bits (a ∷ b ∷ c ∷ d ∷ []) < 16
unfolding elevation_bits
four-bits a b c d = below (ltb 0 a) (ltb 0 b) (ltb 0 c) (ltb 0 d)
  where
    bit : (t : Bool) → cond t 1 0 < 2
    bit true = omega arith
    bit false = omega arith

    below : (p q s t : Bool) → cond p 1 0 + 2 * (cond q 1 0 + 2 * (cond s 1 0 + 2 * (cond t 1 0 + 2 * 0))) < 16
    below p q s t = omega (arith, bit p, bit q, bit s, bit t)
