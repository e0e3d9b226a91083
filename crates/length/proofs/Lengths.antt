-- `length_of d` is the f64 nearest to √d ÷ 2, and the only one; of a square's root it is the half itself.
use mathlib.Core.Path.{◌≡◌, refl, sym, ap, subst, ◌∙◌}
use mathlib.Core.Logic.{◌↔◌}
use mathlib.Core.Bool.{true, false}
use Prim.Native.Nat.{ℕ, zero, suc, ◌+◌, ◌-◌, ◌*◌, ◌^◌, ◌≤◌, ◌<◌}
use native.Mathlib.Nat.{le_trans, mul-le-mul, mul-le-mul_right, mul-lt-mul_of_pos_right, mul-pos}
use native.Mathlib.Omega.{arith}
use lib.Pow.{pow_pos, pow-add}
use lib.IntN.{pos}
use lib.Dec.{T}
use lib.Ieee.{Float, fin, binary64, fits, round, div, of_int, of_bits, size}
use lib.Ieee.Digits.{size-lt, size-le, size_reaches}
use lib.Ieee.Exact.{HasValue}
use lib.Ieee.Fits.{round-fits}
use Rattle.length.specs.Root.{Rooted, Square, whole_root, rest_of, is_square}
use Rattle.length.specs.Nearest.{NearestLength, ExactRoot}
use Rattle.length.specs.Length.{root_places, halved, length_of, length_at}
use Rattle.length.specs.declared.Length.{Length}
use Rattle.length.proofs.Powers.{twice_power}
use Rattle.length.proofs.Squares.{root-lt, le-square}
use Rattle.length.proofs.Roots.{root_is, root-pos, square-is, is-square}
use Rattle.length.proofs.Values.{cross, is_plain}
use Rattle.length.proofs.Unique.{nearest-unique}
use Rattle.length.proofs.Exact.{exact-nearest, exact-square}
use Rattle.length.proofs.Near.{nearest}
use Rattle.length.proofs.Quotient.{exact, quotient}

-- r is the root of d, and R that of d * p * p: so R is r with more digits
module _ (d r q R Q p : ℕ) (h : Rooted d r q) (H : Rooted (d * (p * p)) R Q) (P : 0 < p) where
  at_least : r * p ≤ R
  at_least =
      let low : r * r ≤ d = omega (arith, h.sum) in
      let s : r * p < suc R = root-lt {a = r * p} {b = suc R} (omega (arith, mul-le-mul_right (p * p) low, H.sum, H.small)) in
      omega arith

  under : (t : ℕ) → r < t → R < t * p
  under t l =
      let high : d < t * t = omega (arith, mul-le-mul l l, h.sum, h.small) in
      root-lt {a = R} {b = t * p} (omega (arith, mul-lt-mul_of_pos_right high (mul-pos P P), H.sum))

-- half a root of 54 digits
rounded : (d k R Q : ℕ) → Rooted (d * (2 ^ suc k * 2 ^ suc k)) R Q → 2 ^ 53 ≤ R → R < 2 ^ 54 → k ≤ 52
    → NearestLength d (round binary64 false (halved R) (2 ^ suc k))
rounded d k R Q h lo hi K =
    nearest d R Q k (halved R) (round binary64 false (halved R) (2 ^ suc k)) h.sum h.small lo
    (exact (halved R) (suc k) (omega arith) (omega arith)) (round-fits binary64 false (halved R) (2 ^ suc k)) (omega arith) (omega arith)

-- the root before the point has s + 1 digits
module _ (d s : ℕ) (D : d ≤ 2 ^ 29) (is : size (whole_root d) ≡ suc s) where
  few : s ≤ 14
  few = let l = size-le (whole_root d) 15 (root-lt {a = whole_root d} {b = 2 ^ 15} (omega (arith, (root_is d).sum))) in omega arith

  -- the powers of two that the digits before and after the point stand for
  low : 2 ^ s * 2 ^ suc (52 - s) ≡ 2 ^ 53
  low = sym (pow-add 2 s (suc (52 - s))) ∙ ap (λ (z : ℕ). 2 ^ z) (let e : s + suc (52 - s) ≡ 53 = omega (arith, few) in e)

  high : 2 ^ suc s * 2 ^ suc (52 - s) ≡ 2 ^ 54
  high = sym (pow-add 2 (suc s) (suc (52 - s))) ∙ ap (λ (z : ℕ). 2 ^ z) (let e : suc s + suc (52 - s) ≡ 54 = omega (arith, few) in e)

  wide : NearestLength d (round binary64 false (halved (whole_root (d * 2 ^ (2 * suc (52 - s))))) (2 ^ suc (52 - s)))
  wide =
      let k = 52 - s in
      let p = 2 ^ suc k in
      let n = d * (p * p) in
      let r = whole_root d in
      let a : 2 ^ s ≤ r = size_reaches r s (omega arith) in
      let b : r < 2 ^ suc s = subst (λ (z : ℕ). r < 2 ^ z) is (size-lt r) in
      let lo : 2 ^ s * p ≤ whole_root n =
      le_trans (mul-le-mul_right p a) (at_least d r (rest_of d) (whole_root n) (rest_of n) p (root_is d) (root_is n) (pow_pos (suc k))) in
      let hi : whole_root n < 2 ^ suc s * p = under d r (rest_of d) (whole_root n) (rest_of n) p (root_is d) (root_is n) (pow_pos (suc k)) (2 ^ suc s) b in
      subst (λ (z : ℕ). NearestLength d (round binary64 false (halved (whole_root (d * z))) p)) (sym (twice_power (suc k)))
      (rounded d k (whole_root n) (rest_of n) (root_is n) (subst (λ (z : ℕ). z ≤ whole_root n) low lo) (subst (λ (z : ℕ). whole_root n < z) high hi)
      (omega arith))

  places_is : root_places d ≡ suc (52 - s)
  unfolding root_places
  places_is = let f = few in omega arith

  above_zero : NearestLength d (length_of d)
  unfolding length_of
  above_zero = subst (λ (z : ℕ). NearestLength d (round binary64 false (halved (whole_root (d * 2 ^ (2 * z)))) (2 ^ z))) (sym places_is) wide

-- 0.0 is half the root of 0
pub zero-nearest : NearestLength 0 (of_bits binary64 0)
unfolding of_bits fits
zero-nearest = exact-nearest 0 (fin false 0 (pos 0)) (record { held = tt; plain = tt }) refl

length-zero : length_of 0 ≡ of_bits binary64 0
unfolding length_of of_bits
length-zero = refl

pub length-nearest : (d : ℕ) → d ≤ 2 ^ 29 → NearestLength d (length_of d)
length-nearest zero D = rw length-zero zero-nearest
length-nearest (suc d) D = go (size (whole_root (suc d))) refl
  where
    go : (s : ℕ) → size (whole_root (suc d)) ≡ s → NearestLength (suc d) (length_of (suc d))
    go zero e =
        absurd (omega (arith, root-pos (suc d) (whole_root (suc d)) (rest_of (suc d)) (root_is (suc d)) (omega arith), rw e at (size-lt (whole_root (suc d)))))
    go (suc s) e = above_zero (suc d) s D e

pub length-unique : (d : ℕ) (x : Float) → d ≤ 2 ^ 29 → NearestLength d x → x ≡ length_of d
length-unique d x D h = nearest-unique d x (length_of d) h (length-nearest d D)

pub is-length : (d : ℕ) (x : Length) → d ≤ 2 ^ 29 → NearestLength d x.value → x.exact ≡ is_square d → x ≡ length_at d
is-length d x D h e = let f = length-unique d x.value D h in λ i. record { value = f i; exact = e i }

-- the length of a square is half its root
half-exact : (s : ℕ) (x : Float) → HasValue x false s 2 → ExactRoot (s * s) x
half-exact s x h = let e = ap (λ (z : ℕ). z * z) (cross x s 2 h) in omega arith

half-nearest : (s : ℕ) (x : Float) → HasValue x false s 2 → T (fits binary64 x) → NearestLength (s * s) x
half-nearest s x v f = exact-nearest (s * s) x (record { held = f; plain = is_plain x s 2 v }) (half-exact s x v)

pub length-half : (s : ℕ) → s * s ≤ 2 ^ 29 → HasValue (length_of (s * s)) false s 2
length-half s D =
    let x = round binary64 false s 2 in
    let v : HasValue x false s 2 = exact s 1 (omega arith) (omega (arith, le-square s)) in
    subst (λ (y : Float). HasValue y false s 2) (length-unique (s * s) x D (half-nearest s x v (round-fits binary64 false s 2))) v

-- and so the quotient of its root and 2.0
two : of_bits binary64 0x4000_0000_0000_0000 ≡ of_int binary64 (pos 2)
unfolding of_bits of_int
two = refl

pub root-halved : (d s : ℕ) → 0 < s → d ≤ 2 ^ 29 → s * s ≡ d → NearestLength d (div binary64 (of_int binary64 (pos s)) (of_bits binary64 0x4000_0000_0000_0000))
root-halved d s S D e =
    let q = quotient s 2 1 refl (omega arith) S (omega (arith, le-square s)) in
    rw (two, ← e) (half-nearest s (div binary64 (of_int binary64 (pos s)) (of_int binary64 (pos 2))) q.0 q.1)

-- so the length is √d ÷ 2 itself if d is a square, and only then
pub length-exact : (d : ℕ) → d ≤ 2 ^ 29 → (is_square d ≡ true) ↔ ExactRoot d (length_of d)
length-exact d D = (there, λ e. is-square d (exact-square d (length_of d) (length-nearest d D).value.held e))
  where
    there : is_square d ≡ true → ExactRoot d (length_of d)
    there e =
        let k = square-is d e in
        let s = k.0 in
        subst (λ (z : ℕ). ExactRoot z (length_of z)) k.1 (half-exact s (length_of (s * s)) (length-half s (subst (λ (z : ℕ). z ≤ 2 ^ 29) (sym k.1) D)))

-- the mark, both ways: true exactly if d is the square of a whole number, and on a map exactly if the value is √d ÷ 2 itself
pub exact-iff : (d : ℕ) → (((length_at d).exact ≡ true) ↔ Square d) × (d ≤ 2 ^ 29 → ((length_at d).exact ≡ true) ↔ ExactRoot d (length_at d).value)
exact-iff d = ((square-is d, is-square d), length-exact d)
