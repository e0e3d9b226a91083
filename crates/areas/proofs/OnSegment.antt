-- A point is on a closed segment exactly if it is a weighed mean of the two ends.
use mathlib.Core.Path.{◌≡◌, ap}
use mathlib.Core.Logic.{◌↔◌, by_cases}
use mathlib.Core.Bool.{Bool, true, ◌&&◌}
use Prim.Native.Nat.{ℕ, ◌+◌, ◌*◌, ◌≤◌, ◌<◌, min, max}
use native.Mathlib.Omega.{arith}
use native.Mathlib.Nat.{le_dest, mul-le-mul_right, eq_of_mul-eq-mul_left}
use native.Mathlib.Decide.{dec_lt}
use borrow.Author.Tests.{eqb-true, leb-true, eq-eqb, le-leb}
use lib.Dec.{leb, eqb}
use Rattle.order.proofs.Bools.{and_parts, and_both}
use Rattle.position.specs.declared.PixelPosition.{PixelPosition}
use Rattle.areas.specs.Segments.{cross_plus, cross_minus, on_segment}

-- p is r parts a and s parts b
pub record Between (a b p : PixelPosition) : Type 0 where
  pub r : ℕ
  pub s : ℕ
  pub some : 0 < r + s
  pub at_x : a.x * r + b.x * s ≡ p.x * (r + s)
  pub at_y : a.y * r + b.y * s ≡ p.y * (r + s)

-- p is on the line, and in the box of the two ends
pub record On (a b p : PixelPosition) : Type 0 where
  pub flat : cross_plus a b p ≡ cross_minus a b p
  pub x-lo : min a.x b.x ≤ p.x
  pub x-hi : p.x ≤ max a.x b.x
  pub y-lo : min a.y b.y ≤ p.y
  pub y-hi : p.y ≤ max a.y b.y

-- columns and rows exchanged
abbrev pub tip : PixelPosition → PixelPosition
tip p = record { x = p.y; y = p.x }

-- one coordinate grows from a by s to p and by r to b
raw : (ax ay bx by px py r s : ℕ) → ax + s ≡ px → px + r ≡ bx → ax * by + bx * py + px * ay ≡ ax * py + bx * ay + px * by →
    (ax * r + bx * s ≡ px * (r + s)) × (ay * r + by * s ≡ py * (r + s))
raw ax ay bx by px py r s e f z = (
  omega (arith, ap (λ q. q * s) f, ap (λ q. q * r) e),
  omega (arith, ap (λ q. q * py) e, ap (λ q. q * py) f, ap (λ q. q * ay) e, ap (λ q. q * ay) f, ap (λ q. q * by) e),
)

pub rise : (a b p : PixelPosition) → cross_plus a b p ≡ cross_minus a b p → a.x ≤ p.x → p.x ≤ b.x → a.x < b.x → Between a b p
rise a b p e lo hi h =
    let i : (k : ℕ) × (a.x + k ≡ p.x) = le_dest lo in
    let j : (k : ℕ) × (p.x + k ≡ b.x) = le_dest hi in
    let q : (a.x * j.0 + b.x * i.0 ≡ p.x * (j.0 + i.0)) × (a.y * j.0 + b.y * i.0 ≡ p.y * (j.0 + i.0)) =
    raw a.x a.y b.x b.y p.x p.y j.0 i.0 i.1 j.1 e in
    record { r = j.0; s = i.0; some = omega arith; at_x = q.0; at_y = q.1 }

pub turn : {a b p : PixelPosition} → Between b a p → Between a b p
turn w = record { r = w.s; s = w.r; some = omega arith; at_x = omega arith; at_y = omega arith }

untip : {a b p : PixelPosition} → Between (tip a) (tip b) (tip p) → Between a b p
untip w = record { r = w.r; s = w.s; some = w.some; at_x = w.at_y; at_y = w.at_x }

pub on-between : (a b p : PixelPosition) → On a b p → Between a b p
on-between a b p o =
    by_cases (dec_lt a.x b.x) (λ h. rise a b p o.flat (omega arith) (omega arith) h) λ xa.
    by_cases (dec_lt b.x a.x) (λ h. turn (rise b a p (omega arith) (omega arith) (omega arith) h)) λ xb.
    by_cases (dec_lt a.y b.y) (λ h. untip {a = a} {b = b} {p = p} (rise (tip a) (tip b) (tip p) (omega arith) (omega arith) (omega arith) h)) λ ya.
    by_cases (dec_lt b.y a.y) (λ h. turn (untip {a = b} {b = a} {p = p} (rise (tip b) (tip a) (tip p) (omega arith) (omega arith) (omega arith) h))) λ yb.
    record { r = 1; s = 0; some = omega arith; at_x = omega arith; at_y = omega arith }

pub between-on : (a b p : PixelPosition) → Between a b p → On a b p
between-on a b p w = record {
  flat =
      eq_of_mul-eq-mul_left (w.r + w.s) w.some (cross_plus a b p) (cross_minus a b p)
      (omega (arith, ap (λ q. a.x * q) w.at_y, ap (λ q. b.x * q) w.at_y, ap (λ q. a.y * q) w.at_x, ap (λ q. b.y * q) w.at_x));
  x-lo = low a.x b.x p.x w.r w.s w.some w.at_x;
  x-hi = high a.x b.x p.x w.r w.s w.some w.at_x;
  y-lo = low a.y b.y p.y w.r w.s w.some w.at_y;
  y-hi = high a.y b.y p.y w.r w.s w.some w.at_y;
}
  where
    low : (a b p r s : ℕ) → 0 < r + s → a * r + b * s ≡ p * (r + s) → min a b ≤ p
    low a b p r s h e =
        by_cases (dec_lt p (min a b))
        (λ l. absurd (omega (arith, mul-le-mul_right {m = p + 1} {n = a} r (omega arith), mul-le-mul_right {m = p + 1} {n = b} s (omega arith))))
        (λ l. omega arith)

    high : (a b p r s : ℕ) → 0 < r + s → a * r + b * s ≡ p * (r + s) → p ≤ max a b
    high a b p r s h e =
        by_cases (dec_lt (max a b) p)
        (λ l. absurd (omega (arith, mul-le-mul_right {m = a + 1} {n = p} r (omega arith), mul-le-mul_right {m = b + 1} {n = p} s (omega arith))))
        (λ l. omega arith)

-- the computed test
pub on-iff : (a b p : PixelPosition) → (on_segment a b p ≡ true) ↔ On a b p
unfolding on_segment
on-iff a b p = (to, from)
  where
    in-x : Bool
    in-x = leb (min a.x b.x) p.x && leb p.x (max a.x b.x)

    in-y : Bool
    in-y = leb (min a.y b.y) p.y && leb p.y (max a.y b.y)

    to : eqb (cross_plus a b p) (cross_minus a b p) && (in-x && in-y) ≡ true → On a b p
    to h =
        let u = and_parts (eqb (cross_plus a b p) (cross_minus a b p)) (in-x && in-y) h in
        let v = and_parts in-x in-y u.1 in
        let x = and_parts (leb (min a.x b.x) p.x) (leb p.x (max a.x b.x)) v.0 in
        let y = and_parts (leb (min a.y b.y) p.y) (leb p.y (max a.y b.y)) v.1 in
        record { flat = eqb-true _ _ u.0; x-lo = leb-true _ _ x.0; x-hi = leb-true _ _ x.1; y-lo = leb-true _ _ y.0; y-hi = leb-true _ _ y.1 }

    from : On a b p → eqb (cross_plus a b p) (cross_minus a b p) && (in-x && in-y) ≡ true
    from o =
        and_both (eq-eqb (cross_plus a b p) (cross_minus a b p) o.flat)
        (and_both (and_both (le-leb (min a.x b.x) p.x o.x-lo) (le-leb p.x (max a.x b.x) o.x-hi))
        (and_both (le-leb (min a.y b.y) p.y o.y-lo) (le-leb p.y (max a.y b.y) o.y-hi)))
