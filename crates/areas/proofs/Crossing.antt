-- A common point by a weight for each end. The weights of a proper crossing are the four orientations.
use mathlib.Core.Path.{◌≡◌, ◌∙◌, ap}
use Prim.Native.Nat.{ℕ, ◌+◌, ◌*◌, ◌-◌, ◌<◌}
use native.Mathlib.Omega.{arith}
use native.Mathlib.Nat.{add_comm, le_dest}
use Rattle.position.specs.declared.PixelPosition.{PixelPosition}
use Rattle.areas.specs.Segments.{cross_plus, cross_minus, Meets}
use Rattle.areas.proofs.OnSegment.{Between}

-- a point that is r parts a and s parts b, and u parts c and t parts d
pub record Weighed (a b c d : PixelPosition) : Type 0 where
  pub r : ℕ
  pub s : ℕ
  pub u : ℕ
  pub t : ℕ
  pub some : 0 < r + s
  pub all : r + s ≡ u + t
  pub same-x : a.x * r + b.x * s ≡ c.x * u + d.x * t
  pub same-y : a.y * r + b.y * s ≡ c.y * u + d.y * t

-- the same as a common point
pub weigh : {a b c d : PixelPosition} → Meets a b c d → Weighed a b c d
weigh k = record {
  r = k.n - k.s;
  s = k.s;
  u = k.n - k.t;
  t = k.t;
  some = omega arith;
  all = omega arith;
  same-x = k.same-x;
  same-y = k.same-y;
}

pub unweigh : {a b c d : PixelPosition} → Weighed a b c d → Meets a b c d
unweigh w = record {
  n = w.r + w.s;
  s = w.s;
  t = w.t;
  some = w.some;
  s-in = omega arith;
  t-in = omega arith;
  same-x = rw (er, eu) w.same-x;
  same-y = rw (er, eu) w.same-y;
}
  where
    er : w.r + w.s - w.s ≡ w.r
    er = omega arith

    eu : w.r + w.s - w.t ≡ w.u
    eu = omega arith

-- the ends of a segment, and the two segments, in the other order
unfoldable pub flip : {a b c d : PixelPosition} → Weighed a b d c → Weighed a b c d
flip w = record { r = w.r; s = w.s; u = w.t; t = w.u; some = w.some; all = omega arith; same-x = omega arith; same-y = omega arith }

unfoldable pub trade : {a b c d : PixelPosition} → Weighed c d a b → Weighed a b c d
trade w = record { r = w.u; s = w.t; u = w.r; t = w.s; some = omega arith; all = omega arith; same-x = omega arith; same-y = omega arith }

-- an end that is on the other segment
pub at-end : {a b c d : PixelPosition} → Between a b c → Weighed a b c d
at-end w = record { r = w.r; s = w.s; u = w.r + w.s; t = 0; some = w.some; all = omega arith; same-x = omega arith; same-y = omega arith }

pub end-at : {a b c d : PixelPosition} (w : Weighed a b c d) → w.t ≡ 0 → Between a b c
end-at {c = c} {d = d} w z = record {
  r = w.r;
  s = w.s;
  some = w.some;
  at_x = w.same-x ∙ omega (arith, ap (λ q. c.x * q) w.all, ap (λ q. c.x * q) z, ap (λ q. d.x * q) z);
  at_y = w.same-y ∙ omega (arith, ap (λ q. c.y * q) w.all, ap (λ q. c.y * q) z, ap (λ q. d.y * q) z);
}

-- one end of the second segment below the first, the other above it
left : (ax ay bx by cx dx dy u : ℕ) → ax * by + bx * dy + dx * ay + u ≡ ax * dy + bx * ay + dx * by →
    cx * u + (bx * cx * dy + ax * by * cx + cx * dx * ay) ≡ bx * ay * cx + ax * cx * dy + cx * dx * by
left ax ay bx by cx dx dy u h = omega (arith, ap (λ w. cx * w) h)

right : (ax ay bx by cx cy dx t : ℕ) → ax * cy + bx * ay + cx * by + t ≡ ax * by + bx * cy + cx * ay →
    dx * t + (bx * ay * dx + ax * dx * cy + cx * dx * by) ≡ bx * dx * cy + ax * by * dx + cx * dx * ay
right ax ay bx by cx cy dx t h = omega (arith, ap (λ w. dx * w) h)

half : (ax ay bx by cx cy dx dy u t : ℕ) → ax * cy + bx * ay + cx * by + t ≡ ax * by + bx * cy + cx * ay →
    ax * by + bx * dy + dx * ay + u ≡ ax * dy + bx * ay + dx * by →
    cx * u + dx * t + (bx * cx * dy + ax * by * cx + bx * ay * dx + ax * dx * cy) ≡ bx * ay * cx + ax * cx * dy + bx * dx * cy + ax * by * dx
half ax ay bx by cx cy dx dy u t ht hu = omega (arith, left ax ay bx by cx dx dy u hu, right ax ay bx by cx cy dx t ht)

last : (ax ay bx by cx cy dx dy r s u t : ℕ) →
    cx * u + dx * t + (bx * cx * dy + ax * by * cx + bx * ay * dx + ax * dx * cy) ≡ bx * ay * cx + ax * cx * dy + bx * dx * cy + ax * by * dx →
    bx * s + ax * r + (dx * bx * ay + cx * dy * bx + dx * cy * ax + cx * ax * by) ≡ dx * cy * bx + cx * bx * ay + dx * ax * by + cx * dy * ax →
    ax * r + bx * s ≡ cx * u + dx * t
last ax ay bx by cx cy dx dy r s u t f g = omega arith

crossing : (ax ay bx by cx cy dx dy r s u t : ℕ) → ax * cy + bx * ay + cx * by + t ≡ ax * by + bx * cy + cx * ay →
    ax * by + bx * dy + dx * ay + u ≡ ax * dy + bx * ay + dx * by → cx * dy + dx * ay + ax * cy + s ≡ cx * ay + dx * cy + ax * dy →
    cx * by + dx * cy + bx * dy + r ≡ cx * dy + dx * by + bx * cy → ax * r + bx * s ≡ cx * u + dx * t
crossing ax ay bx by cx cy dx dy r s u t ht hu hs hr =
    last ax ay bx by cx cy dx dy r s u t (half ax ay bx by cx cy dx dy u t ht hu) (half cx cy dx dy bx by ax ay s r hr hs)

-- c above the line a b and d below it, a below the line c d and b above it
pub proper : (a b c d : PixelPosition) → cross_minus a b c < cross_plus a b c → cross_plus a b d < cross_minus a b d → cross_plus c d a < cross_minus c d a →
    cross_minus c d b < cross_plus c d b → Weighed a b c d
proper a b c d hc hd ha hb =
    let t : (k : ℕ) × (cross_minus a b c + k ≡ cross_plus a b c) = le_dest (omega arith) in
    let u : (k : ℕ) × (cross_plus a b d + k ≡ cross_minus a b d) = le_dest (omega arith) in
    let s : (k : ℕ) × (cross_plus c d a + k ≡ cross_minus c d a) = le_dest (omega arith) in
    let r : (k : ℕ) × (cross_minus c d b + k ≡ cross_plus c d b) = le_dest (omega arith) in
    record {
      r = r.0;
      s = s.0;
      u = u.0;
      t = t.0;
      some = omega arith;
      all = omega arith;
      same-x = crossing a.x a.y b.x b.y c.x c.y d.x d.y r.0 s.0 u.0 t.0 t.1 u.1 s.1 r.1;
      same-y =
          add_comm (a.y * r.0) (b.y * s.0)
          ∙ crossing b.y b.x a.y a.x c.y c.x d.y d.x s.0 r.0 u.0 t.0 (omega arith) (omega arith) (omega arith)
          (omega arith);
    }
