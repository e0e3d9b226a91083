-- The line of a span, and how near it is to the cells of a step that has a point in common with the span: each is within 8 pixels of
-- the point on each axis, clamping moves towards it, and the slope is at most 1, so that the line is within 16 pixels of the centre.
use mathlib.Core.Path.{◌≡◌, refl, sym, ◌∙◌, ap}
use mathlib.Core.Logic.{by_cases}
use Prim.Native.Nat.{ℕ, ◌+◌, ◌*◌, ◌-◌, ◌/◌, ◌≤◌, ◌<◌}
use native.Mathlib.Omega.{arith}
use native.Mathlib.Nat.{le_dest, mul-add, add-mul, div-mul-le_self, mul-le-mul_left, mul-le-mul_right, le_of_mul-le-mul_left}
use native.Mathlib.Nat.{div-le_of_le-mul, lt-div-mul-add, lt_of_mul-lt-mul_right}
use native.Mathlib.Decide.{dec_lt, dec_le}
use Rattle.areas.specs.Strip.{InRange, clamp, line_at, stated_axis, stated_minor, axis_range, minor_range, Near}

-- n / d rounded down, where n = plus - minus may be negative: q * d ≤ n < (q + 1) * d
pub record Floor (plus minus d q : ℕ) : Type 0 where
  pub below : q * d + minus ≤ plus
  pub above : plus < (q + 1) * d + minus

-- `line_at` is (lm * (u - l) + (um - lm) * (v - l)) / (u - l) rounded down, whatever the sign of um - lm
pub line-floor : (l lm u um v : ℕ) → l < u → l ≤ v → v ≤ u → Floor (lm * (u - l) + um * (v - l)) (lm * (v - l)) (u - l) (line_at l lm u um v)
unfolding line_at
line-floor l lm u um v lu lv vu =
    let e : u - l ≡ (u - v) + (v - l) = omega arith in
    let k : lm * (u - l) ≡ lm * (u - v) + lm * (v - l) = ap (λ z. lm * z) e ∙ mul-add lm (u - v) (v - l) in
    go (lm * (u - l)) (lm * (u - v)) (um * (v - l)) (lm * (v - l)) (u - l) k (omega arith)
  where
    go : (x y z m d : ℕ) → x ≡ y + m → 0 < d → Floor (x + z) m d ((y + z) / d)
    go x y z m d e h = record { below = omega (arith, div-mul-le_self (y + z) d); above = omega (arith, lt-div-mul-add {a = y + z} h) }

-- the line is nowhere past both of its ends
pub line-most : (l lm u um v m : ℕ) → l < u → l ≤ v → v ≤ u → lm ≤ m → um ≤ m → line_at l lm u um v ≤ m
unfolding line_at
line-most l lm u um v m lu lv vu low high =
    let whole : u - l ≡ (u - v) + (v - l) = omega arith in
    let top : (u - l) * m ≡ (u - v) * m + (v - l) * m = ap (λ z. z * m) whole ∙ add-mul (u - v) (v - l) m in
    div-le_of_le-mul (u - l) (omega (arith, top, mul-le-mul_right (u - v) low, mul-le-mul_right (v - l) high))

-- a mean of two numbers that differ by at most 8 is near each
near : (p q v t w n : ℕ) → w ≡ p * v + q * t → n ≡ v + t → q ≤ p + 8 → p ≤ q + 8 → (w ≤ n * p + 8 * n) × (n * p ≤ w + 8 * n)
near p q v t w n e f g h = omega (arith, ap (λ z. z * p) f, mul-le-mul_right t g, mul-le-mul_right t h)

-- a mean is between the two
mean : (l u r s w n : ℕ) → w ≡ l * r + u * s → n ≡ r + s → l ≤ u → (n * l ≤ w) × (w ≤ n * u)
mean l u r s w n e f h = omega (arith, ap (λ z. z * l) f, ap (λ z. z * u) f, mul-le-mul_right s h, mul-le-mul_right r h)

-- a clamped number is no farther from a number of the range
clamped : (p l u w n : ℕ) → l ≤ u → n * l ≤ w → w ≤ n * u → w ≤ n * p + 8 * n → n * p ≤ w + 8 * n →
    (w ≤ n * clamp p l u + 8 * n) × (n * clamp p l u ≤ w + 8 * n)
clamped p l u w n h a b c d =
    by_cases (dec_lt p l) (λ k. let e : clamp p l u ≡ l = omega arith in rw e (omega (arith, mul-le-mul_left n k))) λ k.
    by_cases (dec_lt u p) (λ j. let e : clamp p l u ≡ u = omega arith in rw e (omega (arith, mul-le-mul_left n j))) λ j.
    let e : clamp p l u ≡ p = omega arith in rw e (c, d)

-- a step e along the major axis moves the line by at most as much
slope : (lm um g e n k q : ℕ) → k + lm * e ≡ q + um * e → um ≤ lm + g → lm ≤ um + g → e ≤ 8 * n → (k ≤ q + 8 * (n * g)) × (q ≤ k + 8 * (n * g))
slope lm um g e n k q z h i j = omega (arith, mul-le-mul_right e h, mul-le-mul_right e i, mul-le-mul_right g j)

-- o and o' are the parts of the way g, r and s the weights: the line at o, e parts past the weighed point
past : (lm um g o o' r s n e : ℕ) → o + o' ≡ g → n ≡ r + s → n * o ≡ g * s + e → n * (lm * o' + um * o) + lm * e ≡ g * (lm * r + um * s) + um * e
past lm um g o o' r s n e way all h =
    let k : n * o' + e ≡ g * r = omega (arith, ap (λ z. n * z) way, ap (λ z. g * z) all) in
    ends (ap (λ z. um * z) h) (ap (λ z. lm * z) k)
  where
    ends : um * (n * o) ≡ um * (g * s + e) → lm * (n * o' + e) ≡ lm * (g * r) → n * (lm * o' + um * o) + lm * e ≡ g * (lm * r + um * s) + um * e
    ends a b = omega arith

-- the line at o is within 8 of the weighed point, where o is
line-near : (lm g um o o' r s n : ℕ) → o + o' ≡ g → n ≡ r + s → um ≤ lm + g → lm ≤ um + g → g * s ≤ n * o + 8 * n → n * o ≤ g * s + 8 * n →
    (n * (lm * o' + um * o) ≤ g * (lm * r + um * s) + 8 * (n * g)) × (g * (lm * r + um * s) ≤ n * (lm * o' + um * o) + 8 * (n * g))
line-near lm g um o o' r s n way all i j a b =
    by_cases (dec_le (g * s) (n * o)) (λ h.
    let e : (k : ℕ) × (g * s + k ≡ n * o) = le_dest h in
    slope lm um g e.0 n (n * (lm * o' + um * o)) (g * (lm * r + um * s)) (past lm um g o o' r s n e.0 way all (sym e.1)) i j (omega (arith, e.1)))
    (λ h.
    let e : (k : ℕ) × (n * o + k ≡ g * s) = le_dest (omega arith) in
    let m : n * o' ≡ g * r + e.0 = omega (arith, e.1, ap (λ z. n * z) way, ap (λ z. g * z) all) in
    let z : n * (um * o + lm * o') + um * e.0 ≡ g * (um * s + lm * r) + lm * e.0 = past um lm g o' o s r n e.0 (omega arith) (omega arith) m in
    slope um lm g e.0 n (n * (lm * o' + um * o)) (g * (lm * r + um * s)) (omega (arith, z)) j i (omega (arith, e.1)))

-- by how much the line at the clamped centre can miss the cell's centre
line-at : (g k pm n w : ℕ) → 0 < n → 0 < g → n * k ≤ g * w + 8 * (n * g) → g * w ≤ n * k + 8 * (n * g) → w ≤ n * pm + 8 * n → n * pm ≤ w + 8 * n →
    (k / g ≤ pm + 16) × (pm ≤ k / g + 16)
line-at g k pm n w pn pg a b c d =
    let top : k ≤ g * (pm + 16) = le_of_mul-le-mul_left {m = k} {n = g * (pm + 16)} {k = n} (omega (arith, mul-le-mul_left g c)) pn in
    let bot : g * pm ≤ k + 16 * g = le_of_mul-le-mul_left {m = g * pm} {n = k + 16 * g} {k = n} (omega (arith, mul-le-mul_left g d)) pn in (
      div-le_of_le-mul g top,
      let z : pm < k / g + 17 = lt_of_mul-lt-mul_right g (omega (arith, lt-div-mul-add {a = k} pg)) in omega arith,
    )

-- the line at x, near the weighed point on the major axis, is near pm, near it on the other
near-line : (l lm u um x pm r s : ℕ) → l < u → l ≤ x → x ≤ u → um ≤ lm + (u - l) → lm ≤ um + (u - l) → 0 < r + s →
    l * r + u * s ≤ (r + s) * x + 8 * (r + s) → (r + s) * x ≤ l * r + u * s + 8 * (r + s) →
    lm * r + um * s ≤ (r + s) * pm + 8 * (r + s) → (r + s) * pm ≤ lm * r + um * s + 8 * (r + s) →
    (line_at l lm u um x ≤ pm + 16) × (pm ≤ line_at l lm u um x + 16)
unfolding line_at
near-line l lm u um x pm r s lu lx xu h i some a b c d =
    let far : (u - l) * s ≤ (r + s) * (x - l) + 8 * (r + s) = omega (arith, ap (λ z. z * s) eu, ap (λ z. z * (r + s)) ex) in
    let far' : (r + s) * (x - l) ≤ (u - l) * s + 8 * (r + s) = omega (arith, ap (λ z. z * s) eu, ap (λ z. z * (r + s)) ex) in
    both (line-near lm (u - l) um (x - l) (u - x) r s (r + s) (omega arith) refl h i far far')
  where
    eu : u ≡ l + (u - l)
    eu = omega arith

    ex : x ≡ l + (x - l)
    ex = omega arith

    both : ((r + s) * (lm * (u - x) + um * (x - l)) ≤ (u - l) * (lm * r + um * s) + 8 * ((r + s) * (u - l)))
        × ((u - l) * (lm * r + um * s) ≤ (r + s) * (lm * (u - x) + um * (x - l)) + 8 * ((r + s) * (u - l))) →
        (line_at l lm u um x ≤ pm + 16) × (pm ≤ line_at l lm u um x + 16)
    both z = line-at (u - l) (lm * (u - x) + um * (x - l)) pm (r + s) (lm * r + um * s) some (omega arith) z.0 z.1 c d

-- what is as near as that is in the ranges of the strip
in-ranges : (l lm u um size sizem c cm : ℕ) → c < size → cm < sizem → (l ≤ 8 * c + 4 + 8) × (8 * c + 4 ≤ u + 8) →
    (line_at l lm u um (clamp (8 * c + 4) l u) ≤ 8 * cm + 4 + 16) × (8 * cm + 4 ≤ line_at l lm u um (clamp (8 * c + 4) l u) + 16) →
    Near l lm u um size sizem c cm
unfolding axis_range minor_range
in-ranges l lm u um size sizem c cm cs cms e f = record { along = omega arith; beside = omega arith }

-- the ranges are within 002's
pub axis-stated : (l u limit k : ℕ) → InRange (axis_range l u limit) k → InRange (stated_axis l u limit) k
unfolding axis_range stated_axis
axis-stated l u limit k h = omega arith

pub minor-stated : (reference limit k : ℕ) → InRange (minor_range reference limit) k → InRange (stated_minor reference limit) k
unfolding minor_range stated_minor
minor-stated reference limit k h = omega arith

-- the cell c, cm is one end of a step, and q, qm the centre of the other; the common point is r parts the lower end of the span and s the
-- upper, and v parts the one centre and t the other
pub covered : (l lm u um size sizem c cm q qm r s v t : ℕ) → l < u → um ≤ lm + (u - l) → lm ≤ um + (u - l) → c < size → cm < sizem →
    q ≤ 8 * c + 4 + 8 → 8 * c + 4 ≤ q + 8 → qm ≤ 8 * cm + 4 + 8 → 8 * cm + 4 ≤ qm + 8 →
    0 < r + s → r + s ≡ v + t → l * r + u * s ≡ (8 * c + 4) * v + q * t → lm * r + um * s ≡ (8 * cm + 4) * v + qm * t →
    Near l lm u um size sizem c cm
covered l lm u um size sizem c cm q qm r s v t lu h i cs cms a b am bm some all x y =
    let x-near : (l * r + u * s ≤ (r + s) * (8 * c + 4) + 8 * (r + s)) × ((r + s) * (8 * c + 4) ≤ l * r + u * s + 8 * (r + s)) =
    near (8 * c + 4) q v t (l * r + u * s) (r + s) x all a b in
    let y-near : (lm * r + um * s ≤ (r + s) * (8 * cm + 4) + 8 * (r + s)) × ((r + s) * (8 * cm + 4) ≤ lm * r + um * s + 8 * (r + s)) =
    near (8 * cm + 4) qm v t (lm * r + um * s) (r + s) y all am bm in
    let x-in : ((r + s) * l ≤ l * r + u * s) × (l * r + u * s ≤ (r + s) * u) = mean l u r s (l * r + u * s) (r + s) refl refl (omega arith) in
    let k : (l * r + u * s ≤ (r + s) * clamp (8 * c + 4) l u + 8 * (r + s)) × ((r + s) * clamp (8 * c + 4) l u ≤ l * r + u * s + 8 * (r + s)) =
    clamped (8 * c + 4) l u (l * r + u * s) (r + s) (omega arith) x-in.0 x-in.1 x-near.0 x-near.1 in
    in-ranges l lm u um size sizem c cm cs cms (within (8 * c + 4) l u (r + s) (l * r + u * s) some x-in.0 x-in.1 x-near.0 x-near.1)
    (near-line l lm u um (clamp (8 * c + 4) l u) (8 * cm + 4) r s lu (omega arith) (omega arith) h i some k.0 k.1 y-near.0 y-near.1)
  where
    within : (p l u n w : ℕ) → 0 < n → n * l ≤ w → w ≤ n * u → w ≤ n * p + 8 * n → n * p ≤ w + 8 * n → (l ≤ p + 8) × (p ≤ u + 8)
    within p l u n w h a b c d = (le_of_mul-le-mul_left {k = n} (omega arith) h, le_of_mul-le-mul_left {k = n} (omega arith) h)
