-- The orientation test holds exactly where two closed segments have a common point.
use mathlib.Core.Path.{◌≡◌, sym, ◌∙◌, ap}
use mathlib.Core.Logic.{◌↔◌, ◌⊎◌, inl, inr, ⊎_elim, by_cases, ◌≢◌}
use mathlib.Core.Bool.{true, ◌&&◌, ◌||◌}
use Prim.Native.Nat.{ℕ, ◌+◌, ◌*◌, ◌≤◌, ◌<◌, min, max}
use native.Mathlib.Omega.{arith}
use native.Mathlib.Nat.{mul-le-mul_left, mul-le-mul_right, eq_of_mul-eq-mul_left}
use native.Mathlib.Decide.{dec_lt, ℕ_discrete}
use borrow.Author.Tests.{ltb-true, lt-ltb}
use Rattle.order.proofs.Bools.{and_parts, and_both, or_cases, or_right}
use Rattle.position.specs.declared.PixelPosition.{PixelPosition}
use Rattle.areas.specs.Segments.{cross_plus, cross_minus, above, below, on_segment, opposite, meets, Meets}
use Rattle.areas.proofs.OnSegment.{Between, On, tip, rise, turn, on-between, between-on, on-iff}
use Rattle.areas.proofs.Crossing.{Weighed, weigh, unweigh, flip, trade, at-end, end-at, proper}

-- c is above the line a b, and d below it
abbrev Apart : PixelPosition → PixelPosition → PixelPosition → PixelPosition → Type 0
Apart a b c d = (cross_minus a b c < cross_plus a b c) × (cross_plus a b d < cross_minus a b d)

opposite-apart : (a b c d : PixelPosition) → opposite a b c d ≡ true → Apart a b c d ⊎ Apart a b d c
unfolding opposite
opposite-apart a b c d h =
    ⊎_elim (λ z. let v = and_parts (below a b c) (above a b d) z in
    inr (ltb-true (cross_minus a b d) (cross_plus a b d) v.1, ltb-true (cross_plus a b c) (cross_minus a b c) v.0))
    (λ z. let v = and_parts (above a b c) (below a b d) z in
    inl (ltb-true (cross_minus a b c) (cross_plus a b c) v.0, ltb-true (cross_plus a b d) (cross_minus a b d) v.1))
    (or_cases (below a b c && above a b d) (above a b c && below a b d) h)

apart-opposite : (a b c d : PixelPosition) → Apart a b c d ⊎ Apart a b d c → opposite a b c d ≡ true
unfolding opposite
apart-opposite a b c d (inl h) =
    or_right (below a b c && above a b d) (and_both (lt-ltb (cross_minus a b c) (cross_plus a b c) h.0) (lt-ltb (cross_plus a b d) (cross_minus a b d) h.1))
apart-opposite a b c d (inr h) = rw (lt-ltb (cross_plus a b c) (cross_minus a b c) h.1, lt-ltb (cross_minus a b d) (cross_plus a b d) h.0)

crossed : (a b c d : PixelPosition) → Apart a b c d ⊎ Apart a b d c → Apart c d a b ⊎ Apart c d b a → Weighed a b c d
crossed a b c d (inl e) (inl f) = absurd (omega arith)
crossed a b c d (inl e) (inr f) = proper a b c d e.0 e.1 f.1 f.0
crossed a b c d (inr e) (inl f) = flip (proper a b d c e.0 e.1 (omega arith) (omega arith))
crossed a b c d (inr e) (inr f) = absurd (omega arith)

-- what the test asks, in numbers
data Found (a b c d : PixelPosition) : Type 0 where
  across : Apart a b c d ⊎ Apart a b d c → Apart c d a b ⊎ Apart c d b a → Found a b c d
  at_c : On a b c → Found a b c d
  at-d : On a b d → Found a b c d
  at_a : On c d a → Found a b c d
  at_b : On c d b → Found a b c d

meets-found : (a b c d : PixelPosition) → meets a b c d ≡ true → Found a b c d
unfolding meets
meets-found a b c d h =
    ⊎_elim (λ z. let v = and_parts (opposite a b c d) (opposite c d a b) z in across (opposite-apart a b c d v.0) (opposite-apart c d a b v.1))
    (λ z.
    ⊎_elim (λ w. ⊎_elim (λ e. at_c ((on-iff a b c).0 e)) (λ e. at-d ((on-iff a b d).0 e)) (or_cases (on_segment a b c) (on_segment a b d) w))
    (λ w. ⊎_elim (λ e. at_a ((on-iff c d a).0 e)) (λ e. at_b ((on-iff c d b).0 e)) (or_cases (on_segment c d a) (on_segment c d b) w))
    (or_cases (on_segment a b c || on_segment a b d) (on_segment c d a || on_segment c d b) z))
    (or_cases (opposite a b c d && opposite c d a b) ((on_segment a b c || on_segment a b d) || (on_segment c d a || on_segment c d b)) h)

found-meets : (a b c d : PixelPosition) → Found a b c d → meets a b c d ≡ true
unfolding meets
found-meets a b c d (across e f) = rw (apart-opposite a b c d e, apart-opposite c d a b f)
found-meets a b c d (at_c o) = or_right (opposite a b c d && opposite c d a b) (rw ((on-iff a b c).1 o))
found-meets a b c d (at-d o) =
    let e : on_segment a b c || on_segment a b d ≡ true = or_right (on_segment a b c) ((on-iff a b d).1 o) in
    or_right (opposite a b c d && opposite c d a b) (rw e)
found-meets a b c d (at_a o) = or_right (opposite a b c d && opposite c d a b) (or_right (on_segment a b c || on_segment a b d) (rw ((on-iff c d a).1 o)))
found-meets a b c d (at_b o) =
    or_right (opposite a b c d && opposite c d a b) (or_right (on_segment a b c || on_segment a b d) (or_right (on_segment c d a) ((on-iff c d b).1 o)))

found-weighed : {a b c d : PixelPosition} → Found a b c d → Weighed a b c d
found-weighed {a} {b} {c} {d} (across e f) = crossed a b c d e f
found-weighed {a} {b} {c} {d} (at_c o) = at-end (on-between a b c o)
found-weighed {a} {b} {c} {d} (at-d o) = flip (at-end (on-between a b d o))
found-weighed {a} {b} {c} {d} (at_a o) = trade (at-end (on-between c d a o))
found-weighed {a} {b} {c} {d} (at_b o) = trade (flip (at-end (on-between c d b o)))

-- what c and d have of the line a b balances
gathered : (ax ay bx by cx cy dx dy u t : ℕ) →
    u * (ax * by + bx * cy + cx * ay) + t * (ax * by + bx * dy + dx * ay) ≡ bx * (cy * u + dy * t) + by * ax * (u + t) + ay * (cx * u + dx * t)
gathered ax ay bx by cx cy dx dy u t = omega arith

balanced : (ax ay bx by r s : ℕ) →
    bx * (ay * r + by * s) + by * ax * (r + s) + ay * (ax * r + bx * s) ≡ ax * (ay * r + by * s) + ay * bx * (r + s) + by * (ax * r + bx * s)
balanced ax ay bx by r s = omega arith

balance : (a b c d : PixelPosition) (w : Weighed a b c d) → w.u * cross_plus a b c + w.t * cross_plus a b d ≡ w.u * cross_minus a b c + w.t * cross_minus a b d
balance a b c d w =
    gathered a.x a.y b.x b.y c.x c.y d.x d.y w.u w.t
    ∙ rw (← w.all, ← w.same-x, ← w.same-y) (balanced a.x a.y b.x b.y w.r w.s)
    ∙ sym (gathered b.x b.y a.x a.y c.x c.y d.x d.y w.u w.t)
    ∙ omega arith

-- two differences that balance have opposite signs, or are both zero
signs : (u t p m q n : ℕ) → 0 < u → 0 < t → u * p + t * q ≡ u * m + t * n → ((m < p) × (q < n)) ⊎ (((n < q) × (p < m)) ⊎ ((p ≡ m) × (q ≡ n)))
signs u t p m q n hu ht e =
    by_cases (dec_lt m p) (λ h. inl
    (h, by_cases (dec_lt q n) (λ k. k) (λ k. absurd (omega (arith, mul-le-mul_left u h, mul-le-mul_left {m = n} {n = q} t (omega arith)))))) λ h.
    by_cases (dec_lt p m)
    (λ g. inr
    (inl (by_cases (dec_lt n q) (λ k. k) (λ k. absurd (omega (arith, mul-le-mul_left u g, mul-le-mul_left {m = q} {n = n} t (omega arith)))), g))) λ g.
    let z : p ≡ m = omega arith in
    inr (inr (z, eq_of_mul-eq-mul_left t ht q n (omega (arith, ap (λ k. u * k) z))))

abbrev In : ℕ → ℕ → ℕ → Type 0
In a b c = (min a b ≤ c) × (c ≤ max a b)

-- of two intervals that meet, one holds an end of the other
interval : (a b c d r s u t : ℕ) → 0 < r + s → r + s ≡ u + t → a * r + b * s ≡ c * u + d * t → In a b c ⊎ (In a b d ⊎ ((c ≢ d) × In c d a))
interval a b c d r s u t h n e =
    by_cases (dec_lt c (min a b))
    (λ i.
    by_cases (dec_lt d (min a b)) (λ j. absurd (under (min a b) a b c d r s u t h n e i j (omega arith) (omega arith))) λ j.
    by_cases (dec_lt (max a b) d) (λ k. inr (inr (omega arith))) λ k. inr (inl (omega arith))) λ i.
    by_cases (dec_lt (max a b) c)
    (λ k.
    by_cases (dec_lt (max a b) d) (λ j. absurd (over (max a b) a b c d r s u t h n e k j (omega arith) (omega arith))) λ j.
    by_cases (dec_lt d (min a b)) (λ l. inr (inr (omega arith))) λ l. inr (inl (omega arith))) λ k. inl (omega arith)
  where
    under : (m a b c d r s u t : ℕ) → 0 < r + s → r + s ≡ u + t → a * r + b * s ≡ c * u + d * t → c < m → d < m → m ≤ a → m ≤ b → ⊥
    under m a b c d r s u t h n e i j k l =
        omega (arith, mul-le-mul_right u i, mul-le-mul_right t j, mul-le-mul_right r k, mul-le-mul_right s l, ap (λ q. m * q) n)

    over : (m a b c d r s u t : ℕ) → 0 < r + s → r + s ≡ u + t → a * r + b * s ≡ c * u + d * t → m < c → m < d → a ≤ m → b ≤ m → ⊥
    over m a b c d r s u t h n e i j k l =
        omega (arith, mul-le-mul_right u i, mul-le-mul_right t j, mul-le-mul_right r k, mul-le-mul_right s l, ap (λ q. m * q) n)

on-x : (a b p : PixelPosition) → cross_plus a b p ≡ cross_minus a b p → a.x ≢ b.x → In a.x b.x p.x → On a b p
on-x a b p e h i =
    between-on a b p
    (by_cases (dec_lt a.x b.x) (λ l. rise a b p e (omega arith) (omega arith) l) λ l.
    turn (rise b a p (omega arith) (omega arith) (omega arith) (omega arith)))

abbrev Hit : PixelPosition → PixelPosition → PixelPosition → PixelPosition → Type 0
Hit a b c d = On a b c ⊎ (On a b d ⊎ On c d a)

-- on one line, not upright
along : (a b c d : PixelPosition) (w : Weighed a b c d) → cross_plus a b c ≡ cross_minus a b c → cross_plus a b d ≡ cross_minus a b d
    → cross_plus c d a ≡ cross_minus c d a → a.x ≢ b.x → Hit a b c d
along a b c d w fc fd fa h = go (interval a.x b.x c.x d.x w.r w.s w.u w.t w.some w.all w.same-x)
  where
    go : In a.x b.x c.x ⊎ (In a.x b.x d.x ⊎ ((c.x ≢ d.x) × In c.x d.x a.x)) → Hit a b c d
    go (inl i) = inl (on-x a b c fc h i)
    go (inr (inl i)) = inr (inl (on-x a b d fd h i))
    go (inr (inr i)) = inr (inr (on-x c d a fa i.0 i.1))

tipped : {a b c d : PixelPosition} → Weighed a b c d → Weighed (tip a) (tip b) (tip c) (tip d)
tipped w = record { r = w.r; s = w.s; u = w.u; t = w.t; some = w.some; all = w.all; same-x = w.same-y; same-y = w.same-x }

untipped : (a b p : PixelPosition) → On (tip a) (tip b) (tip p) → On a b p
untipped a b p o = omega arith

collinear : (a b c d : PixelPosition) (w : Weighed a b c d) → cross_plus a b c ≡ cross_minus a b c → cross_plus a b d ≡ cross_minus a b d
    → cross_plus c d a ≡ cross_minus c d a → Hit a b c d
collinear a b c d w fc fd fa =
    by_cases (ℕ_discrete a.x b.x)
    (λ ex.
    by_cases (ℕ_discrete a.y b.y) (λ ey. inr (inr (between-on c d a (point-on ex ey))))
    (λ h. up (along (tip a) (tip b) (tip c) (tip d) (tipped w) (omega arith) (omega arith) (omega arith) h))) (λ h. along a b c d w fc fd fa h)
  where
    point-on : a.x ≡ b.x → a.y ≡ b.y → Between c d a
    point-on ex ey = record {
      r = w.u;
      s = w.t;
      some = omega arith;
      at_x = omega (arith, w.same-x, ap (λ q. q * w.s) ex, ap (λ q. a.x * q) w.all);
      at_y = omega (arith, w.same-y, ap (λ q. q * w.s) ey, ap (λ q. a.y * q) w.all);
    }

    up : Hit (tip a) (tip b) (tip c) (tip d) → Hit a b c d
    up (inl o) = inl (untipped a b c o)
    up (inr (inl o)) = inr (inl (untipped a b d o))
    up (inr (inr o)) = inr (inr (untipped c d a o))

module _ (a b c d : PixelPosition) where
  abbrev Signs : PixelPosition → PixelPosition → PixelPosition → PixelPosition → Type 0
  Signs a b c d = Apart a b c d ⊎ (Apart a b d c ⊎ ((cross_plus a b c ≡ cross_minus a b c) × (cross_plus a b d ≡ cross_minus a b d)))

  hit : Hit a b c d → Found a b c d
  hit (inl o) = at_c o
  hit (inr (inl o)) = at-d o
  hit (inr (inr o)) = at_a o

  -- the common point is no end
  inner : Weighed a b c d → Signs a b c d → Signs c d a b → Found a b c d
  inner w (inl p) (inl q) = across (inl p) (inl q)
  inner w (inl p) (inr (inl q)) = across (inl p) (inr q)
  inner w (inl p) (inr (inr q)) = absurd (omega arith)
  inner w (inr (inl p)) (inl q) = across (inr p) (inl q)
  inner w (inr (inl p)) (inr (inl q)) = across (inr p) (inr q)
  inner w (inr (inl p)) (inr (inr q)) = absurd (omega arith)
  inner w (inr (inr p)) (inl q) = absurd (omega arith)
  inner w (inr (inr p)) (inr (inl q)) = absurd (omega arith)
  inner w (inr (inr p)) (inr (inr q)) = hit (collinear a b c d w p.0 p.1 q.0)

  weighed-found : Weighed a b c d → Found a b c d
  unfolding flip trade
  weighed-found w =
      by_cases (ℕ_discrete w.t 0) (λ z. at_c (between-on a b c (end-at w z))) λ t.
      by_cases (ℕ_discrete w.u 0) (λ z. at-d (between-on a b d (end-at (flip w) z))) λ u.
      by_cases (ℕ_discrete w.s 0) (λ z. at_a (between-on c d a (end-at (trade w) z))) λ s.
      by_cases (ℕ_discrete w.r 0) (λ z. at_b (between-on c d b (end-at (flip (trade w)) z))) λ r.
      inner w
      (signs w.u w.t (cross_plus a b c) (cross_minus a b c) (cross_plus a b d) (cross_minus a b d) (omega arith) (omega arith) (balance a b c d w))
      (signs w.r w.s (cross_plus c d a) (cross_minus c d a) (cross_plus c d b) (cross_minus c d b) (omega arith) (omega arith) (balance c d a b (trade w)))

  pub meets-iff : (meets a b c d ≡ true) ↔ Meets a b c d
  meets-iff = (λ h. unweigh (found-weighed (meets-found a b c d h)), λ k. found-meets a b c d (weighed-found (weigh k)))
