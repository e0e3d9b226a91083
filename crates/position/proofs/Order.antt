-- Positions are totally ordered, and canonical ends do not depend on how a span is listed.
use mathlib.Core.Path.{◌≡◌, refl, sym, ◌∙◌, ap}
use mathlib.Core.Bool.{Bool, true, false, cond, ◌&&◌}
use Prim.Native.Nat.{ℕ, ◌≤◌, ◌<◌}
use native.Mathlib.Omega.{arith}
use mathlib.Core.Logic.{◌⊎◌, inl, inr, ⊎_elim}
use borrow.Author.Tests.{ltb-true, ltb-false, leb-true, leb-false, lt-ltb, le-ltb, le-leb, eqb-true}
use lib.Dec.{leb, ltb, eqb}
use Rattle.std.specs.Ordering.{is_le, is_some_and, partial_ordering_then, nat_cmp, partial_le}
use Rattle.std.specs.Prelude.{Some}
use Rattle.position.specs.contracts.PixelPositionPartialOrd.TheImpl.{partial_cmp-value}
use Rattle.std.proofs.lemmas.Bool.Decides.{nat_tests}
use Rattle.position.specs.Order.{pos_le, pos_same, swapped, canonical}
use Rattle.position.specs.declared.PixelPosition.{PixelPosition}
use Rattle.position.specs.declared.Span.{Span}

by_both : (x y u v : ℕ)
    → is_some_and is_le (partial_ordering_then (Some (nat_cmp x u)) (Some (nat_cmp y v))) ≡ cond (ltb x u) true (cond (ltb u x) false (leb y v))
by_both x y u v = grind (arith, nat_tests)

-- The derived order is the one by column, then by row.
pub le_by_fields : (p q : PixelPosition) → partial_le partial_cmp-value.it p q ≡ pos_le p q
unfolding pos_le
le_by_fields p q = by_both p.x p.y q.x q.y

-- What the order means in numbers.
abbrev pub Before : PixelPosition → PixelPosition → Type 0
Before p q = (p.x < q.x) ⊎ ((p.x ≡ q.x) × (p.y ≤ q.y))

pub le-means : (p q : PixelPosition) → pos_le p q ≡ true → Before p q
unfolding pos_le
le-means p q e = go (ltb p.x q.x) (ltb q.x p.x) refl refl e
  where
    go : (s t : Bool) → ltb p.x q.x ≡ s → ltb q.x p.x ≡ t → cond s true (cond t false (leb p.y q.y)) ≡ true → Before p q
    go true t f g h = inl (ltb-true _ _ f)
    go false true f g h = absurd (clash h)
      where
        clash : false ≡ true → ⊥
        clash z = let n : ◌≡◌ {A = ℕ} 0 1 = cc in omega arith
    go false false f g h = inr (omega (arith, ltb-false p.x q.x f, ltb-false q.x p.x g), leb-true _ _ h)

pub le_from : (p q : PixelPosition) → Before p q → pos_le p q ≡ true
unfolding pos_le
le_from p q =
    ⊎_elim
    (λ h. simp (lt-ltb p.x q.x h))
    (λ h. simp (le-ltb p.x q.x (omega arith), le-ltb q.x p.x (omega arith), le-leb p.y q.y h.1))

by-fields : (p q : PixelPosition) → p.x ≡ q.x → p.y ≡ q.y → p ≡ q
by-fields p q e f = λ i. record { x = e i; y = f i }

pub le_total : (p q : PixelPosition) → pos_le p q ≡ false → pos_le q p ≡ true
unfolding pos_le
le_total p q e = go (ltb p.x q.x) (ltb q.x p.x) refl refl e
  where
    go : (s t : Bool) → ltb p.x q.x ≡ s → ltb q.x p.x ≡ t → cond s true (cond t false (leb p.y q.y)) ≡ false
        → cond (ltb q.x p.x) true (cond (ltb p.x q.x) false (leb q.y p.y)) ≡ true
    go true t f g h = let z : ◌≡◌ {A = ℕ} 0 1 = cc in absurd (omega arith)
    go false true f g h = rw g
    go false false f g h = rw (g, f) (le-leb q.y p.y (omega (arith, leb-false p.y q.y h)))

pub le-anti : (p q : PixelPosition) → pos_le p q ≡ true → pos_le q p ≡ true → p ≡ q
le-anti p q e f =
    ⊎_elim
    (λ h. ⊎_elim (λ k. absurd (omega arith)) (λ k. absurd (omega arith)) (le-means q p f))
    (λ h. ⊎_elim (λ k. absurd (omega arith)) (λ k. by-fields p q h.0 (omega arith)) (le-means q p f))
    (le-means p q e)

pub le_trans : (p q r : PixelPosition) → pos_le p q ≡ true → pos_le q r ≡ true → pos_le p r ≡ true
le_trans p q r e f =
    ⊎_elim
    (λ h. ⊎_elim (λ k. le_from p r (inl (omega arith))) (λ k. le_from p r (inl (omega arith))) (le-means q r f))
    (λ h. ⊎_elim (λ k. le_from p r (inl (omega arith))) (λ k. le_from p r (inr (omega arith, omega arith))) (le-means q r f))
    (le-means p q e)

pub same-means : (p q : PixelPosition) → pos_same p q ≡ true → p ≡ q
unfolding pos_same
same-means p q e = go (eqb p.x q.x) refl e
  where
    go : (s : Bool) → eqb p.x q.x ≡ s → s && eqb p.y q.y ≡ true → p ≡ q
    go true f g = by-fields p q (eqb-true p.x q.x f) (eqb-true p.y q.y g)
    go false f g = let z : ◌≡◌ {A = ℕ} 0 1 = cc in absurd (omega arith)

pub other_way : (p q : PixelPosition) → pos_same p q ≡ false → pos_same q p ≡ false
other_way p q h = go (pos_same q p) refl
  where
    go : (t : Bool) → pos_same q p ≡ t → t ≡ false
    go false e = refl
    go true e =
        let m = same-means q p e in
        let z : ◌≡◌ {A = Bool} true false = sym e ∙ (ap (λ u. pos_same u p) m ∙ (ap (λ u. pos_same p u) (sym m) ∙ h)) in
        let n : ◌≡◌ {A = ℕ} 0 1 = cc in
        absurd (omega arith)

-- A span listed the other way round has the same canonical ends.
pub canonical-swapped : (s : Span) → canonical (swapped s) ≡ canonical s
unfolding canonical
canonical-swapped s = go (pos_le s.b s.a) (pos_le s.a s.b) refl refl
  where
    go : (t u : Bool) → pos_le s.b s.a ≡ t → pos_le s.a s.b ≡ u → cond t (swapped s) s ≡ cond u s (swapped s)
    go true true e f =
        let h : s.b ≡ s.a = le-anti s.b s.a e f in
        λ i. record { a = h i; b = sym h i }
    go true false e f = refl
    go false true e f = refl
    go false false e f = let z : ◌≡◌ {A = ℕ} 0 1 = cc (le_total s.b s.a e) in absurd (omega arith)

-- Canonical ends are in order, and stay as they are.
pub canonical-ordered : (s : Span) → pos_le (canonical s).a (canonical s).b ≡ true
unfolding canonical
canonical-ordered s = go (pos_le s.a s.b) refl
  where
    go : (t : Bool) → pos_le s.a s.b ≡ t → pos_le (cond t s (swapped s)).a (cond t s (swapped s)).b ≡ true
    go true e = e
    go false e = le_total s.a s.b e

pub ordered : (s : Span) → pos_le s.a s.b ≡ true → canonical s ≡ s
unfolding canonical
ordered s e = rw e

pub canonical-again : (s : Span) → canonical (canonical s) ≡ canonical s
canonical-again s = ordered (canonical s) (canonical-ordered s)
