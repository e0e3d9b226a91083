-- What keeps a forest, and what joins two of its trees.
use mathlib.Core.Path.{◌≡◌, refl, sym, ◌∙◌, ap}
use mathlib.Core.Logic.{by_cases}
use mathlib.Core.List.{List, ◌∷◌}
use Prim.Native.Nat.{ℕ, ◌≤◌, ◌<◌, min, max}
use native.Mathlib.Omega.{arith}
use native.Mathlib.Decide.{ℕ_discrete}
use borrow.Author.Tests.{eq-eqb, ne_eqb}
use Rattle.order.specs.Pairs.{SameMembers}
use Rattle.graph.specs.Path.{Edge}
use Rattle.graph.specs.Parts.{join, component_of}
use Rattle.graph.proofs.Parts.{part-add, part-idem, part-edges}
use Rattle.areas_components.specs.Forests.{Forest}
use Rattle.areas_components.proofs.WordLaws.{Upd}

-- a forest of some parts is one of the same parts
pub forest-ext : {es fs : List Edge} {n : ℕ} {p : ℕ → ℕ} → ((c : ℕ) → component_of es c ≡ component_of fs c) → Forest es n p → Forest fs n p
forest-ext {p = p} s f = record {
  falls = f.falls;
  along = λ i l. sym (s (p i)) ∙ (f.along i l ∙ s i);
  top = λ i l e. sym (s i) ∙ f.top i l e;
}

pub forest-same : {es fs : List Edge} {n : ℕ} {p : ℕ → ℕ} → SameMembers es fs → Forest es n p → Forest fs n p
forest-same {es} {fs} s f = forest-ext (part-edges es fs s) f

-- a parent becomes that of its parent
pub forest-halved : {es : List Edge} {n : ℕ} {p q : ℕ → ℕ} (i : ℕ) → i < n → Forest es n p → Upd p q i (p (p i)) → Forest es n q
forest-halved {es} {n} {p} {q} i h f u = record {
  falls = λ k l. by_cases (ℕ_discrete k i) (λ e. omega (arith, ap q e, u.at, up, upup)) (λ d. omega (arith, u.off k d, f.falls k l));
  along = λ k l.
      by_cases (ℕ_discrete k i)
      (λ e. ap (λ (x : ℕ). component_of es (q x)) e
      ∙ (ap (component_of es) u.at ∙ (f.along (p i) (omega (arith, up)) ∙ (f.along i h ∙ ap (component_of es) (sym e)))))
      (λ d. ap (component_of es) (u.off k d) ∙ f.along k l);
  top = λ k l t.
      by_cases (ℕ_discrete k i) (λ e. f.top k l (ap p e ∙ let z : p i ≡ k = omega (arith, ap q e, u.at, up, upup) in z))
      (λ d. f.top k l (sym (u.off k d) ∙ t));
}
  where
    up : p i ≤ i
    up = f.falls i h

    upup : p (p i) ≤ p i
    upup = f.falls (p i) (omega (arith, up))

join-high : (a b : ℕ) → join a b (max a b) ≡ min a b
unfolding join
join-high a b = rw (eq-eqb (max a b) (max a b) refl)

join-off : (a b c : ℕ) → (c ≡ max a b → ⊥) → join a b c ≡ c
unfolding join
join-off a b c d = rw (ne_eqb c (max a b) d)

-- the larger of the first vertices of two parts gets the smaller as its parent
module _ (e : Edge) {es : List Edge} {n : ℕ} {p : ℕ → ℕ} (f : Forest es n p) (a b : ℕ) (left : a ≡ component_of es e.left)
    (right : b ≡ component_of es e.right) where
  new : (c : ℕ) → component_of (e ∷ es) c ≡ join a b (component_of es c)
  new c = part-add e es c ∙ (ap (λ (x : ℕ). join x (component_of es e.right) (component_of es c)) (sym left)
      ∙ ap (λ (x : ℕ). join a x (component_of es c)) (sym right))

  own : (c : ℕ) → component_of es c ≡ c → component_of (e ∷ es) c ≡ join a b c
  own c h = new c ∙ ap (join a b) h

  a_first : component_of es a ≡ a
  a_first = ap (component_of es) left ∙ (part-idem es e.left ∙ sym left)

  b-first : component_of es b ≡ b
  b-first = ap (component_of es) right ∙ (part-idem es e.right ∙ sym right)

  forest-low : {q : ℕ → ℕ} (hi lo : ℕ) → component_of es hi ≡ hi → component_of es lo ≡ lo → hi ≡ max a b → lo ≡ min a b → lo < hi → Upd p q hi lo
      → Forest (e ∷ es) n q
  forest-low {q} hi lo hf lf he le less u = record {
    falls = λ k l. by_cases (ℕ_discrete k hi) (λ m. omega (arith, ap q m, u.at)) (λ d. omega (arith, u.off k d, f.falls k l));
    along = λ k l.
        by_cases (ℕ_discrete k hi)
        (λ m. ap (λ (x : ℕ). component_of (e ∷ es) (q x)) m ∙ (ap (component_of (e ∷ es)) u.at ∙ (low ∙ (sym high ∙ ap (component_of (e ∷ es)) (sym m)))))
        (λ d. ap (component_of (e ∷ es)) (u.off k d) ∙ (new (p k) ∙ (ap (join a b) (f.along k l) ∙ sym (new k))));
    top = λ k l t.
        by_cases (ℕ_discrete k hi) (λ m. absurd (omega (arith, ap q m, u.at)))
        (λ d. own k (f.top k l (sym (u.off k d) ∙ t)) ∙ join-off a b k (λ x. d (x ∙ sym he)));
  }
    where
      low : component_of (e ∷ es) lo ≡ lo
      low = own lo lf ∙ join-off a b lo (λ x. omega arith)

      high : component_of (e ∷ es) hi ≡ lo
      high = own hi hf ∙ (ap (join a b) he ∙ (join-high a b ∙ sym le))

  pub forest-left-low : {q : ℕ → ℕ} → a < b → Upd p q b a → Forest (e ∷ es) n q
  forest-left-low l u = forest-low b a b-first a_first (omega arith) (omega arith) l u

  pub forest-right-low : {q : ℕ → ℕ} → b < a → Upd p q a b → Forest (e ∷ es) n q
  forest-right-low l u = forest-low a b a_first b-first (omega arith) (omega arith) l u

-- two vertices of one component_of
pub forest-joined : (e : Edge) {es : List Edge} {n : ℕ} {p : ℕ → ℕ} → Forest es n p → (a b : ℕ) → a ≡ component_of es e.left → b ≡ component_of es e.right
    → a ≡ b
    → Forest (e ∷ es) n p
forest-joined e {es} f a b left right same = forest-ext (λ c. sym (new e f a b left right c ∙ stay (component_of es c))) f
  where
    stay : (c : ℕ) → join a b c ≡ c
    stay c = by_cases (ℕ_discrete c (max a b)) (λ h. ap (join a b) h ∙ (join-high a b ∙ let z : min a b ≡ c = omega arith in z)) (λ d. join-off a b c d)
