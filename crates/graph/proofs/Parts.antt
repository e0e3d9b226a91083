-- Two vertices are in one component_of exactly if a path joins them, and a component_of is known by its first vertex.
use mathlib.Core.Path.{◌≡◌, refl, sym, ◌∙◌, ap}
use mathlib.Core.Logic.{◌↔◌, ◌⊎◌, inl, inr}
use mathlib.Core.Bool.{true, false}
use mathlib.Core.List.{List, [], ◌∷◌, Memᴰ}
use Prim.Native.Nat.{ℕ, ◌≤◌, min, max}
use native.Mathlib.Omega.{arith}
use native.Mathlib.Decide.{dec_le}
use borrow.Author.Tests.{eqb-true, eqb-false, eq-eqb}
use lib.Dec.{eqb}
use Rattle.order.specs.Pairs.{SameMembers}
use Rattle.order.proofs.Bools.{clash, is_false, by-test}
use Rattle.graph.specs.Path.{Edge, Path, here}
use Rattle.graph.specs.Parts.{join, component_of, same_part}
use Rattle.graph.proofs.Paths.{path-trans, path-sym, path-edge, path-eq, path-between, path-kept, path-more, path-same}

-- the parts without edges, and with one more edge
pub part_none : (c : ℕ) → component_of [] c ≡ c
unfolding component_of
part_none c = refl

pub part-add : (e : Edge) (es : List Edge) (c : ℕ) → component_of (e ∷ es) c ≡ join (component_of es e.left) (component_of es e.right) (component_of es c)
unfolding component_of
part-add e es c = refl

-- what joining a and b does to c
data Joined (a b c : ℕ) : Type 0 where
  lowered : c ≡ max a b → join a b c ≡ min a b → Joined a b c
  kept : (c ≡ max a b → ⊥) → join a b c ≡ c → Joined a b c

joined : (a b c : ℕ) → Joined a b c
unfolding join
joined a b c = by-test (eqb c (max a b)) (λ e. lowered (eqb-true c (max a b) e) (rw e)) (λ e. kept (eqb-false c (max a b) e) (rw e))

join-both : (a b : ℕ) → join a b a ≡ join a b b
join-both a b = go (joined a b a) (joined a b b)
  where
    go : Joined a b a → Joined a b b → join a b a ≡ join a b b
    go (lowered p q) (lowered r s) = omega arith
    go (lowered p q) (kept r s) = omega arith
    go (kept p q) (lowered r s) = omega arith
    go (kept p q) (kept r s) = omega arith

join-le : (a b c : ℕ) → join a b c ≤ c
join-le a b c = go (joined a b c)
  where
    go : Joined a b c → join a b c ≤ c
    go (lowered p q) = omega arith
    go (kept p q) = omega arith

-- where a path leads from a to b, one leads from c to what it becomes
join-path : {es : List Edge} (a b c : ℕ) → Path es a b → Path es c (join a b c)
join-path {es} a b c p = go (joined a b c) (dec_le a b)
  where
    go : Joined a b c → Dec (a ≤ b) → Path es c (join a b c)
    go (lowered q r) (yes l) = path-between (omega arith) (path-sym p) (omega arith)
    go (lowered q r) (no l) = path-between (omega arith) p (omega arith)
    go (kept q r) d = path-eq (sym r)

-- joining a and b makes one of these two alone
join_apart : (a b c d : ℕ) → join a b c ≡ join a b d → (c ≡ d) ⊎ (((c ≡ a) ⊎ (c ≡ b)) × ((d ≡ a) ⊎ (d ≡ b)))
join_apart a b c d e = go (joined a b c) (joined a b d) (dec_le a b)
  where
    go : Joined a b c → Joined a b d → Dec (a ≤ b) → (c ≡ d) ⊎ (((c ≡ a) ⊎ (c ≡ b)) × ((d ≡ a) ⊎ (d ≡ b)))
    go (lowered p q) (lowered r s) l = inl (omega arith)
    go (lowered p q) (kept r s) (yes l) = inr (inr (omega arith), inl (omega arith))
    go (lowered p q) (kept r s) (no l) = inr (inl (omega arith), inr (omega arith))
    go (kept p q) (lowered r s) (yes l) = inr (inl (omega arith), inr (omega arith))
    go (kept p q) (lowered r s) (no l) = inr (inr (omega arith), inl (omega arith))
    go (kept p q) (kept r s) l = inl (omega arith)

module _ (e : Edge) (es : List Edge) (old : (c : ℕ) → Path (e ∷ es) c (component_of es c)) where
  part_step : (c : ℕ) → Path (e ∷ es) c (component_of (e ∷ es) c)
  unfolding component_of
  part_step c = path-trans (old c) (join-path (component_of es e.left) (component_of es e.right) (component_of es c) across)
    where
      across : Path (e ∷ es) (component_of es e.left) (component_of es e.right)
      across = path-trans (path-sym (old e.left)) (path-trans (path-edge e (Memᴰ.head refl)) (old e.right))

-- a path leads to the first vertex of the component_of
pub part-path : (es : List Edge) (c : ℕ) → Path es c (component_of es c)
unfolding component_of
part-path [] c = here
part-path (e ∷ es) c = part_step e es (λ d. path-more (λ f m. Memᴰ.tail m) (part-path es d)) c

-- the ends of an edge are in one component_of
part_edge : (es : List Edge) (e : Edge) → Memᴰ e es → component_of es e.left ≡ component_of es e.right
unfolding component_of
part_edge [] e x' = elim x' [ ]
part_edge (f ∷ es) e (Memᴰ.head k) = rw k (join-both (component_of es f.left) (component_of es f.right))
part_edge (f ∷ es) e (Memᴰ.tail m) = ap (join (component_of es f.left) (component_of es f.right)) (part_edge es e m)

pub part_same : (es : List Edge) {a b : ℕ} → Path es a b → component_of es a ≡ component_of es b
part_same es {a} p = path-kept (λ x. component_of es a ≡ component_of es x) (λ e m. (λ q. q ∙ part_edge es e m, λ q. q ∙ sym (part_edge es e m))) p refl

-- the computed parts are what the paths say
pub part-iff : (es : List Edge) (a b : ℕ) → (component_of es a ≡ component_of es b) ↔ Path es a b
part-iff es a b = (λ e. path-trans (part-path es a) (path-trans (path-eq e) (path-sym (part-path es b))), λ p. part_same es p)

pub part-le : (es : List Edge) (c : ℕ) → component_of es c ≤ c
unfolding component_of
part-le [] c = omega arith
part-le (e ∷ es) c = omega (arith, join-le (component_of es e.left) (component_of es e.right) (component_of es c), part-le es c)

-- no vertex of the component_of comes before it
pub part-least : (es : List Edge) {a b : ℕ} → Path es a b → component_of es a ≤ b
part-least es {b = b} p = omega (arith, part_same es p, part-le es b)

pub part-idem : (es : List Edge) (c : ℕ) → component_of es (component_of es c) ≡ component_of es c
part-idem es c = sym (part_same es (part-path es c))

-- the same paths, the same parts
pub part_ext : (es fs : List Edge) → ((a b : ℕ) → Path es a b ↔ Path fs a b) → (c : ℕ) → component_of es c ≡ component_of fs c
part_ext es fs s c = omega (arith, part-least es ((s c (component_of fs c)).1 (part-path fs c)), part-least fs ((s c (component_of es c)).0 (part-path es c)))

-- the parts depend on the set of edges alone
pub part-edges : (es fs : List Edge) → SameMembers es fs → (c : ℕ) → component_of es c ≡ component_of fs c
part-edges es fs s = part_ext es fs (path-same s)

pub same-part : (es : List Edge) (a b : ℕ) → (same_part es a b ≡ true) ↔ Path es a b
unfolding same_part
same-part es a b = (
  λ h. (part-iff es a b).0 (eqb-true (component_of es a) (component_of es b) h),
  λ p. eq-eqb (component_of es a) (component_of es b) (part_same es p),
)

pub other-part : (es : List Edge) (a b : ℕ) → (same_part es a b ≡ false) ↔ (Path es a b → ⊥)
other-part es a b = (λ h p. clash ((same-part es a b).1 p) h, λ h. is_false (same_part es a b) (λ e. h ((same-part es a b).0 e)))

-- one edge more joins what was joined, and makes one of the parts of its ends alone
pub part-kept : (e : Edge) (es : List Edge) (a b : ℕ) → component_of es a ≡ component_of es b → component_of (e ∷ es) a ≡ component_of (e ∷ es) b
part-kept e es a b h =
    part-add e es a ∙ (ap (join (component_of es e.left) (component_of es e.right)) h ∙ sym (part-add e es b))

pub part-ends : (e : Edge) (es : List Edge) → component_of (e ∷ es) e.left ≡ component_of (e ∷ es) e.right
part-ends e es = part_edge (e ∷ es) e (Memᴰ.head refl)

-- the vertex is in the part of an end of the edge
abbrev pub AtEnd : Edge → List Edge → ℕ → Type 0
AtEnd e es a = (component_of es a ≡ component_of es e.left) ⊎ (component_of es a ≡ component_of es e.right)

pub part_apart : (e : Edge) (es : List Edge) (a b : ℕ) → component_of (e ∷ es) a ≡ component_of (e ∷ es) b
    → (component_of es a ≡ component_of es b) ⊎ (AtEnd e es a × AtEnd e es b)
part_apart e es a b h =
    join_apart (component_of es e.left) (component_of es e.right) (component_of es a) (component_of es b)
    (sym (part-add e es a) ∙ (h ∙ part-add e es b))
