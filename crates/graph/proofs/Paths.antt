-- Paths go both ways and one after another, and depend on the set of edges alone.
use mathlib.Core.Path.{◌≡◌, refl, subst₂}
use mathlib.Core.Logic.{◌↔◌}
use mathlib.Core.List.{List, Memᴰ}
use Prim.Native.Nat.{ℕ}
use Rattle.order.specs.Pairs.{SameMembers}
use Rattle.graph.specs.Path.{Edge, Joins, forth, back, Path, here, onward}

turned : {e : Edge} {a b : ℕ} → Joins e a b → Joins e b a
turned (forth p q) = back p q
turned (back p q) = forth p q

module _ {es : List Edge} where
  pub path-trans : {a b c : ℕ} → Path es a b → Path es b c → Path es a c
  path-trans here q = q
  path-trans (onward m j p) q = onward m j (path-trans p q)

  pub path-sym : {a b : ℕ} → Path es a b → Path es b a
  path-sym here = here
  path-sym (onward m j p) = path-trans (path-sym p) (onward m (turned j) here)

  -- an edge is a path
  pub path-edge : (e : Edge) → Memᴰ e es → Path es e.left e.right
  path-edge e m = onward m (forth refl refl) here

  pub path-eq : {a b : ℕ} → a ≡ b → Path es a b
  path-eq {a} e = subst₂ (Path es) refl e (here {a = a})

  pub path-between : {a b c d : ℕ} → a ≡ b → Path es b c → c ≡ d → Path es a d
  path-between e p f = path-trans (path-eq e) (path-trans p (path-eq f))

  -- what each edge carries from end to end, a path carries
  pub path-kept : (P : ℕ → Type 0) → ((e : Edge) → Memᴰ e es → (P e.left → P e.right) × (P e.right → P e.left)) → {a b : ℕ} → Path es a b → P a
      → P b
  path-kept P keep here h = h
  path-kept P keep (onward {a} {b} {c} {e} m j p) h = path-kept P keep p (over j)
    where
      over : Joins e a b → P b
      over (forth p q) = subst₂ (λ x y. P x → P y) p q (keep e m).0 h
      over (back p q) = subst₂ (λ x y. P x → P y) q p (keep e m).1 h

-- where each edge of the one graph is a path of the other, so is each path
pub path-through : {es fs : List Edge} → ((e : Edge) → Memᴰ e es → Path fs e.left e.right) → {a b : ℕ} → Path es a b → Path fs a b
path-through {es} {fs} f {a} p =
    path-kept (λ x. Path fs a x) (λ e m. (λ q. path-trans q (f e m), λ q. path-trans q (path-sym (f e m)))) p here

-- more edges, more paths
pub path-more : {es fs : List Edge} → ((e : Edge) → Memᴰ e es → Memᴰ e fs) → {a b : ℕ} → Path es a b → Path fs a b
path-more f = path-through (λ e m. path-edge e (f e m))

-- the same edges, in any order and however often, the same paths
pub path-same : {es fs : List Edge} → SameMembers es fs → (a b : ℕ) → Path es a b ↔ Path fs a b
path-same s a b = (path-more (λ e m. (s e).0 m), path-more (λ e m. (s e).1 m))
