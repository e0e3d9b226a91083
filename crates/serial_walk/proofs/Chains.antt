-- The chains of the records that touch each region.
use mathlib.Core.Path.{◌≡◌, sym, ◌∙◌, ap, subst, subst₂}
use mathlib.Core.Logic.{inl, inr, ⊎_elim, by_cases}
use mathlib.Core.List.{List}
use Prim.Native.Nat.{ℕ, ◌+◌, ◌≤◌, ◌<◌}
use native.Mathlib.Omega.{arith}
use native.Mathlib.Decide.{ℕ_discrete}
use lib.ListN.{length, set, length-set}
use lib.Seq.{get_or-set_same, get_or-set_other}
use Rattle.lists.specs.Rows.{at}
use Rattle.serial_walk.specs.Walk.{RecordTouches, First}
use Rattle.graph.specs.Slices.{Graph}
use Rattle.serial_walk.specs.Slices.{IncidenceLists}
use Rattle.serial_walk.specs.declared.frame.Frame.{Frame}

-- what follows record j in the chain of a region that it touches
pub follows : {K R : ℕ} {lefts rights heads left_nexts right_nexts : List ℕ} → IncidenceLists K R lefts rights heads left_nexts right_nexts 0 →
    (j x v : ℕ) → j < K → RecordTouches (at lefts) (at rights) j x → (at lefts j ≡ x → v ≡ at left_nexts j) → ((at lefts j ≡ x → ⊥) → v ≡ at right_nexts j) →
    First K (at lefts) (at rights) (j + 1) x v
follows {K} {lefts = lefts} {rights} {heads} {left_nexts} {right_nexts} N j x v k t l r =
    by_cases (ℕ_discrete (at lefts j) x) (λ e. subst₂ (First K (at lefts) (at rights) (j + 1)) e (sym (l e)) (N.left-next j (omega arith) k))
    (λ e. ⊎_elim (λ z. absurd (e z)) (λ z. subst₂ (First K (at lefts) (at rights) (j + 1)) z (sym (r e)) (N.right-next j (omega arith) k)) t)

-- the same, for a frame g at the region and the record of f
pub follows-as : {K R : ℕ} {lefts rights heads left_nexts right_nexts : List ℕ} → IncidenceLists K R lefts rights heads left_nexts right_nexts 0 →
    (f g : Frame) (v : ℕ) → g.next ≡ f.next → g.region ≡ f.region → f.next < K → RecordTouches (at lefts) (at rights) f.next f.region →
    (at lefts g.next ≡ g.region → v ≡ at left_nexts g.next) → ((at lefts g.next ≡ g.region → ⊥) → v ≡ at right_nexts g.next) →
    First K (at lefts) (at rights) (f.next + 1) f.region v
follows-as {lefts = lefts} {left_nexts = left_nexts} {right_nexts} N f g v a b k t l r =
    follows N f.next f.region v k t (λ e. l (ap (at lefts) a ∙ e ∙ sym b) ∙ ap (at left_nexts) a)
    (λ n. r (λ e. n (sym (ap (at lefts) a) ∙ e ∙ b)) ∙ ap (at right_nexts) a)

-- a record has its places
pub chain-in : {K R : ℕ} {lefts rights heads left_nexts right_nexts : List ℕ} {k : ℕ} → Graph K R lefts rights
    → IncidenceLists K R lefts rights heads left_nexts right_nexts k → (j : ℕ) → j < K →
    (j < length lefts) × (j < length left_nexts) × (j < length right_nexts)
chain-in G N j l = (omega (arith, G.lefts-are), omega (arith, N.lefts-are), omega (arith, N.rights-are))

-- no record is chained
pub unlinked : {K R : ℕ} {lefts rights heads left_nexts right_nexts : List ℕ} → length heads ≡ R → K ≤ length left_nexts → K ≤ length right_nexts →
    ((x : ℕ) → x < R → K ≤ at heads x) → IncidenceLists K R lefts rights heads left_nexts right_nexts K
unlinked a b c empty = record {
  heads-are = a;
  lefts-are = b;
  rights-are = c;
  head = λ x l. record { onward = empty x l; between = λ i f g k t. absurd (omega arith); touches = λ k. absurd (omega (arith, empty x l)) };
  left-next = λ i l k. absurd (omega arith);
  right-next = λ i l k. absurd (omega arith);
}

-- record k is put before the chains of its regions
module _ (K R : ℕ) (lefts rights heads left_nexts right_nexts : List ℕ) (k : ℕ) (G : Graph K R lefts rights)
    (N : IncidenceLists K R lefts rights heads left_nexts right_nexts (k + 1)) (l : k < K) where
  abbrev a : ℕ
  a = at lefts k

  abbrev b : ℕ
  b = at rights k

  here : (x : ℕ) → RecordTouches (at lefts) (at rights) k x → First K (at lefts) (at rights) k x k
  here x t = record { onward = omega arith; between = λ i f g z u. absurd (omega arith); touches = λ z. t }

  first : (x : ℕ) → x < R → First K (at lefts) (at rights) k x (at (set (set heads a k) b k) x)
  first x m = by_cases (ℕ_discrete x b) right λ e. by_cases (ℕ_discrete x a) (left e) (other e)
    where
      right : x ≡ b → First K (at lefts) (at rights) k x (at (set (set heads a k) b k) x)
      right e =
          let v : at (set (set heads a k) b k) x ≡ k
          = ap (at (set (set heads a k) b k)) e ∙ get_or-set_same (set heads a k) b k 0 (omega (arith, length-set heads a k, N.heads-are, G.right-in k l)) in
          subst (First K (at lefts) (at rights) k x) (sym v) (here x (inr (sym e)))

      off : (x ≡ b → ⊥) → at (set (set heads a k) b k) x ≡ at (set heads a k) x
      off e = get_or-set_other (set heads a k) b x k 0 e

      left : (x ≡ b → ⊥) → x ≡ a → First K (at lefts) (at rights) k x (at (set (set heads a k) b k) x)
      left e f =
          let v : at (set (set heads a k) b k) x ≡ k
          = off e ∙ ap (at (set heads a k)) f ∙ get_or-set_same heads a k 0 (omega (arith, N.heads-are, G.left_in k l)) in
          subst (First K (at lefts) (at rights) k x) (sym v) (here x (inl (sym f)))

      other : (x ≡ b → ⊥) → (x ≡ a → ⊥) → First K (at lefts) (at rights) k x (at (set (set heads a k) b k) x)
      other e f =
          subst (First K (at lefts) (at rights) k x) (sym (off e ∙ get_or-set_other heads a x k 0 f)) (record {
            onward = omega (arith, (N.head x m).onward);
            between = between;
            touches = (N.head x m).touches;
          })
        where
          between : (i : ℕ) → k ≤ i → i < at heads x → i < K → RecordTouches (at lefts) (at rights) i x → ⊥
          between i c d z t =
              by_cases (ℕ_discrete i k)
              (λ y. ⊎_elim (λ u. f (sym u ∙ ap (at lefts) y)) (λ u. e (sym u ∙ ap (at rights) y)) t)
              (λ y. (N.head x m).between i (omega arith) d z t)

  next_of : (ends nexts : List ℕ) → K ≤ length nexts → at ends k < R →
      ((i : ℕ) → k + 1 ≤ i → i < K → First K (at lefts) (at rights) (i + 1) (at ends i) (at nexts i)) →
      (i : ℕ) → k ≤ i → i < K → First K (at lefts) (at rights) (i + 1) (at ends i) (at (set nexts k (at heads (at ends k))) i)
  next_of ends nexts n r old i c d =
      by_cases (ℕ_discrete i k)
      (λ e.
      let v : at (set nexts k (at heads (at ends k))) i ≡ at heads (at ends i)
      = ap (at (set nexts k (at heads (at ends k)))) e ∙ get_or-set_same nexts k (at heads (at ends k)) 0 (omega arith)
      ∙ sym (ap (λ (z : ℕ). at heads (at ends z)) e) in
      subst₂ (λ (y z : ℕ). First K (at lefts) (at rights) (y + 1) (at ends i) z) (sym e) (sym v) (N.head (at ends i) (omega (arith, ap (at ends) e))))
      (λ e. subst (First K (at lefts) (at rights) (i + 1) (at ends i)) (sym (get_or-set_other nexts k i (at heads (at ends k)) 0 e)) (old i (omega arith) d))

  pub linked-one : IncidenceLists K R lefts rights (set (set heads (at lefts k) k) (at rights k) k) (set left_nexts k (at heads (at lefts k)))
      (set right_nexts k (at heads (at rights k))) k
  linked-one = record {
    heads-are = simp length-set N.heads-are;
    lefts-are = simp length-set N.lefts-are;
    rights-are = simp length-set N.rights-are;
    head = first;
    left-next = next_of lefts left_nexts N.lefts-are (G.left_in k l) N.left-next;
    right-next = next_of rights right_nexts N.rights-are (G.right-in k l) N.right-next;
  }

-- the same at lists that are equal
pub linked-as : (K R : ℕ) (lefts rights heads left_nexts right_nexts heads' left_nexts' right_nexts' : List ℕ) (k : ℕ) → left_nexts' ≡ left_nexts
    → right_nexts' ≡ right_nexts →
    heads' ≡ heads → IncidenceLists K R lefts rights heads left_nexts right_nexts k → IncidenceLists K R lefts rights heads' left_nexts' right_nexts' k
linked-as K R lefts rights heads left_nexts right_nexts heads' left_nexts' right_nexts' k a b c N = rw (a, b, c) N

-- the same, with the length of the heads for the number of regions
pub linked-here : {K R : ℕ} {lefts rights heads left_nexts right_nexts : List ℕ} {k : ℕ} → IncidenceLists K R lefts rights heads left_nexts right_nexts k →
    IncidenceLists K (length heads) lefts rights heads left_nexts right_nexts k
linked-here N = rw N.heads-are N
