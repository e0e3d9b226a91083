-- Laws of what holds of every two members; two lists in one strict order that have the same members are equal.
use mathlib.Core.Path.{◌≡◌, refl, sym, ◌∙◌, subst}
use mathlib.Core.Logic.{⊎_elim}
use mathlib.Core.List.Memᴰ
use mathlib.Core.List.{List, [], ◌∷◌, ◌++◌, map, Memᴰ}
use mathlib.Core.List.Permᴰ
use mathlib.Core.List.{Permᴰ}
use Prim.Native.Nat.{ℕ, zero, suc, ◌<◌}
use native.Mathlib.Omega.{arith}
use lib.ListN.{length, get_or}
use Rattle.order.specs.Pairs.{Pairs, none, more, SameMembers}
use Rattle.order.proofs.Members.{perm-mem, get_d-mem}

module _ {A : Type 0} where
  pub pairs-all : {R : A → A → Type 0} → ((x y : A) → R x y) → (l : List A) → Pairs R l
  pairs-all f [] = none
  pairs-all f (x ∷ xs) = more (λ y n. f x y) (pairs-all f xs)

  pub pairs-imp : {R S : A → A → Type 0} {l : List A} → ((x y : A) → R x y → S x y) → Pairs R l → Pairs S l
  pairs-imp f none = none
  pairs-imp f (more g t) = more (λ y n. f _ y (g y n)) (pairs-imp f t)

  pub pairs-both : {R S : A → A → Type 0} {l : List A} → Pairs R l → Pairs S l → Pairs (λ x y. R x y × S x y) l
  pairs-both none none = none
  pairs-both (more f s) (more g t) = more (λ y m. (f y m, g y m)) (pairs-both s t)

  -- with what it is to be a member
  pub pairs-mem : {R : A → A → Type 0} {l : List A} → Pairs R l → Pairs (λ x y. R x y × Memᴰ x l × Memᴰ y l) l
  pairs-mem none = none
  pairs-mem (more f t) =
      more (λ y m. (f y m, Memᴰ.head refl, Memᴰ.tail m)) (pairs-imp (λ y z r. (r.0, Memᴰ.tail r.1, Memᴰ.tail r.2)) (pairs-mem t))

  pub pairs-append : {R : A → A → Type 0} {l m : List A} → Pairs R l → Pairs R m → ((x y : A) → Memᴰ x l → Memᴰ y m → R x y) → Pairs R (l ++ m)
  pairs-append none q h = q
  pairs-append {R = R} {m = m} (more {x = x} {xs = xs} f p) q h = more go (pairs-append p q (λ y z k n. h y z (Memᴰ.tail k) n))
    where
      go : (y : A) → Memᴰ y (xs ++ m) → R x y
      go y k = ⊎_elim (λ (n : Memᴰ y xs). f y n) (λ (n : Memᴰ y m). h x y (Memᴰ.head refl) n) (Memᴰ.append_cases xs k)

  -- by places
  pub pairs-at : {R : A → A → Type 0} {l : List A} (d : A) → Pairs R l → (i j : ℕ) → i < j → j < length l → R (get_or l i d) (get_or l j d)
  pairs-at d none i j h k = absurd (omega arith)
  pairs-at d (more f t) i zero h k = absurd (omega arith)
  pairs-at d (more {xs = xs} f t) zero (suc j) h k = f (get_or xs j d) (get_d-mem xs d j (omega arith))
  pairs-at d (more f t) (suc i) (suc j) h k = pairs-at d t i j (omega arith) (omega arith)

  -- where R goes both ways, the order of the list is of no account
  module _ {R : A → A → Type 0} (symm : (x y : A) → R x y → R y x) where
    pub perm-pairs : {l m : List A} → Permᴰ l m → Pairs R l → Pairs R m
    perm-pairs Permᴰ.nil h = h
    perm-pairs (Permᴰ.cons e p) (more f t) =
        more (λ y n. subst (λ (z : A). R z y) e (f y (perm-mem (Permᴰ.symm p) n))) (perm-pairs p t)
    perm-pairs (Permᴰ.swap {a = a} {b = b} {a' = a'} {b' = b'} {l = l} e f) (more g (more h t)) =
        more go (more (λ y n. subst (λ (z : A). R z y) e (g y (Memᴰ.tail n))) t)
      where
        go : (y : A) → Memᴰ y (b' ∷ l) → R a' y
        go y (Memᴰ.head k) = subst (λ (z : A). R z y) f (subst (λ (z : A). R b z) (e ∙ sym k) (symm a b (g b (Memᴰ.head refl))))
        go y (Memᴰ.tail n) = subst (λ (z : A). R z y) f (h y n)
    perm-pairs (Permᴰ.trans p q) h = perm-pairs q (perm-pairs p h)

  -- where R never goes both ways, the members alone give the list
  module _ {R : A → A → Type 0} (asym : (x y : A) → R x y → R y x → ⊥) where
    pub pairs-ext : (l m : List A) → Pairs R l → Pairs R m → SameMembers l m → l ≡ m
    pairs-ext [] [] o p s = refl
    pairs-ext [] (y ∷ ys) o p s = absurd (Memᴰ.not-nil ((s y).1 (Memᴰ.head refl)))
    pairs-ext (x ∷ xs) [] o p s = absurd (Memᴰ.not-nil ((s x).0 (Memᴰ.head refl)))
    pairs-ext (x ∷ xs) (y ∷ ys) (more h o) (more i p) s = let t = pairs-ext xs ys o p (λ z. (down z, up z)) in cc e
      where
        heads : Memᴰ x (y ∷ ys) → Memᴰ y (x ∷ xs) → x ≡ y
        heads (Memᴰ.head e) n = e
        heads (Memᴰ.tail k) (Memᴰ.head e) = sym e
        heads (Memᴰ.tail k) (Memᴰ.tail n) = absurd (asym x y (h y n) (i x k))

        e : x ≡ y
        e = heads ((s x).0 (Memᴰ.head refl)) ((s y).1 (Memᴰ.head refl))

        -- a member that R puts behind a head stands in that head's tail
        behind : {a : A} {l : List A} (z : A) → R a z → Memᴰ z (a ∷ l) → Memᴰ z l
        behind {a} z r (Memᴰ.head k) = let q : R a a = subst (λ (w : A). R a w) k r in absurd (asym a a q q)
        behind z r (Memᴰ.tail n) = n

        down : (z : A) → Memᴰ z xs → Memᴰ z ys
        down z n = behind z (subst (λ (w : A). R w z) e (h z n)) ((s z).0 (Memᴰ.tail n))

        up : (z : A) → Memᴰ z ys → Memᴰ z xs
        up z n = behind z (subst (λ (w : A). R w z) (sym e) (i z n)) ((s z).1 (Memᴰ.tail n))

module _ {A B : Type 0} (f : A → B) where
  pub pairs-map : {R : A → A → Type 0} {S : B → B → Type 0} → ((x y : A) → R x y → S (f x) (f y)) → {l : List A} → Pairs R l → Pairs S (map f l)
  pairs-map h none = none
  pairs-map {S = S} h (more {x = x} {xs = xs} g t) =
      more {x = f x} (λ y m. let r = Memᴰ.of_map f xs m in subst (λ (z : B). S (f x) z) r.2 (h x r.0 (g r.0 r.1))) (pairs-map h t)

  pub map-pairs : {S : B → B → Type 0} (l : List A) → Pairs S (map f l) → Pairs (λ x y. S (f x) (f y)) l
  map-pairs [] none = none
  map-pairs (x ∷ xs) (more g t) = more (λ y m. g (f y) (Memᴰ.map f m)) (map-pairs xs t)
