-- Members of a list, by place and after a permutation.
use mathlib.Core.Path.{◌≡◌, refl, sym, ◌∙◌}
use mathlib.Core.List.Permᴰ
use mathlib.Core.List.{List, [], ◌∷◌, map, Memᴰ, Permᴰ}
use Prim.Native.Nat.{ℕ, zero, suc, ◌<◌}
use native.Mathlib.Omega.{arith}
use lib.ListN.{length, get_or}
use Rattle.order.specs.Pairs.{SameMembers}

module _ {A : Type 0} where
  pub perm-mem : {l m : List A} {x : A} → Permᴰ l m → Memᴰ x l → Memᴰ x m
  perm-mem Permᴰ.nil h = h
  perm-mem (Permᴰ.cons e p) (Memᴰ.head f) = Memᴰ.head (f ∙ e)
  perm-mem (Permᴰ.cons e p) (Memᴰ.tail h) = Memᴰ.tail (perm-mem p h)
  perm-mem (Permᴰ.swap e f) (Memᴰ.head g) = Memᴰ.tail (Memᴰ.head (g ∙ e))
  perm-mem (Permᴰ.swap e f) (Memᴰ.tail (Memᴰ.head g)) = Memᴰ.head (g ∙ f)
  perm-mem (Permᴰ.swap e f) (Memᴰ.tail (Memᴰ.tail h)) = Memᴰ.tail (Memᴰ.tail h)
  perm-mem (Permᴰ.trans p q) h = perm-mem q (perm-mem p h)

  -- a permutation is as long as the list
  pub perm-length : {l m : List A} → Permᴰ l m → length l ≡ length m
  perm-length Permᴰ.nil = refl
  perm-length (Permᴰ.cons e p) = omega (arith, perm-length p)
  perm-length (Permᴰ.swap e f) = refl
  perm-length (Permᴰ.trans p q) = perm-length p ∙ perm-length q

  -- a permutation has the members of the list
  pub perm-members : {l m : List A} → Permᴰ l m → SameMembers l m
  perm-members p y = (λ h. perm-mem p h, λ h. perm-mem (Permᴰ.symm p) h)

  pub members-sym : {l m : List A} → SameMembers l m → SameMembers m l
  members-sym s y = ((s y).1, (s y).0)

  pub members-trans : {l m n : List A} → SameMembers l m → SameMembers m n → SameMembers l n
  members-trans s t y = (λ h. (t y).0 ((s y).0 h), λ h. (s y).1 ((t y).1 h))

  -- behind one head
  pub mem-behind : {x y : A} {l m : List A} → (Memᴰ y l → Memᴰ y m) → Memᴰ y (x ∷ l) → Memᴰ y (x ∷ m)
  mem-behind f (Memᴰ.head e) = Memᴰ.head e
  mem-behind f (Memᴰ.tail n) = Memᴰ.tail (f n)

  -- what stands at a place is a member
  pub get_d-mem : (l : List A) (d : A) (i : ℕ) → i < length l → Memᴰ (get_or l i d) l
  get_d-mem [] d i h = absurd (omega arith)
  get_d-mem (x ∷ xs) d zero h = Memᴰ.head refl
  get_d-mem (x ∷ xs) d (suc i) h = Memᴰ.tail (get_d-mem xs d i (omega arith))

  -- a member stands at a place
  pub mem-get_d : (d : A) {y : A} {l : List A} → Memᴰ y l → (i : ℕ) × (i < length l) × (get_or l i d ≡ y)
  mem-get_d d (Memᴰ.head e) = (0, omega arith, sym e)
  mem-get_d d (Memᴰ.tail n) = let r = mem-get_d d n in (suc r.0, omega arith, r.2)

-- functions that agree on the members give one list
pub map-ext : {A B : Type 0} (f g : A → B) (l : List A) → ((y : A) → Memᴰ y l → f y ≡ g y) → map f l ≡ map g l
map-ext f g [] h = refl
map-ext f g (x ∷ xs) h = rw (h x (Memᴰ.head refl), map-ext f g xs (λ y n. h y (Memᴰ.tail n)))
