-- Laws of lists: permutations, members and `gather`.
use mathlib.Core.Path.{◌≡◌, refl, ap}
use mathlib.Core.Logic.{⊎_elim}
use mathlib.Core.Bool.{Bool, false}
use mathlib.Core.List.Memᴰ
use mathlib.Core.List.Permᴰ
use mathlib.Core.List.{List, [], ◌∷◌, ◌++◌, map, flat_map, Memᴰ, Permᴰ}
use Rattle.order.specs.Orders.{same, Told}
use Rattle.order.specs.Lists.{gather}
use Rattle.order.specs.Pairs.{SameMembers}
use Rattle.order.proofs.Bools.{clash, and_both}

-- Two that are not the same to a test are told apart.
pub apart-told : {A : Type 0} (le : A → A → Bool) (a b : A) → same le a b ≡ false → Told le a b
apart-told le a b h e f = clash (and_both e f) h

module _ {A : Type 0} where
  pub perm-eq : {l m : List A} → l ≡ m → Permᴰ l m
  perm-eq {m = m} e = rw e (Permᴰ.refl m)

  pub members-refl : (l : List A) → SameMembers l l
  members-refl l y = (λ m. m, λ m. m)

  pub members-eq : {l m : List A} → l ≡ m → SameMembers l m
  members-eq {l} {m} e = rw e (members-refl m)

  pub append-members : {k l m n : List A} → SameMembers k l → SameMembers m n → SameMembers (k ++ m) (l ++ n)
  append-members {k} {l} {m} {n} s t y = (
    λ h. ⊎_elim (λ (i : Memᴰ y k). Memᴰ.append_left n ((s y).0 i)) (λ (i : Memᴰ y m). Memᴰ.append_right l ((t y).0 i)) (Memᴰ.append_cases k h),
    λ h. ⊎_elim (λ (i : Memᴰ y l). Memᴰ.append_left m ((s y).1 i)) (λ (i : Memᴰ y n). Memᴰ.append_right k ((t y).1 i)) (Memᴰ.append_cases l h),
  )

module _ {A B : Type 0} (f : A → List B) where
  pub flat-gather : (l : List A) → flat_map f l ≡ gather f l
  unfolding flat_map gather
  flat-gather [] = refl
  flat-gather (x ∷ xs) = ap (λ (k : List B). f x ++ k) (flat-gather xs)

  -- A change of the members that keeps what each gives.
  pub gather-changed : (h : A → A) → ((x : A) → SameMembers (f (h x)) (f x)) → (l : List A) → SameMembers (gather f (map h l)) (gather f l)
  unfolding gather
  gather-changed h s [] = members-refl []
  gather-changed h s (x ∷ xs) = append-members (s x) (gather-changed h s xs)
