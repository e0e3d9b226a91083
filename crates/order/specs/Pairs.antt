-- What holds of every two members of a list, and lists with the same members.
use Rattle.std.specs.Prelude.{◌≡◌, ◌↔◌, Bool, true}
use mathlib.Core.List.{List, [], ◌∷◌, Memᴰ}

-- R holds of every two members at different places, the earlier first
pub data Pairs {A : Type 0} (R : A → A → Type 0) : List A → Type 0 where
  none : Pairs R []
  more : {x : A} {xs : List A} → ((y : A) → Memᴰ y xs → R x y) → Pairs R xs → Pairs R (x ∷ xs)

-- no member stands twice
abbrev pub Distinct : {A : Type 0} → List A → Type 0
Distinct = Pairs (λ x y. x ≡ y → ⊥)

-- each member is at most every later one
abbrev pub Sorted : {A : Type 0} → (A → A → Bool) → List A → Type 0
Sorted le = Pairs (λ x y. le x y ≡ true)

-- each list has the members of the other
abbrev pub SameMembers : {A : Type 0} → List A → List A → Type 0
SameMembers {A} l m = (y : A) → Memᴰ y l ↔ Memᴰ y m
