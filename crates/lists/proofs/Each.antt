-- Laws of what holds of each member.
use mathlib.Core.Path.{◌≡◌, ap, ◌∙◌, refl}
use mathlib.Core.List.{List, [], ◌∷◌, ◌++◌, map, flat_map}
use Prim.Native.Nat.{ℕ, zero, suc, ◌<◌}
use native.Mathlib.Omega.{arith}
use lib.ListN.{length, get_or, take, drop}
use Rattle.lists.specs.Rows.{rows, All, none, more}

module _ {A : Type 0} {P : A → Type 0} where
  -- What holds of each member of two lists holds of each member of the lists joined.
  pub all_append : {xs ys : List A} → All P xs → All P ys → All P (xs ++ ys)
  all_append none k = k
  all_append (more p h) k = more p (all_append h k)

  -- It holds in a front part and in the rest.
  pub all_take : {xs : List A} (n : ℕ) → All P xs → All P (take n xs)
  all_take zero h = none
  all_take (suc n) none = none
  all_take (suc n) (more {x = x} {xs = xs} p h) = more p (all_take {xs = xs} n h)

  pub all_drop : {xs : List A} (n : ℕ) → All P xs → All P (drop n xs)
  all_drop zero h = h
  all_drop (suc n) none = none
  all_drop (suc n) (more {x = x} {xs = xs} p h) = all_drop {xs = xs} n h

  -- What follows from it holds too.
  pub all-implies : {Q : A → Type 0} {xs : List A} → ((x : A) → P x → Q x) → All P xs → All Q xs
  all-implies f none = none
  all-implies f (more {x} p h) = more (f x p) (all-implies f h)

  -- What holds of each row.
  pub all-rows : (n : ℕ) (f : ℕ → A) → ((i : ℕ) → i < n → P (f i)) → All P (rows n f)
  unfolding rows
  all-rows zero f h = none
  all-rows (suc n) f h = more (h 0 (omega arith)) (all-rows n (λ i. f (suc i)) (λ i l. h (suc i) (omega arith)))

  -- What holds of everything.
  pub all-every : ((x : A) → P x) → (xs : List A) → All P xs
  all-every f [] = none
  all-every f (x ∷ xs) = more (f x) (all-every f xs)

  -- It holds of each row.
  pub row-of : (n : ℕ) (f : ℕ → A) (i : ℕ) → All P (rows n f) → i < n → P (f i)
  unfolding rows
  row-of zero f i h l = absurd (omega arith)
  row-of (suc n) f zero (more p h) l = p
  row-of (suc n) f (suc i) (more p h) l = row-of n (λ k. f (suc k)) i h (omega arith)

  -- It holds of the member at each place.
  pub all-at : (xs : List A) (i : ℕ) (d : A) → All P xs → i < length xs → P (get_or xs i d)
  all-at [] i d h l = absurd (omega arith)
  all-at (x ∷ xs) zero d (more p h) l = p
  all-at (x ∷ xs) (suc i) d (more p h) l = all-at xs i d h (omega arith)

module _ {A B : Type 0} {P : B → Type 0} where
  -- What holds of the images of all members.
  pub all_map : (f : A → B) {xs : List A} → All (λ x. P (f x)) xs → All P (map f xs)
  all_map f none = none
  all_map f (more p h) = more p (all_map f h)

  -- What holds of each member of each piece.
  pub all-flat_map : (f : A → List B) {xs : List A} → All (λ x. All P (f x)) xs → All P (flat_map f xs)
  unfolding flat_map
  all-flat_map f none = none
  all-flat_map f (more p h) = all_append p (all-flat_map f h)

-- A function that changes no member changes no list.
pub map-id : {A : Type 0} (f : A → A) {xs : List A} → All (λ x. f x ≡ x) xs → map f xs ≡ xs
map-id f none = refl
map-id f (more {x} {xs} p h) = ap (λ y. y ∷ map f xs) p ∙ ap (λ t. x ∷ t) (map-id f h)
