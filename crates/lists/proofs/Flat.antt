-- Laws of lists joined member by member.
use mathlib.Core.Path.{◌≡◌, refl, sym, ◌∙◌, ap}
use mathlib.Core.List.{List, [], ◌∷◌, ◌++◌, map, flat_map, append_assoc}
use Prim.Native.Nat.{ℕ, ◌+◌, ◌*◌}
use native.Mathlib.Nat.{zero-mul, suc-mul}
use native.Mathlib.Omega.{arith}
use lib.ListN.{length, length-append}
use Rattle.lists.specs.Rows.{sum}

module _ {A B : Type 0} where
  -- Two lists joined give both wholes joined.
  pub flat_map-append : (f : A → List B) (xs ys : List A) → flat_map f (xs ++ ys) ≡ flat_map f xs ++ flat_map f ys
  unfolding flat_map
  flat_map-append f [] ys = refl
  flat_map-append f (x ∷ xs) ys = ap (λ (t : List B). f x ++ t) (flat_map-append f xs ys) ∙ sym (append_assoc (f x) (flat_map f xs) (flat_map f ys))

  -- The whole is as long as its pieces together.
  pub length-flat_map : (f : A → List B) (xs : List A) → length (flat_map f xs) ≡ sum (map (λ x. length (f x)) xs)
  unfolding flat_map sum
  length-flat_map f [] = refl
  length-flat_map f (x ∷ xs) = length-append (f x) (flat_map f xs) ∙ ap (λ (k : ℕ). length (f x) + k) (length-flat_map f xs)

  -- Pieces of n each.
  pub length-pieces : (n : ℕ) (f : A → List B) → ((x : A) → length (f x) ≡ n) → (xs : List A) → length (flat_map f xs) ≡ length xs * n
  unfolding flat_map
  length-pieces n f e [] = sym (zero-mul n)
  length-pieces n f e (x ∷ xs) = length-append (f x) (flat_map f xs) ∙ omega (arith, e x, length-pieces n f e xs, suc-mul (length xs) n)

-- Pieces of images are pieces.
pub flat_map-map : {A B C : Type 0} (f : B → List C) (g : A → B) (xs : List A) → flat_map f (map g xs) ≡ flat_map (λ x. f (g x)) xs
unfolding flat_map
flat_map-map f g [] = refl
flat_map-map f g (x ∷ xs) = ap (λ t. f (g x) ++ t) (flat_map-map f g xs)
