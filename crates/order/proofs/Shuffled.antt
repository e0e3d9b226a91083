-- Laws of lists that are alike but for their order.
use mathlib.Core.Path.{◌≡◌, refl}
use mathlib.Core.List.{List, [], ◌∷◌, map, Permᴰ}
use native.Mathlib.Omega.{arith}
use lib.ListN.{length}
use Rattle.order.specs.Shuffled.{Shuffled, nil, next, swap, then}

module _ {A : Type 0} {R : A → A → Type 0} where
  pub shuffled-refl : ((x : A) → R x x) → (l : List A) → Shuffled R l l
  shuffled-refl h [] = nil
  shuffled-refl h (x ∷ xs) = next (h x) (shuffled-refl h xs)

  pub shuffled-sym : ((x y : A) → R x y → R y x) → {l m : List A} → Shuffled R l m → Shuffled R m l
  shuffled-sym h nil = nil
  shuffled-sym h (next r s) = next (h _ _ r) (shuffled-sym h s)
  shuffled-sym h (swap r s t) = swap (h _ _ s) (h _ _ r) (shuffled-sym h t)
  shuffled-sym h (then s t) = then (shuffled-sym h t) (shuffled-sym h s)

  pub shuffled-length : {l m : List A} → Shuffled R l m → length l ≡ length m
  shuffled-length nil = refl
  shuffled-length (next r s) = let e = shuffled-length s in omega arith
  shuffled-length (swap r s t) = let e = shuffled-length t in omega arith
  shuffled-length (then s t) = let e = shuffled-length s in let f = shuffled-length t in omega arith

  -- what sends alike members to one value sends alike lists to permutations
  pub shuffled-map : {B : Type 0} (f : A → B) → ((x y : A) → R x y → f x ≡ f y) → {l m : List A} → Shuffled R l m → Permᴰ (map f l) (map f m)
  shuffled-map f h nil = Permᴰ.nil
  shuffled-map f h (next {a = a} {b = b} r s) = Permᴰ.cons (h a b r) (shuffled-map f h s)
  shuffled-map f h (swap {a = a} {b = b} {a' = a'} {b' = b'} r s t) =
      Permᴰ.trans (Permᴰ.swap (h a a' r) (h b b' s)) (Permᴰ.cons refl (Permᴰ.cons refl (shuffled-map f h t)))
  shuffled-map f h (then s t) = Permᴰ.trans (shuffled-map f h s) (shuffled-map f h t)
