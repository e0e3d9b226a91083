-- Lists that are alike but for their order.
use Rattle.std.specs.Prelude.{List, [], ◌∷◌}

-- the same members, as often, in any order, but for what R lets differ
pub data Shuffled {A : Type 0} (R : A → A → Type 0) : List A → List A → Type 0 where
  nil : Shuffled R [] []
  next : {a b : A} {l m : List A} → R a b → Shuffled R l m → Shuffled R (a ∷ l) (b ∷ m)
  swap : {a b a' b' : A} {l m : List A} → R a a' → R b b' → Shuffled R l m → Shuffled R (a ∷ b ∷ l) (b' ∷ a' ∷ m)
  then : {l m n : List A} → Shuffled R l m → Shuffled R m n → Shuffled R l n
