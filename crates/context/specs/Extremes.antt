-- The least and the greatest number of a list; of an empty list both are 0.
use Rattle.std.specs.Prelude.{List, [], ◌∷◌, ℕ, min, max}

unfoldable pub least : List ℕ → ℕ
least [] = 0
least (x ∷ []) = x
least (x ∷ y ∷ ys) = min x (least (y ∷ ys))

unfoldable pub greatest : List ℕ → ℕ
greatest [] = 0
greatest (x ∷ xs) = max x (greatest xs)
