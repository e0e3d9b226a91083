-- Small lists, by computing.
use mathlib.Core.Path.{◌≡◌, refl}
use mathlib.Core.List.{List, [], ◌∷◌}
use Prim.Native.Nat.{ℕ}
use lib.Dec.{leb}
use Rattle.order.specs.Sorting.{insert, sort, include, sort_once}
use Rattle.order.specs.Keys.{lex_le, sort_by, sort_once_by}
use Rattle.order.specs.Lists.{keep, gather, up_from, has}

-- a beginning comes before the whole
shorter-first : sort lex_le ((1 ∷ 2 ∷ []) ∷ (1 ∷ []) ∷ (0 ∷ 9 ∷ []) ∷ []) ≡ (0 ∷ 9 ∷ []) ∷ (1 ∷ []) ∷ (1 ∷ 2 ∷ []) ∷ []
unfolding sort insert lex_le
shorter-first = refl

each-once : sort_once leb (3 ∷ 1 ∷ 3 ∷ 2 ∷ 1 ∷ []) ≡ 1 ∷ 2 ∷ 3 ∷ []
unfolding sort_once include
each-once = refl

kept-odd : keep (λ i. has i (1 ∷ 3 ∷ [])) (up_from 0 5) ≡ 1 ∷ 3 ∷ []
unfolding keep has up_from
kept-odd = refl

gathered : gather (up_from 1) (2 ∷ 0 ∷ 3 ∷ []) ≡ 1 ∷ 2 ∷ 1 ∷ 2 ∷ 3 ∷ []
unfolding gather up_from
gathered = refl

-- pairs by their first number alone, as they stood where that is the same
abbrev pair : ℕ → ℕ → List ℕ
pair a b = a ∷ b ∷ []

abbrev first : List ℕ → List ℕ
first [] = []
first (x ∷ xs) = x ∷ []

as-they-stood : sort_by first (pair 2 7 ∷ pair 1 9 ∷ pair 2 3 ∷ pair 1 8 ∷ []) ≡ pair 1 9 ∷ pair 1 8 ∷ pair 2 7 ∷ pair 2 3 ∷ []
unfolding sort insert lex_le
as-they-stood = refl

first-once : sort_once_by first (pair 2 7 ∷ pair 1 9 ∷ pair 2 3 ∷ []) ≡ pair 1 9 ∷ pair 2 3 ∷ []
unfolding sort_once include lex_le
first-once = refl
