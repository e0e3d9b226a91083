-- The first sixteen numbers of a list, and how many it has.
use Rattle.std.specs.Prelude.{cond, List, ◌∷◌, map, ℕ, ◌+◌, ltb, length, get_or}
use Rattle.order.specs.Lists.{up_from}
use Rattle.serial_plan.specs.declared.few.Few.{Few}
use Rattle.serial_plan.specs.declared.path.Near.{Near}

-- the first n numbers of a list; 0 where it has no such number
unfoldable pub first_of : ℕ → List ℕ → List ℕ
unfolding up_from
first_of n xs = map (λ j. get_or xs j 0) (up_from 0 n)

-- what is kept of a list
unfoldable pub few_of : List ℕ → Few
unfolding first_of
few_of xs = record { count = length xs; items = first_of 16 xs }

-- with one number before the others
unfoldable pub pushed : Few → ℕ → Few
unfolding first_of
pushed f x = record { count = f.count + 1; items = x ∷ first_of 15 f.items }

-- number j
abbrev pub few_at : Few → ℕ → ℕ
few_at f j = cond (ltb j 16) (get_or f.items j 0) 0

-- the list, if it has at most sixteen
unfoldable pub few_list : Few → List ℕ
unfolding up_from
few_list f = map (few_at f) (up_from 0 f.count)

-- how many a list has, and its first; with one number before the others
abbrev pub near : List ℕ → Near
near xs = record { count = length xs; first = get_or xs 0 0 }

abbrev pub near_link : Near → ℕ → Near
near_link f x = record { count = f.count + 1; first = x }
