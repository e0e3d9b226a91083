-- The least region above another.
use Rattle.std.specs.Prelude.{cond, ◌&&◌, ◌||◌, List, ℕ, zero, suc, eqb, ltb, get_or}

-- the lesser of two numbers above another, where 0 is none yet
abbrev pub lesser_above : ℕ → ℕ → ℕ → ℕ
lesser_above after best x = cond (ltb after x && (eqb best 0 || ltb x best)) x best

-- with the regions of one rank more, if it is marked
abbrev pub considered : ℕ → ℕ → ℕ → ℕ → ℕ → ℕ
considered after best mark lower higher = cond (eqb mark 1) (lesser_above after (lesser_above after best lower) higher) best

-- in the pairs of the marked ones of the first k ranks
unfoldable pub next_after : List ℕ → List ℕ → List ℕ → ℕ → ℕ → ℕ
next_after marks lowers highers after zero = 0
next_after marks lowers highers after (suc k) =
    considered after (next_after marks lowers highers after k) (get_or marks k 0) (get_or lowers k 0) (get_or highers k 0)
