-- Full pairs by numbers.
use Rattle.std.specs.Prelude.{Bool, ◌&&◌, ℕ, ltb, eqb}

-- `hasFullPair` of an assessment is this of its counts and of how many pairs it has.
abbrev pub is_full : ℕ → ℕ → ℕ → Bool
is_full removed separated pairs = (ltb 0 removed && eqb separated removed) && eqb pairs 1
