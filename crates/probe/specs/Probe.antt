-- What the driver's functions show.
use Rattle.std.specs.Prelude.{ℕ, cond, List, ◌++◌, ltb, eqb, length, drop}
use Rattle.std.proofs.Math.Option.{Option}
use Rattle.checks.specs.Checks.{Refusal, first_refusal}
use Rattle.checks_calls.specs.Refusals.{reduce_checks, mark_checks, by_list_checks}

-- The refusal that a call's input checks give: 0 Reduce, 1 Reduce by list, any other Mark.
unfoldable pub checked : ℕ → List ℕ → List ℕ → Option Refusal
checked call s l = cond (eqb call 0) (first_refusal (reduce_checks s)) (cond (eqb call 1) (first_refusal (by_list_checks s l)) (first_refusal (mark_checks s)))

-- out with xs at its start, or as it was where xs does not fit.
unfoldable pub put_first : List ℕ → List ℕ → List ℕ
put_first out xs = cond (ltb (length out) (length xs)) out (xs ++ drop (length xs) out)

-- How many bytes were put so.
unfoldable pub length_where_fits : List ℕ → List ℕ → ℕ
length_where_fits out xs = cond (ltb (length out) (length xs)) 0 (length xs)
