-- What the first refusal means. Document 01: "Each number comes back under its own condition and place in the order, and
-- under no other".
use Rattle.std.specs.Prelude.{◌≡◌, true, false, List, ◌∷◌, ◌++◌}
use Rattle.lists.specs.Rows.{All}
use Rattle.checks.specs.Checks.{Refusal, Check}

abbrev pub Silent : Check → Type 0
Silent c = c.holds ≡ false

-- A check of the list holds and gives r, and none before it holds.
pub record FirstIs (cs : List Check) (r : Refusal) : Type 0 where
  pub before : List Check
  pub found : Check
  pub after : List Check
  pub place : cs ≡ before ++ (found ∷ after)
  pub holds : found.holds ≡ true
  pub gives : found.refusal ≡ r
  pub silent : All Silent before
