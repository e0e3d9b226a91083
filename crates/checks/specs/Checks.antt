-- A list of checks, and the refusal that it gives. Document 01: "A refusal is its number with one detail"; "Each number
-- comes back under its own condition and place in the order, and under no other".
use Rattle.std.specs.Prelude.{ℕ, zero, suc, Bool, cond, List, [], ◌∷◌, ◌++◌}
use Rattle.std.proofs.Math.Option.{Option, none, some}

pub record Refusal : Type 0 where
  pub number : ℕ
  pub detail : ℕ

-- A condition under which a call declines, with the refusal that it then gives.
pub record Check : Type 0 where
  pub holds : Bool
  pub refusal : Refusal

abbrev pub check : Bool → ℕ → ℕ → Check
check t n d = record { holds = t; refusal = record { number = n; detail = d } }

-- The refusal of the first check that holds.
unfoldable pub first_refusal : List Check → Option Refusal
first_refusal [] = none
first_refusal (c ∷ cs) = cond c.holds (some c.refusal) (first_refusal cs)

-- The checks of 0, then those of 1, and so on to those of n − 1.
unfoldable pub each : ℕ → (ℕ → List Check) → List Check
each zero f = []
each (suc n) f = each n f ++ f n
