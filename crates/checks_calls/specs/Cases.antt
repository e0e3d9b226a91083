-- The jobs and headers that cases 9 and 10 of document 01's table speak of.
use Rattle.std.specs.Prelude.{◌≡◌, false, List, ◌∷◌, ◌++◌, ℕ, ◌+◌, ◌*◌, ◌≤◌, ◌<◌, length}
use Rattle.std.proofs.Math.Option.{none}
use Rattle.format.specs.Sizes.{header_size, boundary_size}
use Rattle.format.specs.Records.{boundary_at}
use Rattle.format.specs.Header.{header_at, map_cells, bases_start, boundaries_start}
use Rattle.format.specs.declared.header.Counts.{Counts}
use Rattle.checks.specs.Checks.{Check, check, first_refusal, each}
use Rattle.checks.specs.Numbers.{bad_sums}
use Rattle.checks.specs.Faults.{size_fault, count_fault, width_fault}
use Rattle.checks.specs.Single.{cell_check, base_check, sums_fault, ramp_check}
use Rattle.checks_calls.specs.Refusals.{layout_checks}

-- The job passes 1 to 9.
abbrev pub up_to_ramps : List ℕ → Counts → List Check
up_to_ramps s c =
    each (map_cells c) (cell_check s)
    ++ (each c.bases (base_check s c.width c.height (bases_start c))
    ++ (check (sums_fault s c) bad_sums 0
    ∷ each c.boundaries (ramp_check s (boundaries_start c))))

-- The width bits of boundary i.
abbrev pub bits_at : List ℕ → Counts → ℕ → ℕ
bits_at s c i = (boundary_at s (boundaries_start c + i * boundary_size)).bits

-- A job whose first fault is the width of boundary k.
pub record FirstWidth (s : List ℕ) (k : ℕ) : Type 0 where
  pub laid : first_refusal (layout_checks s) ≡ none
  pub before : first_refusal (up_to_ramps s (header_at s).counts) ≡ none
  pub there : k < (header_at s).counts.boundaries
  pub right : (i : ℕ) → i < k → width_fault (bits_at s (header_at s).counts i) ≡ false

-- A header that passes 1 to 3.
pub record PassesThree (s : List ℕ) : Type 0 where
  pub whole : header_size ≤ length s
  pub sides : size_fault (header_at s).counts ≡ false
  pub counts : count_fault (header_at s).counts ≡ false
