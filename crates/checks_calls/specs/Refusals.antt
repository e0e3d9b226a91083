-- The checks of each call in their order: "Order: 1 to 10, then 11 and 12 boundary by boundary, 14, 15, then 16 and 17
-- span by span". What comes after (21, 13, 22, 23) needs more than the input.
use Rattle.std.specs.Prelude.{ℕ, Bool, true, false, not, List, [], ◌∷◌, ◌++◌, ltb, eqb, length}
use Rattle.format.specs.Sizes.{header_size}
use Rattle.format.specs.Header.{header_at, map_cells, bases_start, boundaries_start}
use Rattle.format.specs.declared.header.Counts.{Counts}
use Rattle.checks.specs.Checks.{Check, check, each}
use Rattle.checks.specs.Numbers.{job_too_short, bad_layout, bad_sums}
use Rattle.checks.specs.Single.{header_checks, cell_check, base_check, sums_fault, ramp_check, width_check, ends_check, list_checks}

-- 6 to 10, each over the whole job before the next.
unfoldable pub record_checks : List ℕ → Counts → List Check
record_checks s c =
    each (map_cells c) (cell_check s)
    ++ (each c.bases (base_check s c.width c.height (bases_start c))
    ++ (check (sums_fault s c) bad_sums 0
    ∷ (each c.boundaries (ramp_check s (boundaries_start c))
    ++ each c.boundaries (width_check s (boundaries_start c)))))

-- 1 to 5. The length of the slice is checked apart from the words.
unfoldable pub layout_checks : List ℕ → List Check
layout_checks s =
    check (ltb (length s) header_size) job_too_short 0
    ∷ (header_checks (header_at s)
    ++ (check (not (eqb (length s) (header_at s).offsets.total)) bad_layout 0
    ∷ []))

-- 1 to 10.
unfoldable pub job_checks : List ℕ → List Check
job_checks s = layout_checks s ++ record_checks s (header_at s).counts

-- 11 and 12, boundary by boundary.
unfoldable pub ends_checks : Bool → List ℕ → Counts → List Check
ends_checks distinct s c = each c.boundaries (ends_check distinct s c.width c.height (boundaries_start c))

-- 1 to 12, or without 12.
unfoldable pub boundary_checks : Bool → List ℕ → List Check
boundary_checks distinct s = job_checks s ++ ends_checks distinct s (header_at s).counts

-- The three calls. "12 … not in reduce by list"
unfoldable pub reduce_checks : List ℕ → List Check
reduce_checks s = boundary_checks true s

unfoldable pub mark_checks : List ℕ → List Check
mark_checks s = boundary_checks true s

unfoldable pub by_list_checks : List ℕ → List ℕ → List Check
by_list_checks s l = boundary_checks false s ++ list_checks l (header_at s).counts.width (header_at s).counts.height
