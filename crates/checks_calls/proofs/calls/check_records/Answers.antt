use mathlib.Core.Path.{◌≡◌, refl, sym, ◌∙◌}
use mathlib.Core.Bool.{false}
use mathlib.Core.List.{List, ◌∷◌, ◌++◌}
use mathlib.Core.Option.{Option, none}
use Prim.Native.Nat.{ℕ}
use native.Mathlib.Omega.{arith}
use Rattle.format.specs.Header.{map_cells, bases_start, boundaries_start}
use Rattle.format.specs.declared.header.Header.{Header}
use Rattle.checks.specs.Numbers.{bad_sums}
use Rattle.checks.specs.Checks.{Refusal, Check, check, first_refusal, each}
use Rattle.checks.specs.Passed.{Laid}
use Rattle.checks.specs.Single.{cell_check, base_check, sums_fault, ramp_check, width_check}
use Rattle.checks_calls.specs.Refusals.{record_checks}
use Rattle.checks.proofs.Firsts.{skip, stop, append-none}
use Rattle.checks.proofs.Limits.{cells-limit, sections}
use Rattle.checks_calls.proofs.Passing.{stopped, moved}
use Rattle.checks_calls.proofs.calls.check_records.Goals as goal

module _ {s : List ℕ} {h : Header} (l : Laid s h) where
  abbrev cells : List Check
  cells = each (map_cells h.counts) (cell_check s)

  -- the records' checks from a place: the sections' own, or where the header says that they are
  abbrev bases : ℕ → List Check
  bases at = each h.counts.bases (base_check s h.counts.width h.counts.height at)

  abbrev ramps : ℕ → List Check
  ramps at = each h.counts.boundaries (ramp_check s at)

  abbrev widths : ℕ → List Check
  widths at = each h.counts.boundaries (width_check s at)

  abbrev after-sums : List Check
  after-sums = ramps (boundaries_start h.counts) ++ widths (boundaries_start h.counts)

  -- what a loop answers, of where its section is
  bases-told : {o : Option Refusal} → o ≡ first_refusal (bases h.offsets.bases) → o ≡ first_refusal (bases (bases_start h.counts))
  bases-told e = moved (base_check s h.counts.width h.counts.height) e (sections s h l).bases-at refl

  ramps-told : {o : Option Refusal} → o ≡ first_refusal (ramps h.offsets.boundaries) → o ≡ first_refusal (ramps (boundaries_start h.counts))
  ramps-told e = moved (ramp_check s) e (sections s h l).boundaries-at refl

  widths-told : {o : Option Refusal} → o ≡ first_refusal (widths h.offsets.boundaries) → o ≡ first_refusal (widths (boundaries_start h.counts))
  widths-told e = moved (width_check s) e (sections s h l).boundaries-at refl

  -- past the cells, the bases and the sums
  past-cells : none ≡ first_refusal cells
      → first_refusal (record_checks s h.counts) ≡ first_refusal (bases (bases_start h.counts) ++ (check (sums_fault s h.counts) bad_sums 0 ∷ after-sums))
  unfolding record_checks
  past-cells e = append-none _ _ (sym e)

  past-bases : none ≡ first_refusal cells → none ≡ first_refusal (bases h.offsets.bases)
      → first_refusal (record_checks s h.counts) ≡ first_refusal (check (sums_fault s h.counts) bad_sums 0 ∷ after-sums)
  past-bases e f = past-cells e ∙ append-none _ _ (sym (bases-told f))

  past-sums : none ≡ first_refusal cells → none ≡ first_refusal (bases h.offsets.bases) → sums_fault s h.counts ≡ false
      → first_refusal (record_checks s h.counts) ≡ first_refusal after-sums
  past-sums e f g = past-bases e f ∙ skip _ _ g

pub overflow_mul-c : goal.overflow_mul-c
overflow_mul-c c = omega (arith, cells-limit _ c.requires.within)

pub returns-in_err-check_cells : goal.returns-in_err-check_cells
unfolding record_checks
returns-in_err-check_cells c = stopped _ _ _ _ c.from_residual.ensures.1 c.in_err-check_cells.ensures

pub check_bases-requires : goal.check_bases-requires
check_bases-requires c = omega (arith, (sections _ _ c.requires).bases-in)

pub returns-in_err-check_bases : goal.returns-in_err-check_bases
returns-in_err-check_bases c =
    stopped _ _ _ _ c.from_residual-in_err-check_bases.ensures.1 (bases-told c.requires c.in_err-check_bases.ensures)
    ∙ sym (past-cells c.requires c.in_ok-check_cells.ensures)

pub returns-then-sums_fault : goal.returns-then-sums_fault
returns-then-sums_fault c =
    sym (past-bases c.requires c.in_ok-check_cells.ensures c.in_ok-check_bases.ensures ∙ stop _ _ (sym c.sums_fault.ensures ∙ c.if-sums_fault.true))

pub check_ramps-requires : goal.check_ramps-requires
check_ramps-requires c = omega (arith, (sections _ _ c.requires).boundaries-in)

pub returns-in_err-check_ramps : goal.returns-in_err-check_ramps
returns-in_err-check_ramps c =
    stopped _ _ _ _ c.from_residual-in_err-check_ramps.ensures.1 (ramps-told c.requires c.in_err-check_ramps.ensures)
    ∙ sym (past-sums c.requires c.in_ok-check_cells.ensures c.in_ok-check_bases.ensures (sym c.sums_fault.ensures ∙ c.if-sums_fault.false))

pub check_widths-requires : goal.check_widths-requires
check_widths-requires c = omega (arith, (sections _ _ c.requires).boundaries-in)

pub returns : goal.returns
returns c =
    widths-told c.requires c.check_widths.ensures
    ∙ sym (past-sums c.requires c.in_ok-check_cells.ensures c.in_ok-check_bases.ensures (sym c.sums_fault.ensures ∙ c.if-sums_fault.false)
    ∙ append-none _ _ (sym (ramps-told c.requires c.in_ok-check_ramps.ensures)))
