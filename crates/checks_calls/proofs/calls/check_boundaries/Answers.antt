use mathlib.Core.Path.{refl, sym, ◌∙◌, ap}
use native.Mathlib.Omega.{arith}
use Rattle.format.specs.declared.header.Header.{Header}
use Rattle.checks.specs.Checks.{first_refusal}
use Rattle.checks.specs.Single.{ends_check}
use Rattle.checks_calls.specs.Refusals.{ends_checks, boundary_checks}
use Rattle.checks.proofs.Firsts.{append-none}
use Rattle.checks.proofs.Limits.{sections}
use Rattle.checks_calls.proofs.Passing.{stopped, moved, laid-read, job-passed}
use Rattle.checks_calls.proofs.calls.check_boundaries.Goals as goal

pub returns-in_err-check_job : goal.returns-in_err-check_job
unfolding boundary_checks
returns-in_err-check_job c = stopped _ _ _ _ c.from_residual.ensures.1 c.in_err-check_job.ensures

pub read_header-h-requires : goal.read_header-h-requires
read_header-h-requires c = (job-passed _ (sym c.in_ok-check_job.ensures)).0

pub check_ends-requires : goal.check_ends-requires
check_ends-requires c =
    let l = laid-read _ _ c.read_header-h.ensures (job-passed _ (sym c.in_ok-check_job.ensures)).1 in
    (omega (arith, (sections _ _ l).boundaries-in), omega arith, omega arith)

pub returns : goal.returns
unfolding boundary_checks ends_checks
returns c =
    let l = laid-read _ _ c.read_header-h.ensures (job-passed _ (sym c.in_ok-check_job.ensures)).1 in
    let a = c.args in
    let k = c.read_header-h.result.counts in
    moved (ends_check a.distinct a.job.now k.width k.height) c.check_ends.ensures (sections _ _ l).boundaries-at refl
    ∙ ap (λ (h : Header). first_refusal (ends_checks a.distinct a.job.now h.counts)) c.read_header-h.ensures
    ∙ sym (append-none _ _ (sym c.in_ok-check_job.ensures))
