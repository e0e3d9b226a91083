use mathlib.Core.Path.{sym, ◌∙◌, ap}
use Rattle.format.specs.declared.header.Header.{Header}
use Rattle.checks.specs.Checks.{first_refusal}
use Rattle.checks_calls.specs.Refusals.{record_checks, job_checks}
use Rattle.checks.proofs.Firsts.{append-none}
use Rattle.checks_calls.proofs.Passing.{stopped, laid-read, layout-passed}
use Rattle.checks_calls.proofs.calls.check_job.Goals as goal

pub returns-in_err-check_layout : goal.returns-in_err-check_layout
unfolding job_checks
returns-in_err-check_layout c = stopped _ _ _ _ c.from_residual.ensures.1 c.in_err-check_layout.ensures

pub read_header-requires : goal.read_header-requires
read_header-requires c = (layout-passed _ (sym c.in_ok-check_layout.ensures)).0

pub check_records-requires : goal.check_records-requires
check_records-requires c = laid-read _ _ c.read_header.ensures (layout-passed _ (sym c.in_ok-check_layout.ensures)).1

pub returns : goal.returns
unfolding job_checks
returns c =
    let job = c.args.job.now in
    c.check_records.ensures ∙ ap (λ (h : Header). first_refusal (record_checks job h.counts)) c.read_header.ensures
    ∙ sym (append-none _ _ (sym c.in_ok-check_layout.ensures))
