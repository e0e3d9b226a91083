use mathlib.Core.Path.{sym, ◌∙◌, ap}
use mathlib.Core.Bool.{false}
use native.Mathlib.Omega.{arith}
use Rattle.format.specs.declared.header.Header.{Header}
use Rattle.checks.specs.Checks.{first_refusal}
use Rattle.checks.specs.Single.{list_checks}
use Rattle.checks_calls.specs.Refusals.{by_list_checks}
use Rattle.checks.proofs.Firsts.{append-none}
use Rattle.checks_calls.proofs.Passing.{stopped, laid-read, boundaries-passed}
use Rattle.checks_calls.proofs.calls.check_reduce_by_list.Goals as goal

pub returns-in_err-check_boundaries : goal.returns-in_err-check_boundaries
unfolding by_list_checks
returns-in_err-check_boundaries c = stopped _ _ _ _ c.from_residual.ensures.1 c.in_err-check_boundaries.ensures

pub read_header-h-requires : goal.read_header-h-requires
read_header-h-requires c = (boundaries-passed false _ (sym c.in_ok-check_boundaries.ensures)).0

pub check_list-requires : goal.check_list-requires
check_list-requires c =
    let l = laid-read _ _ c.read_header-h.ensures (boundaries-passed false _ (sym c.in_ok-check_boundaries.ensures)).1 in (omega arith, omega arith)

pub returns : goal.returns
unfolding by_list_checks
returns c =
    let list = c.args.list.now in
    c.check_list.ensures
    ∙ ap (λ (h : Header). first_refusal (list_checks list h.counts.width h.counts.height)) c.read_header-h.ensures
    ∙ sym (append-none _ _ (sym c.in_ok-check_boundaries.ensures))
