use mathlib.Core.Path.{refl, sym, ◌∙◌}
use native.Mathlib.Omega.{arith}
use Rattle.results.proofs.Returns.{first_of, first-passed, first-room}
use Rattle.analysis.proofs.Leaving.{left-first, left-pairs}
use Rattle.analysis.proofs.Calling.{numbered, passed_on, header-there, reduce-job, reduce-headed}
use Rattle.analysis.proofs.plans.merges_by_own_ends.Goals as goal

pub check_room-requires : goal.check_room-requires
check_room-requires c = (λ e. reduce-job _ (sym c.check_reduce.ensures ∙ e), omega arith)

pub returns-in_err-check_room : goal.returns-in_err-check_room
returns-in_err-check_room c =
    rw (passed_on c.from_residual.result _ c.from_residual.ensures.1)
    (left-first (first_of c.check_reduce.ensures c.in_err-check_room.ensures) (numbered _))

pub read_header-h-requires : goal.read_header-h-requires
read_header-h-requires c =
    let a = first_of c.check_reduce.ensures c.in_ok-check_room.ensures in
    header-there _ (reduce-job _ (first-passed a (omega arith)))

pub order_boundaries-requires : goal.order_boundaries-requires
order_boundaries-requires c =
    let a = first_of c.check_reduce.ensures c.in_ok-check_room.ensures in
    (reduce-headed (λ i. (c.type_inv.job i).fits) (first-passed a (omega arith)) c.read_header-h.ensures, refl)

pub plan_own-pairs-requires : goal.plan_own-pairs-requires
plan_own-pairs-requires c =
    let a = first_of c.check_reduce.ensures c.in_ok-check_room.ensures in
    let e = first-passed a (omega arith) in (
      record {
        job = record { headed = reduce-headed (λ i. (c.type_inv.job i).fits) e c.read_header-h.ensures; ranks = c.order_boundaries.ensures };
        room = first-room a (omega arith);
      },
      e,
      refl,
      c.requires.0,
      c.requires.1,
    )

pub returns : goal.returns
returns c =
    let a = first_of c.check_reduce.ensures c.in_ok-check_room.ensures in
    left-pairs (first-passed a (omega arith)) (first-room a (omega arith)) c.plan_own-pairs.ensures c.order_boundaries.ensures c.check_pairs.ensures
