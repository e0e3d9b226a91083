use mathlib.Core.Path.{refl, sym, ◌∙◌}
use native.Mathlib.Omega.{arith}
use Rattle.results.proofs.Returns.{first_of, first-passed, first-room}
use Rattle.analysis.proofs.Leaving.{left-first, left-pairs}
use Rattle.analysis.proofs.Calling.{numbered, passed_on, header-there, by-list-job, by-list-headed}
use Rattle.analysis.proofs.plans.merges_by_list.Goals as goal

pub check_room-requires : goal.check_room-requires
check_room-requires c = (λ e. by-list-job _ _ (sym c.check_reduce_by_list.ensures ∙ e), omega arith)

pub returns-in_err-check_room : goal.returns-in_err-check_room
returns-in_err-check_room c =
    rw (passed_on c.from_residual.result _ c.from_residual.ensures.1)
    (left-first (first_of c.check_reduce_by_list.ensures c.in_err-check_room.ensures) (numbered _))

pub read_header-h-requires : goal.read_header-h-requires
read_header-h-requires c =
    let a = first_of c.check_reduce_by_list.ensures c.in_ok-check_room.ensures in
    header-there _ (by-list-job _ _ (first-passed a (omega arith)))

pub order_boundaries-requires : goal.order_boundaries-requires
order_boundaries-requires c =
    let a = first_of c.check_reduce_by_list.ensures c.in_ok-check_room.ensures in
    (by-list-headed _ _ (λ i. (c.type_inv.job i).fits) (first-passed a (omega arith)) c.read_header-h.ensures, refl)

pub plan_by_list-pairs-requires : goal.plan_by_list-pairs-requires
plan_by_list-pairs-requires c =
    let a = first_of c.check_reduce_by_list.ensures c.in_ok-check_room.ensures in
    let e = first-passed a (omega arith) in (
      record {
        job = record { headed = by-list-headed _ _ (λ i. (c.type_inv.job i).fits) e c.read_header-h.ensures; ranks = c.order_boundaries.ensures };
        room = first-room a (omega arith);
      },
      e,
      refl,
      c.requires.0,
      c.requires.1,
    )

pub returns : goal.returns
returns c =
    let a = first_of c.check_reduce_by_list.ensures c.in_ok-check_room.ensures in
    left-pairs (first-passed a (omega arith)) (first-room a (omega arith)) c.plan_by_list-pairs.ensures c.order_boundaries.ensures c.check_pairs.ensures
