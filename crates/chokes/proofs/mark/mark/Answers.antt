use mathlib.Core.Path.{refl, sym, ◌∙◌}
use native.Mathlib.Omega.{arith}
use Rattle.results.proofs.Returns.{first_of, first-passed, first-room, pairs-few}
use Rattle.results.proofs.Results.{mark-first}
use Rattle.analysis.proofs.Calling.{numbered, passed_on, counted_on, header-there, mark-job, mark-own}
use Rattle.chokes.proofs.Marked.{mark-few, mark-count, marked-many, mark-no-room, mark-done, mark-as}
use Rattle.chokes.proofs.Finishing.{leads-eight}
use Rattle.chokes.proofs.mark.mark.Goals as goal

pub check_room-requires : goal.check_room-requires
check_room-requires c = (λ e. mark-job _ (sym c.check_mark.ensures ∙ e), omega arith)

pub returns-in_err-check_room : goal.returns-in_err-check_room
returns-in_err-check_room c =
    let r = c.from_residual.ensures.1 in
    rw (passed_on c.from_residual.result _ r, counted_on c.from_residual.result _ r)
    (mark-first _ _ _ _ (first_of c.check_mark.ensures c.in_err-check_room.ensures) (numbered _) ∙ mark-as _ _ _)

pub read_header-h-requires : goal.read_header-h-requires
read_header-h-requires c =
    let a = first_of c.check_mark.ensures c.in_ok-check_room.ensures in
    header-there _ (mark-job _ (first-passed a (omega arith)))

pub analyse_boundaries-pairs-requires : goal.analyse_boundaries-pairs-requires
analyse_boundaries-pairs-requires c =
    let a = first_of c.check_mark.ensures c.in_ok-check_room.ensures in
    (mark-own (λ i. (c.type_inv.job i).fits) (first-passed a (omega arith)) c.read_header-h.ensures (first-room a (omega arith)), leads-eight)

pub returns-in_err-check_pairs : goal.returns-in_err-check_pairs
returns-in_err-check_pairs c =
    let a = first_of c.check_mark.ensures c.in_ok-check_room.ensures in
    let r = c.from_residual-in_err-check_pairs.ensures.1 in
    rw (passed_on c.from_residual-in_err-check_pairs.result _ r, counted_on c.from_residual-in_err-check_pairs.result _ r)
    (marked-many _ _ _ _ (first-passed a (omega arith)) (first-room a (omega arith)) c.analyse_boundaries-pairs.ensures c.in_err-check_pairs.ensures
    (numbered _) ∙ mark-as _ _ _)

pub returns-then-marks-n : goal.returns-then-marks-n
returns-then-marks-n c =
    let a = first_of c.check_mark.ensures c.in_ok-check_room.ensures in
    let e = first-passed a (omega arith) in
    let w = first-room a (omega arith) in
    let own = mark-own (λ i. (c.type_inv.job i).fits) e c.read_header-h.ensures w in
    mark-no-room _ _ _ _ e w c.analyse_boundaries-pairs.ensures (pairs-few c.in_ok-check_pairs.ensures (omega arith))
    (omega (arith, c.if-marks-n.true, mark-count own.headed refl)) ∙ mark-as _ _ _

pub copy_first-requires : goal.copy_first-requires
copy_first-requires c =
    let a = first_of c.check_mark.ensures c.in_ok-check_room.ensures in
    let own = mark-own (λ i. (c.type_inv.job i).fits) (first-passed a (omega arith)) c.read_header-h.ensures (first-room a (omega arith)) in
    (mark-few own.headed refl, c.if-marks-n.false)

pub returns : goal.returns
returns c =
    let a = first_of c.check_mark.ensures c.in_ok-check_room.ensures in
    let e = first-passed a (omega arith) in
    let w = first-room a (omega arith) in
    let own = mark-own (λ i. (c.type_inv.job i).fits) e c.read_header-h.ensures w in
    mark-done _ _ _ _ e w c.analyse_boundaries-pairs.ensures (pairs-few c.in_ok-check_pairs.ensures (omega arith))
    (mark-few own.headed refl) (mark-count own.headed refl) c.if-marks-n.false c.copy_first.ensures
    ∙ mark-as _ _ _
