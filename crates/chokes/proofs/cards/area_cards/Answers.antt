use mathlib.Core.Path.{refl, sym, ◌∙◌}
use native.Mathlib.Omega.{arith}
use Rattle.results.proofs.Returns.{first_of, first-passed, first-room, pairs-few}
use Rattle.analysis.proofs.Calling.{numbered, passed_on, counted_on, header-there, reduce-job, reduce-own}
use Rattle.chokes.proofs.Carded.{cells-labelled, cards-first, cards-many, cards-done, cards-as}
use Rattle.chokes.proofs.Finishing.{leads-eight}
use Rattle.chokes.proofs.cards.area_cards.Goals as goal

pub check_room-requires : goal.check_room-requires
check_room-requires c = (λ e. reduce-job _ (sym c.check_reduce.ensures ∙ e), omega arith)

pub returns-in_err-check_room : goal.returns-in_err-check_room
returns-in_err-check_room c =
    let r = c.from_residual.ensures.1 in
    rw (passed_on c.from_residual.result _ r, counted_on c.from_residual.result _ r)
    (cards-first _ _ _ _ (first_of c.check_reduce.ensures c.in_err-check_room.ensures) (numbered _) ∙ cards-as _ _ _)

pub read_header-h-requires : goal.read_header-h-requires
read_header-h-requires c =
    let a = first_of c.check_reduce.ensures c.in_ok-check_room.ensures in
    header-there _ (reduce-job _ (first-passed a (omega arith)))

pub part_areas-found-requires : goal.part_areas-found-requires
part_areas-found-requires c =
    let a = first_of c.check_reduce.ensures c.in_ok-check_room.ensures in
    (reduce-own (λ i. (c.type_inv.job i).fits) (first-passed a (omega arith)) c.read_header-h.ensures (first-room a (omega arith)), leads-eight)

pub returns-in_err-check_pairs : goal.returns-in_err-check_pairs
returns-in_err-check_pairs c =
    let a = first_of c.check_reduce.ensures c.in_ok-check_room.ensures in
    let r = c.from_residual-in_err-check_pairs.ensures.1 in
    rw (passed_on c.from_residual-in_err-check_pairs.result _ r, counted_on c.from_residual-in_err-check_pairs.result _ r)
    (cards-many _ _ _ _ (first-passed a (omega arith)) (first-room a (omega arith)) c.part_areas-found.ensures c.in_err-check_pairs.ensures (numbered _)
    ∙ cards-as _ _ _)

pub finish_cards-requires : goal.finish_cards-requires
finish_cards-requires c =
    let a = first_of c.check_reduce.ensures c.in_ok-check_room.ensures in
    let own = reduce-own (λ i. (c.type_inv.job i).fits) (first-passed a (omega arith)) c.read_header-h.ensures (first-room a (omega arith)) in
    cells-labelled _ _ _ c.part_areas-found.ensures (pairs-few c.in_ok-check_pairs.ensures (omega arith)) own.headed

pub returns : goal.returns
returns c =
    let a = first_of c.check_reduce.ensures c.in_ok-check_room.ensures in
    let e = first-passed a (omega arith) in
    let w = first-room a (omega arith) in
    let own = reduce-own (λ i. (c.type_inv.job i).fits) e c.read_header-h.ensures w in
    cards-done _ _ _ _ e w c.part_areas-found.ensures (pairs-few c.in_ok-check_pairs.ensures (omega arith)) own.headed c.finish_cards.ensures
    ∙ cards-as _ _ _
