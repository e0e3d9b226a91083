use mathlib.Core.Path.{refl}
use native.Mathlib.Omega.{arith}
use lib.ListN.{get_or}
use Rattle.results.proofs.Returns.{pairs-few}
use Rattle.probe.specs.Parting.{count_bytes, written}
use Rattle.probe.proofs.WritingLaws.{length_two, length-blocks, after-head}
use Rattle.probe.proofs.own_partition.write_partition.Goals as goal

pub returns : goal.returns
returns c =
    let given = c.args in
    let long = length-blocks 8 (λ i. count_bytes (get_or given.removed.now i 0) (get_or given.separated.now i 0)) (λ i. length_two _ _) given.count in
    let room = c.if-out-total.false in
    written (pairs-few c.of_pairs-r.ensures (omega (arith, c.if-r-gt0.false))) (omega (arith, room)) refl refl
    (after-head given.out.now given.areas given.pairs _ _ long (omega (arith, room)) c.write_u32.ensures
    c.write_u32-2.ensures c.write_counts.ensures c.write_records.ensures)
