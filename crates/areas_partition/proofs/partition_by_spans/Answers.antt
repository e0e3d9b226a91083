use Prim.Native.Nat.{◌≤◌}
use lib.ListN.{length}
use native.Mathlib.Omega.{arith}
use Rattle.areas_partition.proofs.Labelling.{few-cells}
use Rattle.areas_partition.proofs.Parting.{lent-long, room_after, all-parted}
use Rattle.areas_partition.proofs.partition_by_spans.Goals as goal

pub assess_spans-pairs-requires : goal.assess_spans-pairs-requires
assess_spans-pairs-requires c =
    let p = c.requires.0 in (
      record {
        sides = p.sides;
        whole = p.whole;
        labelled = lent-long _ _ _ c.label_areas-areas.ensures p.whole;
        spans = p.spans;
        few = p.few;
      },
      c.requires.1,
    )

pub overflow_mul-n-2 : goal.overflow_mul-n-2
overflow_mul-n-2 c = omega (arith, c.requires.0.whole, few-cells c.requires.0.sides)

pub overflow_mul-n-3 : goal.overflow_mul-n-3
overflow_mul-n-3 c = omega (arith, c.requires.0.whole, few-cells c.requires.0.sides)

pub zero_fill-requires : goal.zero_fill-requires
zero_fill-requires c =
    (omega arith, room_after _ _ _ c.label_areas-areas.ensures c.requires.0.room)

pub returns : goal.returns
returns c =
    let p = c.requires.0 in
    let few : length c.args.cells.now ≤ 1048576 = omega (arith, p.whole, few-cells p.sides) in
    all-parted _ _ _ _ few p.whole c.label_areas-areas.ensures
    c.assess_spans-pairs.ensures c.zero_fill.ensures (omega arith) (omega arith)
