use mathlib.Core.Path.{refl}
use native.Mathlib.Omega.{arith}
use Rattle.grid.specs.Directions.{directions_of}
use Rattle.areas_assessments.proofs.Recording.{zero-arrays}
use Rattle.analysis.proofs.Headed.{headed-laid, headed-cells}
use Rattle.analysis.proofs.Mapped.{map-inside}
use Rattle.analysis.proofs.OwnEnds.{own-partitionable}
use Rattle.probe.proofs.PartingLaws.{all-parted}
use Rattle.probe.proofs.own_partition.partition_job.Goals as goal

pub overflow_mul-n : goal.overflow_mul-n
overflow_mul-n c = omega (arith, headed-cells c.requires.0.headed)

pub slice_bounds-partition_by_spans-end : goal.slice_bounds-partition_by_spans-end
slice_bounds-partition_by_spans-end c =
    let headed = c.requires.0.headed in
    omega (arith, map-inside headed.header (headed-laid headed) _ refl)

pub partition_by_spans-p-requires : goal.partition_by_spans-p-requires
partition_by_spans-p-requires c =
    (own-partitionable c.requires.0 refl refl c.own_ends.ensures c.requires.1, zero-arrays 4096 (omega arith))

pub write_partition-requires : goal.write_partition-requires
write_partition-requires c = omega (arith, (headed-laid c.requires.0.headed).within.boundaries)

pub returns : goal.returns
returns c =
    all-parted c.requires.0 refl refl c.own_ends.ensures (directions_of c.args.directions) c.partition_by_spans-p.ensures
    c.write_partition.ensures
