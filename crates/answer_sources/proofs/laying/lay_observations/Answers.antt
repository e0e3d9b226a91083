use Rattle.std.proofs.Common.{ap, arith}
use Rattle.format.specs.declared.records.ObservationRecord.{ObservationRecord}
use Rattle.answer_sources.proofs.Lays.{lays-start, lays-next, lays-small, lays-end}
use Rattle.answer_sources.proofs.laying.lay_observations.Goals as goal

pub loop-i-init : goal.loop-i-init
loop-i-init c = lays-start c.requires

pub overflow_add-r : goal.overflow_add-r
overflow_add-r c =
    omega (
      arith,
      lays-small c.requires c.loop-i.invariant (omega arith),
      ap (λ (o : ObservationRecord). o.sources) c.read_observation-o.ensures,
    )

pub loop-i-preserved : goal.loop-i-preserved
loop-i-preserved c =
    lays-next _ c.loop-i.invariant (omega (arith, c.requires.starts-room)) (omega (arith, c.requires.counts-room))
    (ap (λ (o : ObservationRecord). o.sources) c.read_observation-o.ensures)

pub returns : goal.returns
returns c = lays-end c.loop-i.invariant (omega arith) (omega arith)
