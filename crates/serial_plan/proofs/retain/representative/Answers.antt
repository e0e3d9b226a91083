use Rattle.serial_links.specs.HeldLimits.{limits_of}
use Rattle.serial_plan.specs.Shape.{fine_in}
use Rattle.serial_plan.specs.Fitting.{RankFits}
use Rattle.serial_plan.specs.Few.{few_list}
use Rattle.serial_plan.proofs.ShapeLaws.{kept-slots}
use Rattle.serial_plan.proofs.ValueLaws.{eligible-as, retained-none, retained-some, positive}
use Rattle.serial_plan.proofs.retain.representative.Goals as goal

pub returns-then-among-eq0 : goal.returns-then-among-eq0
returns-then-among-eq0 c =
    let bits = c.args.bits.now in
    let limits = c.args.limits in
    let ranks = c.args.ranks in (
      retained-none (limits_of limits) c.args.own.now bits ranks
          (eligible-as (limits_of limits) bits (few_list ranks) c.width_of-least.ensures c.least_bits.ensures.0
          c.eligible-among.ensures) c.if-among-eq0.true c.requires.0 c.index.ensures.0,
      c.index.ensures.1,
    )

pub nearest-requires : goal.nearest-requires
nearest-requires c = (
  c.requires.0,
  positive c.eligible-among.result.count c.if-among-eq0.false,
  c.requires.2,
  kept-slots (RankFits c.args.own.now) (fine_in (limits_of c.args.limits) c.args.bits.now c.width_of-least.result)
      c.args.ranks c.eligible-among.ensures c.requires.2 c.requires.4,
)

pub returns : goal.returns
returns c =
    let bits = c.args.bits.now in
    let limits = c.args.limits in
    let ranks = c.args.ranks in (
      retained-some (limits_of limits) c.args.own.now bits ranks
          (eligible-as (limits_of limits) bits (few_list ranks) c.width_of-least.ensures c.least_bits.ensures.0
          c.eligible-among.ensures) c.requires.1 c.if-among-eq0.false c.nearest.ensures.0,
      c.nearest.ensures.1,
    )
