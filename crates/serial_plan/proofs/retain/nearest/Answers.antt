use mathlib.Core.Path.{sym}
use Prim.Native.Nat.{◌-◌}
use native.Mathlib.Omega.{arith}
use mathlib.Core.Path.{subst}
use Rattle.serial_plan.specs.Shape.{nearer_in}
use Rattle.serial_plan.specs.Fitting.{RankFits}
use Rattle.serial_plan.specs.Few.{few_at, few_list}
use Rattle.order.proofs.SortedFirst.{first-start, first_next}
use Rattle.serial_plan.proofs.ValueLaws.{first-listed}
use Rattle.serial_plan.proofs.retain.nearest.Goals as goal

pub loop-j-init : goal.loop-j-init
loop-j-init c =
    let own = c.args.own.now in
    let among = c.args.among in (
      first-start (nearer_in own (few_list c.args.ranks)) (few_at among) among.count (among.count - 1) (omega (arith, c.requires.1))
          c.index-best.ensures.0,
      subst (RankFits own) (sym c.index-best.ensures.0) (c.requires.3 (among.count - 1)),
    )

pub nearer-best-requires : goal.nearer-best-requires
nearer-best-requires c = (
  c.requires.0,
  c.requires.2,
  subst (RankFits c.args.own.now) (sym c.index.ensures.0) (c.requires.3 (c.loop-j.j - 1)),
  c.loop-j.invariant.1,
)

pub loop-j-preserved : goal.loop-j-preserved
loop-j-preserved c =
    let among = c.args.among in (
      first_next (nearer_in c.args.own.now (few_list c.args.ranks)) (few_at among) among.count c.index.result
          c.loop-j.invariant.0 c.loop-j-test.true c.index.ensures.0 c.nearer-best.ensures.0,
      c.nearer-best.ensures.1,
    )

pub returns : goal.returns
returns c =
    let inv = c.loop-j.invariant in (
      first-listed (nearer_in c.args.own.now (few_list c.args.ranks)) c.args.among inv.0
          (omega (arith, c.loop-j-test.false)),
      inv.1.below,
    )
