use mathlib.Core.Path.{refl}
use mathlib.Core.Logic.{inr}
use native.Mathlib.Omega.{arith}
use Rattle.analysis.proofs.Headed.{headed-cells}
use Rattle.analysis.proofs.Within.{parted-wider, parted-again}
use Rattle.analysis.proofs.drawing.plan_matched.Goals as goal

pub overflow_mul-c : goal.overflow_mul-c
overflow_mul-c c =
    omega (arith, headed-cells c.requires.0.job.headed)

pub returns-then-pairs-le-FEW_PAIRS : goal.returns-then-pairs-le-FEW_PAIRS
returns-then-pairs-le-FEW_PAIRS c =
    λ ss e. parted-wider (c.plan_within-pairs.ensures.drawn_within ss e) (omega arith) (omega arith)

pub plan_within-requires-2 : goal.plan_within-requires-2
plan_within-requires-2 c =
    let p = c.requires in
    record {
      room = inr refl;
      given = (
        record { job = p.0.job; room = omega (arith, p.0.room, c.plan_within-pairs.auto.work) },
        p.1,
        p.2,
        c.plan_within-pairs.ensures.whole,
        p.4,
        p.5,
      );
    }

pub returns : goal.returns
returns c =
    λ ss e. parted-again (c.plan_within-pairs.ensures.drawn_within ss e) (c.plan_within-2.ensures.drawn_within ss e)
