use Rattle.std.proofs.Common.{arith}
use Rattle.answer_gathering.proofs.Owns.{by-none, by-now, by-since, by_end}
use Rattle.answer_gathering.proofs.own.add_owns.Goals as goal

pub loop-j-init : goal.loop-j-init
loop-j-init c = by-none c.requires.2

pub add_own-count-requires : goal.add_own-count-requires
add_own-count-requires c = (c.requires.0, omega arith, c.requires.1, by-now c.loop-j.invariant)

pub loop-j-preserved : goal.loop-j-preserved
loop-j-preserved c = by-since c.loop-j.invariant c.add_own-count.ensures

pub returns : goal.returns
returns c = by_end _ _ c.loop-j.invariant (omega arith) (omega arith)
