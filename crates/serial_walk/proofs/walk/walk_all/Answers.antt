use mathlib.Core.Path.{refl}
use native.Mathlib.Omega.{arith}
use Rattle.serial_walk.proofs.Roots.{started}
use Rattle.serial_walk.proofs.Meaning.{answered}
use Rattle.serial_walk.proofs.walk.walk_all.Goals as goal

pub loop-r-init : goal.loop-r-init
loop-r-init c = let p = c.requires in started p.0 p.1 p.2 p.4 p.5 256 refl

pub visit-time-requires : goal.visit-time-requires
visit-time-requires c = (c.loop-r.invariant, c.requires.3, c.loop-r-test.true)

pub returns : goal.returns
returns c = let inv = c.loop-r.invariant in answered inv (omega arith) 256 inv.marks-are
