use mathlib.Core.Path.{refl}
use native.Mathlib.Omega.{arith}
use Rattle.serial_ranks.proofs.Laws.{placed}
use Rattle.serial_ranks.proofs.record_place.Goals as goal

pub overflow_mul-result : goal.overflow_mul-result
overflow_mul-result c = let q = placed c.requires.0 c.args.i c.requires.1 in omega (arith, q.small)

pub overflow_add-result : goal.overflow_add-result
overflow_add-result c = let q = placed c.requires.0 c.args.i c.requires.1 in omega (arith, q.small, q.ends)

pub returns : goal.returns
returns c = let q = placed c.requires.0 c.args.i c.requires.1 in (refl, q.ends)
