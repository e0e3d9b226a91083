use mathlib.Core.Path.{refl}
use native.Mathlib.Omega.{arith}
use Rattle.format.specs.Header.{offsets_of}
use Rattle.checks.proofs.Limits.{total-limit}
use Rattle.checks.proofs.header.offsets_of.Goals as goal

pub overflow_mul-bases : goal.overflow_mul-bases
overflow_mul-bases c = omega (arith, total-limit _ c.requires)

pub overflow_add-bases : goal.overflow_add-bases
overflow_add-bases c = omega (arith, total-limit _ c.requires)

pub overflow_add-boundaries : goal.overflow_add-boundaries
overflow_add-boundaries c = omega (arith, total-limit _ c.requires)

pub overflow_add-observations : goal.overflow_add-observations
overflow_add-observations c = omega (arith, total-limit _ c.requires)

pub overflow_add-sources : goal.overflow_add-sources
overflow_add-sources c = omega (arith, total-limit _ c.requires)

pub overflow_add-total : goal.overflow_add-total
overflow_add-total c = omega (arith, total-limit _ c.requires)

pub returns : goal.returns
unfolding offsets_of
returns c = refl
