use mathlib.Core.Path.{refl, ◌∙◌}
use native.Mathlib.Nat.{mul-le-mul}
use native.Mathlib.Omega.{arith}
use Rattle.analysis.proofs.Bridging.{owned_in, marked-within, unmarked-within}
use Rattle.analysis.proofs.marked.mark_spans.Goals as goal

pub returns-then-most-pairs : goal.returns-then-most-pairs
returns-then-most-pairs c = unmarked-within c.partition_by_spans-p.ensures c.if-most-pairs.true

pub overflow_mul-n : goal.overflow_mul-n
overflow_mul-n c =
    let p = c.requires.0 in
    omega (arith, p.whole, mul-le-mul p.sides.wide p.sides.high)

pub mark_boundaries-requires : goal.mark_boundaries-requires
mark_boundaries-requires c =
    let p = c.requires in
    let k = c.partition_by_spans-p.auto in
    owned_in c.partition_by_spans-p.ensures _ refl p.0.few p.1.few (k.owners ∙ p.1.owners-are) k.lefts
    (k.rights ∙ p.1.rights-are) c.if-most-pairs.false

pub returns : goal.returns
returns c =
    let e = c.mark_boundaries.ensures in
    marked-within c.partition_by_spans-p.ensures e.work e.marks
