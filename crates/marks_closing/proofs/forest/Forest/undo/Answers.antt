use native.Mathlib.Omega.{arith}
use Rattle.std.proofs.Common.{rules}
use Rattle.marks_closing.proofs.Slices.{same-start, same-next}
use Rattle.marks_closing.proofs.Undoes.{undoing-start, undoing-low, undoing-high, undoing-next, undoing-end}
use Rattle.marks_closing.proofs.forest.Forest.undo.Goals as goal

pub loop-k-init : goal.loop-k-init
loop-k-init c = (undoing-start c.requires, same-start)

pub part_again-requires : goal.part_again-requires
part_again-requires c =
    let inv = c.loop-k.invariant.0 in
    (undoing-low inv c.loop-k-test.true, undoing-high inv c.loop-k-test.true)

pub loop-k-preserved : goal.loop-k-preserved
loop-k-preserved c =
    let inv = c.loop-k.invariant in
    let parted = c.part_again.ensures in
    (undoing-next inv.0 c.loop-k-test.true parted.taken_back, same-next inv.1 parted.same_slices)

-- what the local forest leaves is what this one has
pub returns : goal.returns
returns c = search (rules, undoing-end c.loop-k.invariant.0 (λ l. omega arith))
