use mathlib.Core.Path.{ap}
use mathlib.Core.Bool.{not}
use Prim.Native.Nat.{◌/◌, ◌%◌}
use Rattle.serial_links.specs.HeldLimits.{limits_of}
use Rattle.serial_links.specs.HeldLink.{link_with_cell}
use Rattle.context.proofs.CountLoop.{left_out, put_in}
use Rattle.serial_measures.proofs.few.counted.Goals as goal

pub returns-then-not-inside : goal.returns-then-not-inside
returns-then-not-inside c =
    let a = c.args in
    left_out a.inside (link_with_cell (limits_of a.limits) a.link (a.i % a.width) (a.i / a.width)) (ap not c.if-not-inside.true)

pub returns : goal.returns
returns c =
    let a = c.args in
    put_in a.inside (link_with_cell (limits_of a.limits) a.link) a.link (a.i % a.width) (a.i / a.width) (ap not c.if-not-inside.false) c.at.ensures
    c.column_of.ensures.0 c.row_of.ensures.0
