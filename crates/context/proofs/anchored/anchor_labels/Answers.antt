use mathlib.Core.Path.{refl}
use native.Mathlib.Omega.{arith}
use Rattle.lists.specs.Rows.{rows}
use Rattle.order.specs.Lists.{gather}
use Rattle.format.specs.Decode.{base_records}
use Rattle.context.specs.Anchors.{anchors_of}
use Rattle.context.proofs.Bases.{read_next, all_read}
use Rattle.context.proofs.anchored.anchor_labels.Goals as goal

pub loop-i-init : goal.loop-i-init
unfolding base_records rows anchors_of gather
loop-i-init c = record { few = omega arith; read = refl }

pub loop-i-preserved : goal.loop-i-preserved
loop-i-preserved c =
    let inv = c.loop-i.invariant in
    let new = c.add_label-found.ensures in
    record { few = omega (arith, new.most, inv.few); read = read_next _ _ _ _ _ c.read_base-b.ensures inv.read new }

pub returns : goal.returns
returns c =
    let l = c.loop-i in
    all_read {i = l.i} {count = c.args.count} (omega arith) (omega (arith, l.invariant.few, l.auto.anchors, c.requires.1)) l.invariant.read
