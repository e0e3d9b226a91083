use Prim.Native.Nat.{◌≤◌}
use native.Mathlib.Omega.{arith}
use lib.ListN.{length}
use Rattle.grid.specs.Cells.{map_of}
use Rattle.areas_partition.proofs.Labelling.{few-cells, marked-open, marked-due, due-there, marked-sound, areas-in}
use Rattle.areas_partition.proofs.label_areas.Goals as goal

pub write_dues-requires : goal.write_dues-requires
write_dues-requires c =
    let p = c.requires in
    let g = map_of c.args.width c.args.height c.args.cells.now in
    let opened = marked-open _ g _ _ _ p.room (omega arith) c.mark_spans.ensures in
    (omega (arith, opened.long, p.room), omega (arith, p.whole, few-cells p.sides, p.sides.wide))

pub components-requires : goal.components-requires
components-requires c =
    let p = c.requires in
    let g = map_of c.args.width c.args.height c.args.cells.now in
    let opened = marked-open _ g _ _ _ p.room (omega arith) c.mark_spans.ensures in
    let due = c.write_dues.ensures in
    let marked = marked-due _ g _ _ _ p.room (omega arith) opened due in
    let sound = marked-sound _ _ _ _ _ p.room p.each marked in
    let there = due-there _ g _ _ _ p.room (omega arith) opened due in
    let few : length c.args.cells.now ≤ 1048576 = omega (arith, p.whole, few-cells p.sides) in
    record {
      cells_len_bound = (few, p.sides.columns, omega arith, omega (arith, marked.long, p.room));
      open_bytes_sound = sound;
      cells_value = there;
    }

pub returns : goal.returns
returns c =
    let p = c.requires in
    let g = map_of c.args.width c.args.height c.args.cells.now in
    let opened = marked-open _ g _ _ _ p.room (omega arith) c.mark_spans.ensures in
    let due = c.write_dues.ensures in
    let marked = marked-due _ g _ _ _ p.room (omega arith) opened due in
    areas-in _ _ _ _ _ p.room p.each marked c.components.ensures
