use Rattle.std.proofs.Common.{refl, arith}
use Rattle.answer_encoding.proofs.Loops.{grouping-start, own-few, seen_few, own_room, seen-room, grouping-next, grouping-end}
use Rattle.answer_encoding.proofs.sections.write_sources.Goals as goal

pub loop-k-init : goal.loop-k-init
loop-k-init c = grouping-start _ _ _ _ _ _ _ _ _ _ _ _

pub write_own-requires : goal.write_own-requires
write_own-requires c =
    own_room c.loop-k.invariant c.requires (omega arith) c.read_or-own.ensures c.read_or-n.ensures (omega arith)

pub overflow_add-to : goal.overflow_add-to
overflow_add-to c =
    omega (arith, (own_room c.loop-k.invariant c.requires (omega arith) c.read_or-own.ensures c.read_or-n.ensures refl).room)

pub write_runs-to-requires : goal.write_runs-to-requires
write_runs-to-requires c =
    let few = seen_few c.loop-k.invariant c.requires (omega arith) c.read_or-own.ensures c.read_or-n.ensures in (
      seen-room c.loop-k.invariant c.requires (omega arith) c.read_or-own.ensures c.read_or-n.ensures c.write_own.ensures,
      omega (arith, few),
      omega (arith, few),
    )

pub overflow_add-a : goal.overflow_add-a
overflow_add-a c = omega (arith, own-few c.loop-k.invariant c.requires (omega arith) c.read_or-own.ensures c.read_or-n.ensures)

pub overflow_add-q : goal.overflow_add-q
overflow_add-q c = omega (arith, seen_few c.loop-k.invariant c.requires (omega arith) c.read_or-own.ensures c.read_or-n.ensures)

pub loop-k-preserved : goal.loop-k-preserved
loop-k-preserved c =
    grouping-next c.loop-k.invariant c.requires (omega arith) c.read_or-own.ensures c.read_or-n.ensures c.write_own.ensures
    c.write_runs-to.ensures

pub returns : goal.returns
returns c = grouping-end c.loop-k.invariant (omega arith)
