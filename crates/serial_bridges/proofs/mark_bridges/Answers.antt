use mathlib.Core.Path.{◌∙◌}
use native.Mathlib.Omega.{arith}
use Rattle.serial_walk.proofs.Chains.{unlinked, linked-here}
use Rattle.serial_walk.proofs.Turn.{sized-as}
use Rattle.serial_bridges.proofs.Names.{remembered, restored}
use Rattle.serial_bridges.proofs.Small.{small-graph, small-marks}
use Rattle.serial_bridges.proofs.mark_bridges.Goals as goal

pub full_graph-requires : goal.full_graph-requires
full_graph-requires c =
    let l = c.requires.5 in
    (small-graph c.requires.2 c.number_all.ensures _ l.enough l.near, unlinked l.heads-are l.left-nexts-are l.right-nexts-are l.unchained)

pub walk_all-requires : goal.walk_all-requires
walk_all-requires c =
    let p = c.requires in
    let l = p.5 in
    let N = c.full_graph.ensures in
    let e = N.heads-are in (
      small-graph p.2 c.number_all.ensures _ (omega (arith, l.enough, e)) (omega (arith, l.near, e)),
      p.0,
      p.1,
      linked-here N,
      sized-as e l.sized,
      l.unfound,
    )

pub forget_all-requires : goal.forget_all-requires
forget_all-requires c = (c.requires.2, omega (arith, c.number_all.auto))

pub returns : goal.returns
returns c =
    let p = c.requires in
    let n = c.number_all.ensures in
    record {
      marks = c.walk_all.ensures ∙ small-marks p.2 n c.args.owners.now 256;
      work = restored (c.forget_all.ensures c.args.work.now (remembered n)) p.3 p.4;
    }
