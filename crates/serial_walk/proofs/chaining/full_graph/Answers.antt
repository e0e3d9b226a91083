use mathlib.Core.Path.{◌≡◌}
use native.Mathlib.Omega.{arith}
use Prim.Native.Nat.{◌+◌, ◌-◌, ◌<◌}
use lib.ListN.{length}
use Rattle.serial_walk.specs.Slices.{IncidenceLists}
use Rattle.serial_walk.proofs.Chains.{linked-one, linked-as}
use Rattle.serial_walk.proofs.chaining.full_graph.Goals as goal

pub link_record-requires : goal.link_record-requires
link_record-requires c =
    let k = c.loop-k.k - 1 in
    let l : c.loop-k.k - 1 < c.args.count = omega arith in
    let G = c.requires.0 in
    let N = c.loop-k.invariant in (
      omega (arith, G.lefts-are),
      omega (arith, G.rights-are),
      omega (arith, N.lefts-are),
      omega (arith, N.rights-are),
      omega (arith, G.left_in k l, N.heads-are),
      omega (arith, G.right-in k l, N.heads-are),
    )

pub loop-k-preserved : goal.loop-k-preserved
loop-k-preserved c =
    let a = c.args in
    let m = c.loop-k in
    let l : m.k - 1 < a.count = omega arith in
    let z : m.k ≡ m.k - 1 + 1 = omega arith in
    let n : IncidenceLists a.count (length a.heads.now) a.lefts.now a.rights.now m.heads m.left_nexts m.right_nexts (m.k - 1 + 1)
    = rw (← z) m.invariant in
    let e = c.link_record.ensures in
    linked-as _ _ _ _ _ _ _ _ _ _ _ e.lefts e.rights e.heads
    (linked-one a.count (length a.heads.now) a.lefts.now a.rights.now m.heads m.left_nexts m.right_nexts (m.k - 1) c.requires.0 n l)
