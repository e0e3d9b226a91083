use mathlib.Core.Path.{refl, ◌∙◌}
use native.Mathlib.Nat.{mul-le-mul}
use native.Mathlib.Omega.{arith}
use Rattle.analysis.proofs.Bridging.{unbridged, owners-in, labels_in_lem, room_in, zero_in, bridged}
use Rattle.analysis.proofs.bridged.analyse.Goals as goal

pub returns-then-most-pairs : goal.returns-then-most-pairs
returns-then-most-pairs c =
    let r = c.partition_by_spans-p.ensures in
    record { partitioned = r; marks = unbridged r c.if-most-pairs.true }

pub overflow_mul-n : goal.overflow_mul-n
overflow_mul-n c =
    let p = c.requires.0 in
    omega (arith, p.whole, mul-le-mul p.sides.wide p.sides.high)

pub bridge_boundary_indices-requires : goal.bridge_boundary_indices-requires
bridge_boundary_indices-requires c =
    let p = c.requires in
    let r = c.partition_by_spans-p.ensures in
    let k = c.partition_by_spans-p.auto in
    let few = c.if-most-pairs.false in (
      owners-in r p.0.few few,
      omega (arith, few, k.owners, p.1.owners-are),
      labels_in_lem r _ refl p.1.few k.lefts (k.rights ∙ p.1.rights-are) few,
      room_in r _ refl,
      zero_in r _ refl,
    )

pub returns : goal.returns
returns c =
    let r = c.partition_by_spans-p.ensures in
    let e = c.bridge_boundary_indices.ensures in
    record { partitioned = rw e.work r; marks = bridged r e.marks }
