use mathlib.Core.Path.{◌∙◌, ap}
use Prim.Native.Nat.{ℕ}
use native.Mathlib.Omega.{arith}
use lib.Dec.{eqb}
use Rattle.serial_plan.specs.Shape.{degree_in}
use Rattle.serial_plan.specs.declared.path.Near.{Near}
use Rattle.serial_plan.specs.Few.{few_list}
use Rattle.serial_plan.proofs.FewLaws.{picked-start, picked-room, picked_next}
use Rattle.serial_plan.proofs.ValueLaws.{ends-whole}
use Rattle.serial_plan.proofs.path.group_end_nodes.Goals as goal

pub loop-j-init : goal.loop-j-init
loop-j-init c = (omega arith, picked-start c.none-found.ensures)

pub with-found-requires : goal.with-found-requires
with-found-requires c =
    picked-room c.loop-j.invariant.1 c.requires.0

pub loop-j-preserved : goal.loop-j-preserved
loop-j-preserved c =
    let inv = c.loop-j.invariant in
    let a = c.args in (
      omega (arith, inv.0),
      picked_next inv.1 c.loop-j-test.true inv.0 c.with-found.ensures
          (ap (λ (d : ℕ). eqb d 1) (ap (λ (n : Near). n.count) c.links_at-near.ensures)
          ∙ ap (λ (i : ℕ). eqb (degree_in a.t.now.firsts.now a.t.now.seconds.now (few_list a.group.now.links) i) 1) c.get-i.ensures) c.get-i.ensures,
    )

pub returns : goal.returns
returns c =
    ends-whole c.args.t.now.firsts.now c.args.t.now.seconds.now (few_list c.args.group.now.links) c.args.group.now.ranks c.loop-j.invariant.1
    (omega (arith, c.loop-j-test.false))
