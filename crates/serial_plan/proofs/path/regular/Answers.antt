use mathlib.Core.Path.{refl, ◌∙◌, ap}
use mathlib.Core.Bool.{◌&&◌}
use Prim.Native.Nat.{ℕ}
use native.Mathlib.Omega.{arith}
use lib.Dec.{leb}
use Rattle.serial_plan.specs.Shape.{degree_in}
use Rattle.serial_plan.specs.declared.path.Near.{Near}
use Rattle.serial_plan.specs.Few.{few_at, few_list}
use Rattle.serial_plan.proofs.ShapeLaws.{each_start, each_next}
use Rattle.serial_plan.proofs.ValueLaws.{regular-whole}
use Rattle.serial_plan.proofs.path.regular.Goals as goal

pub loop-j-init : goal.loop-j-init
loop-j-init c =
    let seconds = c.args.t.now.seconds.now in
    let firsts = c.args.t.now.firsts.now in
    let ranks = c.args.group.now.ranks in
    let links = c.args.group.now.links in (
      omega arith,
      each_start (λ (i : ℕ). leb 1 (degree_in firsts seconds (few_list links) i) && leb (degree_in firsts seconds (few_list links) i) 2) (few_at ranks)
          ranks.count,
    )

pub loop-j-preserved : goal.loop-j-preserved
loop-j-preserved c =
    let seconds = c.args.t.now.seconds.now in
    let firsts = c.args.t.now.firsts.now in
    let ranks = c.args.group.now.ranks in
    let links = c.args.group.now.links in (
      omega (arith, c.loop-j.invariant.0),
      each_next (λ (i : ℕ). leb 1 (degree_in firsts seconds (few_list links) i) && leb (degree_in firsts seconds (few_list links) i) 2) (few_at ranks)
          ranks.count
          (leb 1 c.links_at-near.result.count && leb c.links_at-near.result.count 2) c.loop-j.invariant.1 c.loop-j-test.true
          c.loop-j.invariant.0
          (ap (λ (d : ℕ). leb 1 d && leb d 2) (ap (λ (n : Near). n.count) c.links_at-near.ensures)
          ∙ ap (λ (i : ℕ). leb 1 (degree_in firsts seconds (few_list links) i) && leb (degree_in firsts seconds (few_list links) i) 2) c.get.ensures) refl,
    )

pub returns : goal.returns
returns c =
    regular-whole c.args.t.now.firsts.now c.args.t.now.seconds.now (few_list c.args.group.now.links) c.args.group.now.ranks c.loop-j.invariant.1
    (omega (arith, c.loop-j-test.false))
