use mathlib.Core.Path.{sym}
use Prim.Native.Nat.{ℕ, ◌<◌}
use native.Mathlib.Omega.{arith}
use mathlib.Core.Path.{subst}
use Rattle.serial_links.specs.HeldLimits.{limits_of}
use Rattle.serial_plan.specs.Few.{few_list}
use Rattle.serial_plan.proofs.AcceptLaws.{ends-slots, path-as}
use Rattle.serial_plan.proofs.path.group_is_simple_path.Goals as goal

pub outer-one-requires : goal.outer-one-requires
outer-one-requires c = (
  c.requires.1,
  c.requires.3,
  subst (λ (i : ℕ). i < 256) (sym c.get.ensures)
      (ends-slots (λ x. x < 256) c.args.t.now.firsts.now c.args.t.now.seconds.now (few_list c.args.group.now.links) c.args.group.now.ranks
      c.group_end_nodes-two.ensures c.requires.2 (omega arith) 0),
)

pub outer-other-requires : goal.outer-other-requires
outer-other-requires c = (
  c.requires.1,
  c.requires.3,
  subst (λ (i : ℕ). i < 256) (sym c.get-2.ensures)
      (ends-slots (λ x. x < 256) c.args.t.now.firsts.now c.args.t.now.seconds.now (few_list c.args.group.now.links) c.args.group.now.ranks
      c.group_end_nodes-two.ensures c.requires.2 (omega arith) 1),
)

pub returns : goal.returns
returns c =
    path-as c.args.t.now.lowers.now c.args.t.now.highers.now c.args.t.now.regions.now c.args.t.now.firsts.now c.args.t.now.seconds.now
    c.args.least (limits_of c.args.limits).most_spans c.args.group.now.ranks c.args.group.now.links c.allowed.ensures
    c.group_end_nodes-two.ensures c.regular-whole.ensures c.get.ensures c.get-2.ensures c.outer-one.ensures
    c.outer-other.ensures
