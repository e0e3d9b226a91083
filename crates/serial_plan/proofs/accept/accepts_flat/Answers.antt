use mathlib.Core.Path.{ap}
use mathlib.Core.Bool.{not}
use Rattle.serial_links.specs.HeldLimits.{limits_of}
use Rattle.serial_plan.specs.Few.{few_list}
use Rattle.serial_plan.proofs.AcceptLaws.{flat-no, flat-yes}
use Rattle.serial_plan.proofs.accept.accepts_flat.Goals as goal

pub group_is_simple_path-path-requires : goal.group_is_simple_path-path-requires
group_is_simple_path-path-requires c = (c.requires.0, c.requires.1, λ j. (c.requires.2 j).below, λ j. (c.requires.3 j).below)

pub returns-then-not-path : goal.returns-then-not-path
returns-then-not-path c =
    let a = c.args in
    flat-no (limits_of a.limits) a.t.now.own.now a.t.now.lowers.now a.t.now.highers.now a.t.now.regions.now a.t.now.firsts.now a.t.now.seconds.now
    (few_list a.group.now.ranks) (few_list a.group.now.links) c.group_is_simple_path-path.ensures (ap not c.if-not-path.true)

pub returns : goal.returns
returns c =
    let a = c.args in
    flat-yes (limits_of a.limits) a.t.now.own.now a.t.now.lowers.now a.t.now.highers.now a.t.now.regions.now a.t.now.firsts.now a.t.now.seconds.now
    (few_list a.group.now.ranks) (few_list a.group.now.links) c.group_is_simple_path-path.ensures (ap not c.if-not-path.false) c.all_alike.ensures
