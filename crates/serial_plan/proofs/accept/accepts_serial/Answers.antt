use mathlib.Core.Path.{sym, ◌∙◌, ap, subst}
use mathlib.Core.Bool.{not}
use Prim.Native.Nat.{ℕ}
use native.Mathlib.Omega.{arith}
use Rattle.areas.specs.Spans.{span_in}
use Rattle.serial_links.specs.Geometry.{centre_length}
use Rattle.serial_links.specs.HeldLimits.{limits_of}
use Rattle.serial_plan.specs.Fitting.{RankFits}
use Rattle.serial_plan.specs.Few.{few_list}
use Rattle.serial_plan.specs.SmallGroups.{path-sizes}
use Rattle.serial_plan.proofs.ShapeLaws.{listed-length, held_first, held-second}
use Rattle.serial_plan.proofs.ValueLaws.{both}
use Rattle.serial_plan.proofs.AcceptLaws.{ends-slots, serial-no, serial-path, serial-yes}
use Rattle.serial_plan.proofs.accept.accepts_serial.Goals as goal

pub returns-then-not-pass-path : goal.returns-then-not-pass-path
returns-then-not-pass-path c =
    let a = c.args in
    serial-no (limits_of a.limits) a.t.now.own.now a.t.now.lowers.now a.t.now.highers.now a.t.now.regions.now a.t.now.firsts.now a.t.now.seconds.now
    a.passing.now
    (few_list a.group.now.ranks) (few_list a.group.now.links) c.all_on-pass.ensures c.group_is_simple_path-path.ensures (ap not c.if-not-pass-path.true)

pub chain_sum-sum-requires : goal.chain_sum-sum-requires
chain_sum-sum-requires c =
    let a = c.args in
    let l = limits_of a.limits in
    let so =
    serial-path l a.t.now.own.now a.t.now.lowers.now a.t.now.highers.now a.t.now.regions.now a.t.now.firsts.now a.t.now.seconds.now c.all_on-pass.result
    (few_list a.group.now.ranks) (few_list a.group.now.links) c.group_is_simple_path-path.ensures (ap not c.if-not-pass-path.false)
    in
    let s =
    path-sizes a.t.now.lowers.now a.t.now.highers.now a.t.now.regions.now a.t.now.firsts.now a.t.now.seconds.now l.least_spans l.most_spans (few_list
    a.group.now.ranks)
    (few_list a.group.now.links) so
    in
    (omega (arith, s.0, s.2, listed-length a.group.now.links), omega (arith, s.1, s.2, c.requires.0, listed-length a.group.now.links), c.requires.4)

-- both ends are ranks that fit
pub index-requires : goal.index-requires
index-requires c =
    let a = c.args in
    (ends-slots (RankFits a.t.now.own.now) a.t.now.firsts.now a.t.now.seconds.now (few_list a.group.now.links) a.group.now.ranks c.group_end_nodes-two.ensures
    c.requires.3 c.requires.5 0).below

pub index-requires-2 : goal.index-requires-2
index-requires-2 c =
    let a = c.args in
    (ends-slots (RankFits a.t.now.own.now) a.t.now.firsts.now a.t.now.seconds.now (few_list a.group.now.links) a.group.now.ranks c.group_end_nodes-two.ensures
    c.requires.3 c.requires.5 1).below

pub rank_distance-far-requires : goal.rank_distance-far-requires
rank_distance-far-requires c =
    let a = c.args in
    let ends = ends-slots (RankFits a.t.now.own.now) a.t.now.firsts.now a.t.now.seconds.now (few_list a.group.now.links) a.group.now.ranks
    c.group_end_nodes-two.ensures
    c.requires.3 c.requires.5 in
    (subst (RankFits a.t.now.own.now) (sym c.index.ensures.0) (ends 0), subst (RankFits a.t.now.own.now) (sym c.index-2.ensures.0) (ends 1))

pub returns : goal.returns
returns c =
    let a = c.args in
    serial-yes (limits_of a.limits) a.t.now.own.now a.t.now.lowers.now a.t.now.highers.now a.t.now.regions.now a.t.now.firsts.now a.t.now.seconds.now
    a.passing.now
    (few_list a.group.now.ranks) (few_list a.group.now.links) c.all_on-pass.ensures c.group_is_simple_path-path.ensures (ap not
    c.if-not-pass-path.false) c.short.ensures
    c.chain_sum-sum.ensures
    (c.rank_distance-far.ensures
    ∙ both (λ (i j : ℕ). centre_length (span_in a.t.now.own.now i) (span_in a.t.now.own.now j))
    (c.index.ensures.0 ∙ held_first _ c.group_end_nodes-two.ensures) (c.index-2.ensures.0 ∙ held-second _ c.group_end_nodes-two.ensures))
