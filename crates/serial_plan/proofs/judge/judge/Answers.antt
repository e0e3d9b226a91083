use mathlib.Core.Path.{ap}
use mathlib.Core.Bool.{not}
use native.Mathlib.Omega.{arith}
use Rattle.serial_links.specs.HeldLimits.{limits_of}
use Rattle.serial_plan.specs.Arrays.{in_part, link_in_part, ranks_in, numbers_in}
use Rattle.serial_plan.specs.Shape.{retained_in}
use Rattle.serial_plan.proofs.JudgeLaws.{whole, judged-sizes, judged-no, judged-yes, kept}
use Rattle.serial_plan.proofs.judge.judge.Goals as goal

pub accept-requires : goal.accept-requires
accept-requires g c =
    let a = c.args in
    let t = a.t.now in
    let p = a.g.now in
    let k =
    kept c.requires.1 (in_part p.joined.now p.parts.now a.c) (link_in_part p.chosen.now t.firsts.now p.parts.now a.c)
    c.ranks_of-ranks.ensures c.links_of-links.ensures
    in
    (c.requires.0, k.few-ranks, k.few-links, k.ranks, k.links, k.zero)

pub returns-then-not-accept : goal.returns-then-not-accept
returns-then-not-accept g c =
    let a = c.args in
    let t = a.t.now in
    let p = a.g.now in
    let w =
    whole (g.met.R.Rules.small a.rules.now (limits_of a.limits) t c.requires.0)
    (ranks_in t.n p.joined.now p.parts.now a.c) (numbers_in t.links p.chosen.now t.firsts.now p.parts.now a.c)
    c.ranks_of-ranks.ensures c.links_of-links.ensures
    in
    (judged-no w c.accept.ensures (retained_in (limits_of a.limits) t.own.now t.bits.now) (ap not c.if-not-accept.true), omega arith)

pub representative-requires : goal.representative-requires
representative-requires g c =
    let a = c.args in
    let t = a.t.now in
    let p = a.g.now in
    let k =
    kept c.requires.1 (in_part p.joined.now p.parts.now a.c) (link_in_part p.chosen.now t.firsts.now p.parts.now a.c)
    c.ranks_of-ranks.ensures c.links_of-links.ensures
    in
    let w =
    whole (g.met.R.Rules.small a.rules.now (limits_of a.limits) t c.requires.0)
    (ranks_in t.n p.joined.now p.parts.now a.c) (numbers_in t.links p.chosen.now t.firsts.now p.parts.now a.c)
    c.ranks_of-ranks.ensures c.links_of-links.ensures
    in
    let s = judged-sizes w c.accept.ensures (ap not c.if-not-accept.false) in
    (s.0, s.1, k.ranks, k.widths, k.zero)

pub returns : goal.returns
returns g c =
    let a = c.args in
    let t = a.t.now in
    let p = a.g.now in
    let w =
    whole (g.met.R.Rules.small a.rules.now (limits_of a.limits) t c.requires.0)
    (ranks_in t.n p.joined.now p.parts.now a.c) (numbers_in t.links p.chosen.now t.firsts.now p.parts.now a.c)
    c.ranks_of-ranks.ensures c.links_of-links.ensures
    in (
      judged-yes w c.accept.ensures (retained_in (limits_of a.limits) t.own.now t.bits.now) (ap not c.if-not-accept.false) c.representative.ensures.0,
      omega (arith, c.representative.ensures.1),
    )
