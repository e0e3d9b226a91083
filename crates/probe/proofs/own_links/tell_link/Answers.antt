use mathlib.Core.Path.{refl, ◌∙◌, ap}
use native.Mathlib.Omega.{arith}
use Rattle.wire.specs.Bytes.{splice}
use Rattle.analysis.proofs.Headed.{headed-laid, headed-cells}
use Rattle.analysis.proofs.Calling.{headed-work}
use Rattle.probe.specs.Links.{float_bits}
use Rattle.context.proofs.Counting.{one-from}
use Rattle.probe.proofs.LinkLaws.{link-told}
use Rattle.probe.proofs.own_links.tell_link.Goals as goal

pub overflow_mul-n : goal.overflow_mul-n
overflow_mul-n c = omega (arith, headed-cells c.requires.0)

pub measure_one-link-requires : goal.measure_one-link-requires
measure_one-link-requires c =
    let pre = c.requires in
    (omega (arith, (headed-laid pre.0).within.width_some), omega (arith, headed-cells pre.0), omega (arith, headed-work pre.0, pre.3))

pub returns : goal.returns
returns c =
    c.write_link.ensures
    ∙ ap (splice c.args.out.now 0)
    (link-told c.requires.0 refl c.args.labels.now c.args.region c.args.first c.args.second _ c.link_between-start.ensures
    c.measure_one-link.ensures c.measured-m.ensures c.kind_of-kind.ensures
    (c.bits_of-across.ensures ∙ ap float_bits c.envelopes-transverse.ensures.across)
    (c.bits_of-along.ensures ∙ ap float_bits c.envelopes-transverse.ensures.along)
    (c.from.ensures ∙ one-from _))
