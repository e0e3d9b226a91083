use Rattle.std.proofs.Common.{ap, ◌∙◌}
use Rattle.wire.specs.Bytes.{splice}
use Rattle.answer_encoding.proofs.Loops.{place_is}
use Rattle.answer_encoding.proofs.sections.write_place.Goals as goal

pub returns : goal.returns
returns c =
    let a = c.args in
    c.write_observation.ensures
    ∙ ap (splice a.s.now a.at)
    (place_is a.o.first.now a.o.second.now a.o.third.now a.o.starts.now a.o.counts.now a.o.keys.now a.p c.read_or.ensures c.read_or-2.ensures
    c.read_or-3.ensures c.span_of-e.ensures c.bits_of-bits.ensures c.run_length.ensures)
