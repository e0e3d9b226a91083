use Rattle.std.proofs.Common.{ap, ◌∙◌, arith}
use Rattle.wire.specs.Bytes.{splice}
use Rattle.format.specs.Records.{span_bytes}
use Rattle.position.specs.declared.Span.{Span}
use Rattle.answer_encoding.proofs.RecordLaws.{boundary-written}
use Rattle.answer_encoding.proofs.records.write_boundary.Goals as goal

pub returns : goal.returns
returns c =
    let a = c.args in
    boundary-written a.s.now a.at a.x a.own a.seen (omega arith)
    (c.write_span.ensures ∙ ap (λ (e : Span). splice a.s.now a.at (span_bytes e)) c.canonical.ensures) c.write_u64.ensures c.write_u32.ensures
    c.write_u32-2.ensures c.write_ramp.ensures
