use Rattle.std.proofs.Common.{get_or}
use Rattle.answer_encoding.specs.Pieces.{place_piece}
use Rattle.answer_encoding.proofs.Loops.{Writes}
use Rattle.answer_encoding.proofs.sections.write_observations.Given as goal

abbrev pub invariant-loop-q : goal.invariant-loop-q
invariant-loop-q l =
    Writes l.initial.s l.to (λ k. place_piece l.o.first.now l.o.second.now l.o.third.now l.o.starts.now l.o.counts.now l.o.keys.now (get_or l.seen k 0)) l.q l.s
