use lib.ListN.{get_or}
use Rattle.wire.specs.Bytes.{u32_bytes}
use Rattle.wire.proofs.Numbers.{length-bytes}
use Rattle.probe.proofs.WritingLaws.{Filled}
use Rattle.probe.proofs.own_regions.write_words.Given as goal

abbrev pub invariant-loop-i : goal.invariant-loop-i
invariant-loop-i l =
    Filled 4 (λ j. u32_bytes (get_or l.ws j 0)) (λ j. length-bytes 4 (get_or l.ws j 0)) l.initial.out 0 l.i l.out
