-- "Here it prints": the corridor.
use mathlib.Core.Path.{◌≡◌, refl, sym, ◌∙◌, ap}
use mathlib.Core.Bool.{Bool, true, false, cond}
use mathlib.Core.List.{List, [], flat_map}
use Prim.Native.Nat.{ℕ, ◌≤◌}
use native.Mathlib.Omega.{arith}
use borrow.Author.Tests.{le-ltb}
use lib.Dec.{ltb}
use lib.ListN.{length}
use Rattle.wire.specs.Bytes.{part, number, bytes, number_at}
use Rattle.format.specs.Decode.{decode_answer}
use Rattle.format.specs.Corridor.{upright, corridor, corridor_answer}
use Rattle.answer_text.specs.Lines.{answer_lines}
use Rattle.answer_text.specs.Answer.{answer_text, answer_whole}
use Rattle.answer_text.specs.Corridor.{corridor_text}
use Rattle.answer_text.proofs.Cases.{corridor-listing}
use Rattle.thresholds.specs.Block.{block000}
use Rattle.results.specs.Calls.{reduce_result}
use Rattle.results.proofs.Cases.{corridor-case}
use Rattle.chokes.proofs.Demand.{first-written}
use Rattle.printing.specs.Printed.{printed}
use Rattle.printing.specs.ChokeList.{lent_work, lent_answer, most_input, zeros, choke_list}
use Rattle.printing.proofs.Reading.{length-zeros}

corridor-whole : answer_whole corridor_answer 456 ≡ true
unfolding answer_whole corridor_answer upright number_at part number bytes flat_map
corridor-whole = refl

corridor-listed : answer_lines (decode_answer corridor_answer) ≡ corridor_text
unfolding answer_text
corridor-listed = ap (λ (b : Bool). cond b (answer_lines (decode_answer corridor_answer)) []) (sym corridor-whole) ∙ corridor-listing

-- Reduce on the corridor, whatever the lent slices hold: the eight lines.
pub corridor-printed : (work answer : List ℕ) → 40 ≤ length work → 152 ≤ length answer → printed (reduce_result corridor block000 work answer) ≡ corridor_text
unfolding printed
corridor-printed work answer w a =
    let fits : length corridor_answer ≤ length answer = omega (arith, a, corridor-case.answer-long) in
    ap printed (corridor-case.reduced work answer w fits)
    ∙ ap (λ (l : List ℕ). answer_lines (decode_answer l)) (first-written answer corridor_answer)
    ∙ corridor-listed

-- So does the program, which lends more than that.
pub corridor-list : choke_list corridor ≡ corridor_text
unfolding choke_list
corridor-list =
    let small : ltb most_input (length corridor) ≡ false = le-ltb most_input (length corridor) (omega (arith, corridor-case.job-long)) in
    rw small (corridor-printed (zeros lent_work) (zeros lent_answer) (omega (arith, length-zeros lent_work)) (omega (arith, length-zeros lent_answer)))
