-- What choke-list prints for what Reduce left (document 01, 'Corridor').
use Rattle.std.specs.Prelude.{ℕ, cond, List, eqb, take}
use Rattle.format.specs.Decode.{decode_answer}
use Rattle.answer_text.specs.Lines.{answer_lines, refused_line}
use Rattle.results.specs.Results.{Outcome}

-- "a refusal prints `refused`, number, detail on one line"; else "kept: the number of boundaries. Then for each …", of the answer, whose length is the detail.
unfoldable pub printed : Outcome → List ℕ
unfolding answer_lines decode_answer
printed o = cond (eqb o.number 0) (answer_lines (decode_answer (take o.detail o.out))) (refused_line o.number o.detail)
