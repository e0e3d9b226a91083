use Rattle.std.proofs.Common.{ℕ, List, ap, ◌∙◌, arith}
use Rattle.results.specs.Calls.{reduce_result}
use Rattle.printing.specs.Printed.{printed}
use Rattle.printing.specs.ChokeList.{lent_work, lent_answer, zeros}
use Rattle.printing.proofs.Printing.{same_text}
use Rattle.printing.proofs.Reading.{length-zeros, lent-block, over-limit, within-limit}
use Rattle.printing.proofs.program.choke_list.Goals as goal

pub returns-then-input-gt65536 : goal.returns-then-input-gt65536
returns-then-input-gt65536 c =
    record {
      writes = same_text (over-limit c.args.input.now (omega arith)) c.write_text.ensures;
      fits = omega (arith, c.write_text.ensures.end);
    }

-- the block that is lent is that of source document 000
pub returns : goal.returns
returns c =
    let lent = lent-block (zeros 64) (length-zeros 64) c.write_000.ensures in
    let text = ap (λ (b : List ℕ). printed (reduce_result c.args.input.now b (zeros lent_work) (zeros lent_answer))) lent in
    record {
      writes = same_text (text ∙ within-limit c.args.input.now (omega arith)) c.print_list.ensures.writes;
      fits = c.print_list.ensures.fits;
    }
