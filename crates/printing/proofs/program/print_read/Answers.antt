use Rattle.printing.proofs.Printing.{same_text}
use Rattle.printing.proofs.Reading.{read-enough}
use Rattle.printing.proofs.program.print_read.Goals as goal

pub returns : goal.returns
returns c =
    record {
      prints_read = record {
        for-input = λ input r. same_text (read-enough input c.args.buffer.now c.args.n c.requires.1 r) c.choke_list.ensures.writes;
      };
      fits = c.choke_list.ensures.fits;
    }
