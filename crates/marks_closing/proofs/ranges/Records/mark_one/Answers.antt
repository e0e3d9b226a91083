use mathlib.Core.Path.{ap}
use lib.ListN.{set}
use Rattle.marks_closing.proofs.Runs.{marked-bit}
use Rattle.marks_closing.proofs.ranges.Records.mark_one.Goals as goal

pub returns : goal.returns
returns c = λ es f. ap (set c.args.marks.now c.args.b) (marked-bit c.from.ensures (c.parted.ensures es f))
