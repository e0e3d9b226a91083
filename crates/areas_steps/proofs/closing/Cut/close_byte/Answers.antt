use Rattle.std.proofs.Common.{◌∙◌}
use Rattle.areas.specs.Open.{is_open}
use Rattle.areas_steps.proofs.Bits.{bits, byte-is, byte-from, bit-kept}
use Rattle.areas_steps.proofs.closing.Cut.close_byte.Goals as goal

pub returns : goal.returns
returns c =
    let s = c.args.self.span in
    λ g dirs ss i m e f eb.
    let t = is_open dirs g ss i in
    let b = bits _ (t 0) (t 1) (t 2) (t 3) (eb ∙ byte-is dirs g ss i) in
    byte-from _ _ _ _ _ _ _ _ (bit-kept dirs g ss s i 0 b.0 (c.keeps-right.ensures g i m e f) c.from.ensures)
    (bit-kept dirs g ss s i 1 b.1 (c.keeps-below_left.ensures g i m e f) c.from-2.ensures)
    (bit-kept dirs g ss s i 2 b.2 (c.keeps-below.ensures g i m e f) c.from-3.ensures)
    (bit-kept dirs g ss s i 3 b.3 (c.keeps-below_right.ensures g i m e f) c.from-4.ensures)
