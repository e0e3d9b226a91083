-- The half that the division gives is at most 2 ^ 27, by proofs/Doubling.antt.
use Rattle.std.proofs.Common.{◌*◌, ◌/◌, ◌%◌, ◌<◌, arith}
use Rattle.length.proofs.Doubling.{some, enough, one_less, halved}
use Rattle.length.proofs.doubled.Goals as goal

pub overflow_sub-result-else-square-rem-3 : goal.overflow_sub-result-else-square-rem-3
overflow_sub-result-else-square-rem-3 c =
    let r = c.args.r.root in
    let q = c.args.r.rem in
    let p = c.requires in
    let l : q * 0x800_0000 % (r * 2) * 0x800_0000 < q * 0x800_0000 / (r * 2) * (q * 0x800_0000 / (r * 2)) = omega arith in
    omega (arith, halved _ _ p.0 p.1 p.2, some _ _ p.0 p.1 p.2 l)

pub returns-then-square-rem : goal.returns-then-square-rem
returns-then-square-rem c =
    let p = c.requires in
    enough _ _ p.0 p.1 p.2 (omega arith)

pub returns-else-square-rem : goal.returns-else-square-rem
returns-else-square-rem c =
    let p = c.requires in
    one_less _ _ p.0 p.1 p.2 (omega arith)
