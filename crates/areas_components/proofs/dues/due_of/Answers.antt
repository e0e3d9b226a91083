use mathlib.Core.Bool.{not, ◌&&◌}
use Rattle.areas.specs.Open.{bit_at}
use Rattle.areas_components.proofs.DueBytes.{first-is, due-is}
use Rattle.areas_components.proofs.dues.due_of.Goals as goal

pub returns : goal.returns
returns c =
    let v = c.args.v in
    let l = c.args.l in
    let e = c.args.e in
    let d = c.args.d in
    let below = c.bit-below.ensures.0 in
    let under = first-is e c.bit-under.result c.bit-under.ensures.0 in
    let before = first-is l c.bit.result c.bit.ensures.0 in
    let round = c.both-round.ensures.0 (bit_at l 0) (bit_at l 2) before c.bit-2.ensures.0 in
    let but = c.but_not.ensures.0 (bit_at v 1) (bit_at l 0 && bit_at l 2) c.bit-3.ensures.0 round in
    let lower = c.both.ensures.0 (bit_at v 2) (bit_at e 0) below under in
    let left = c.but_not-left.ensures.0 (bit_at v 1 && not (bit_at l 0 && bit_at l 2)) (bit_at v 2 && bit_at e 0) but lower in
    let around = c.both-2.ensures.0 (bit_at l 0 && bit_at l 2) (bit_at e 0) round under in
    let down = c.but_not-down.ensures.0 (bit_at v 2) ((bit_at l 0 && bit_at l 2) && bit_at e 0) below around in
    let next = first-is d c.bit-5.result c.bit-5.ensures.0 in
    let after = c.both-3.ensures.0 (bit_at v 2) (bit_at d 0) below next in
    let right = c.but_not-right.ensures.0 (bit_at v 3) (bit_at v 2 && bit_at d 0) c.bit-4.ensures.0 after in
    due-is v l e d c.but_not-left.result c.but_not-down.result c.but_not-right.result left down right
