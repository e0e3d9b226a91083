use mathlib.Core.Path.{◌∙◌, ap}
use Prim.Native.Nat.{ℕ}
use native.Mathlib.Omega.{arith}
use lib.ListN.{get_or}
use Rattle.areas_steps.proofs.Halves.{place_in, map-size, map-column, map_row, map_on, rank-at, sides-of, half-set}
use Rattle.areas_steps.proofs.closing.Cut.close_cell.Goals as goal

pub byte_of-i-requires : goal.byte_of-i-requires
byte_of-i-requires c = omega (arith, place_in _ _ _ _ c.requires.1 c.requires.2)

pub bounds-work-i : goal.bounds-work-i
bounds-work-i c =
    omega (arith, place_in _ _ _ _ c.requires.1 c.requires.2, c.byte_of-i.ensures)

pub bounds-work-i-2 : goal.bounds-work-i-2
bounds-work-i-2 c =
    omega (arith, place_in _ _ _ _ c.requires.1 c.requires.2, c.byte_of-i.ensures)

pub returns : goal.returns
returns c =
    let p = c.requires in
    λ g dirs ss before m hf.
    let col = map-column m _ _ p.1 p.2 in
    let row = map_row m _ _ p.1 p.2 in
    let on = map_on m _ _ p.1 p.2 in
    let r = rank-at g c.args.self.span _ col row in
    let size = map-size m in
    let at = c.byte_of-i.ensures in
    let b = ap (λ (k : ℕ). get_or c.args.work.now k 0) at ∙ hf.left _ on (omega arith) in
    rw at (half-set g m.whole (sides-of m c.args.self.sides) _ _ _ on (omega arith) r (c.close_byte.ensures g dirs ss _ m col row b) hf)
