use Prim.Native.Nat.{◌-◌}
use native.Mathlib.Omega.{arith}
use Rattle.areas_components.proofs.NumberLaws.{numbering_start, numbering-room, numbering-falls, numbering-next, numbering-end}
use Rattle.areas_components.proofs.numbers.number.Goals as goal

pub loop-i-init : goal.loop-i-init
loop-i-init c = numbering_start _ _ _

pub number_cell-count-requires : goal.number_cell-count-requires
number_cell-count-requires c =
    let numbering = c.loop-i.invariant in
    let pre = c.requires in
    let room = numbering-room numbering pre.0 pre.1 pre.2 (omega arith) in
    let falls = numbering-falls numbering pre.0 pre.1 pre.2 (omega arith) in
    record { i_in_bounds = (omega arith, omega (arith, pre.0), room, falls); count_le_i = (numbering.few, numbering.small) }

pub loop-i-preserved : goal.loop-i-preserved
loop-i-preserved c =
    let call = c.number_cell-count in
    let numbering = c.loop-i.invariant in
    let pre = c.requires in
    numbering-next numbering pre.0 pre.1 pre.2 (omega arith) _ _ call.ensures

pub returns : goal.returns
returns c = λ es f a. numbering-end c.loop-i.invariant (λ l. omega arith) es f a
