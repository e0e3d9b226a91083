use Rattle.answer_firsts.proofs.Walks.{head_small, walking_start, walking-within, walking-most, walking_on, walking-next, walk-found, walk-missing}
use mathlib.Core.Path.{refl}
use Prim.Native.Nat.{◌-◌}
use native.Mathlib.Omega.{arith}
use Rattle.answer_firsts.proofs.finding.look_up.Goals as goal

pub head-cell-requires : goal.head-cell-requires
head-cell-requires c = c.requires.0.small

pub offset_bounds-links-cell : goal.offset_bounds-links-cell
offset_bounds-links-cell c =
    omega (arith, c.head-cell.ensures, head_small c.args.heads c.args.x c.requires.1, c.requires.0.small)

pub bounds-links-cell : goal.bounds-links-cell
bounds-links-cell c =
    omega (arith, c.head-cell.ensures, head_small c.args.heads c.args.x c.requires.1, c.requires.0.cells-long)

pub loop-v-init : goal.loop-v-init
loop-v-init c =
    let linked = c.requires.0 in
    let walk = walking_start linked c.requires.1 _ _ c.head-cell.ensures refl in
    (linked.few, walking-most linked c.requires.1 walk, walk)

pub key_at-requires : goal.key_at-requires
key_at-requires c =
    let state = c.loop-v.invariant in
    let inside = c.requires.0.inside (c.loop-v.v - 1) (omega arith) (omega arith) in
    omega arith

pub returns-then-key_at-x : goal.returns-then-key_at-x
returns-then-key_at-x c =
    walk-found c.requires.0 c.requires.1 c.loop-v.invariant.2 (omega arith) c.key_at.ensures (omega arith)

pub loop-v-smaller : goal.loop-v-smaller
loop-v-smaller c =
    let walk = c.loop-v.invariant.2 in
    omega (arith, walking_on c.requires.0 c.requires.1 walk (omega arith), walking-within c.requires.0 c.requires.1 walk)

pub loop-v-preserved : goal.loop-v-preserved
loop-v-preserved c =
    let linked = c.requires.0 in
    let some = c.requires.1 in
    let last = c.digit.ensures.0 in
    let walk = walking-next linked some c.loop-v.invariant.2 (omega arith) c.key_at.ensures (λ z. omega arith) last refl refl refl in
    (linked.few, walking-most linked some walk, walk)

pub returns : goal.returns
returns c =
    walk-missing c.requires.0 c.requires.1 c.loop-v.invariant.2 (omega arith)
