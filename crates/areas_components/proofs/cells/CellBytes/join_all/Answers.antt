use mathlib.Core.Path.{◌≡◌, subst}
use mathlib.Core.List.{List}
use Prim.Native.Nat.{ℕ, ◌*◌, ◌/◌}
use native.Mathlib.Omega.{arith}
use Rattle.areas_components.specs.Joining.{Joining}
use Rattle.areas_components.proofs.StepLaws.{joining-start, joinable-kept, joining-end}
use Rattle.areas_components.proofs.cells.CellBytes.join_all.Goals as goal

joining_to : {n width base i j : ℕ} {s w : List ℕ} → Joining n width base i s w → i ≡ j → Joining n width base j s w
joining_to {n} {width} {base} {s = s} {w} h e = subst (λ (k : ℕ). Joining n width base k s w) e h

pub loop-k-init : goal.loop-k-init
loop-k-init c = joining-start c.requires

pub join_block-requires : goal.join_block-requires
join_block-requires c =
    let joining = c.loop-k.invariant in
    (joinable-kept c.requires joining.kept joining.usable, omega arith)

pub loop-k-preserved : goal.loop-k-preserved
loop-k-preserved c = joining_to (c.join_block.ensures _ c.loop-k.invariant) (omega arith)

pub join_some-requires : goal.join_some-requires
join_some-requires c =
    let joining = c.loop-k.invariant in
    (joinable-kept c.requires joining.kept joining.usable, omega arith, omega arith)

pub shape_of-work : goal.shape_of-work
shape_of-work c = (c.join_some.ensures _ (joining_to c.loop-k.invariant (omega arith))).kept.size

pub returns : goal.returns
returns c = joining-end c.requires.room (c.join_some.ensures _ (joining_to c.loop-k.invariant (omega arith))) (λ l. omega arith)
