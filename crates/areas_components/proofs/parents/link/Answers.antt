use native.Mathlib.Omega.{arith}
use Rattle.areas_components.proofs.JoinLaws.{left-room, right-room, joined-left, joined-right, joined_same}
use Rattle.areas_components.proofs.parents.link.Goals as goal

pub find-b-requires : goal.find-b-requires
find-b-requires c =
    c.find-a.ensures.usable c.args.j c.requires.1

pub set_parent-requires : goal.set_parent-requires
set_parent-requires c = (
  right-room c.requires.0 c.requires.1 c.find-a.ensures c.find-b.ensures,
  omega (arith, c.find-a.ensures.below, c.requires.0.small),
)

pub returns-then-a-b : goal.returns-then-a-b
returns-then-a-b c =
    joined-left c.requires.0 c.requires.1 c.find-a.ensures c.find-b.ensures
    (omega (arith, c.find-a.ensures.below, c.requires.0.small)) (omega arith) _ c.set_parent.ensures

pub set_parent-requires-then-b-a : goal.set_parent-requires-then-b-a
set_parent-requires-then-b-a c = (
  left-room c.requires.0 c.requires.1 c.find-a.ensures c.find-b.ensures,
  omega (arith, c.find-b.ensures.below, c.requires.1.small),
)

pub returns-then-b-a : goal.returns-then-b-a
returns-then-b-a c =
    joined-right c.requires.0 c.requires.1 c.find-a.ensures c.find-b.ensures
    (omega (arith, c.find-b.ensures.below, c.requires.1.small)) (omega arith) _ c.set_parent-then-b-a.ensures

pub returns-else-b-a : goal.returns-else-b-a
returns-else-b-a c =
    joined_same c.requires.0 c.requires.1 c.find-a.ensures c.find-b.ensures (λ l. omega arith) (λ l. omega arith)
