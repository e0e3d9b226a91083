use Rattle.answer_firsts.specs.Links.{Walking}
use Prim.Native.Nat.{◌+◌, ◌-◌, ◌*◌, ◌≤◌}
use Rattle.answer_firsts.proofs.finding.look_up.Given as goal

abbrev pub invariant-loop-v : goal.invariant-loop-v
invariant-loop-v l = (4 * l.count ≤ l.heads) × (l.v ≤ l.count)
    × Walking l.heads l.job l.base l.first l.links l.places l.x l.cell l.y l.v

abbrev pub decreases-loop-v : goal.decreases-loop-v
decreases-loop-v l = l.heads + 2 * l.count - l.cell
