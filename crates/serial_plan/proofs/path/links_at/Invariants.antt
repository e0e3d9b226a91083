use Prim.Native.Nat.{◌≤◌}
use Rattle.serial_plan.specs.Arrays.{joins_at}
use Rattle.serial_plan.specs.Few.{few_at}
use Rattle.serial_plan.proofs.FewLaws.{Noted}
use Rattle.serial_plan.proofs.path.links_at.Given as goal

abbrev pub invariant-loop-j : goal.invariant-loop-j
invariant-loop-j l = (l.j ≤ l.links.count) × Noted (joins_at l.t.firsts.now l.t.seconds.now l.i) (few_at l.links) l.links.count l.j l.found
