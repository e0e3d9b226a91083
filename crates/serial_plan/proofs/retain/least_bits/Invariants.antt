use Prim.Native.Nat.{◌≤◌}
use Rattle.lists.specs.Rows.{at}
use Rattle.length.specs.Total.{total_le}
use Rattle.serial_plan.specs.Few.{few_at}
use Rattle.order.proofs.SortedFirst.{SortedFirst}
use Rattle.serial_plan.proofs.retain.least_bits.Given as goal

abbrev pub invariant-loop-j : goal.invariant-loop-j
invariant-loop-j l = SortedFirst total_le (λ i. at l.bits (few_at l.ranks i)) l.ranks.count l.j l.least × (l.least ≤ 0x40D0_0000_0000_0000)
