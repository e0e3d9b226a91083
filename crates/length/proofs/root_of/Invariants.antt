-- The loop reads n two binary digits at a time: root and rest are those of what has been read.
use Rattle.std.proofs.Common.{◌≡◌, ◌+◌, ◌*◌, ◌/◌, ◌^◌, ◌≤◌}
use Rattle.length.proofs.root_of.Given as goal

abbrev pub invariant-loop-i : goal.invariant-loop-i
invariant-loop-i l = (l.r.root * l.r.root + l.r.rem ≡ l.n / 2 ^ (2 * l.i)) × (l.r.rem ≤ 2 * l.r.root)
