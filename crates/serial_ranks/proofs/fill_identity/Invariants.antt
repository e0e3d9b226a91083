use mathlib.Core.Path.{◌≡◌}
use Prim.Native.Nat.{ℕ, ◌<◌}
use lib.ListN.{length, get_or}
use Rattle.serial_ranks.proofs.fill_identity.Given as goal

abbrev pub invariant-loop-i : goal.invariant-loop-i
invariant-loop-i l = record { whole : length l.order ≡ 256; each : (k : ℕ) → k < l.i → get_or l.order k 0 ≡ k }
