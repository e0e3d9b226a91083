use Prim.Native.Nat.{ℕ}
use lib.ListN.{length-replicate}
use Rattle.analysis.proofs.Within.{zero-room, room_fits}
use Rattle.analysis.proofs.marked.marks_within.Goals as goal

pub mark_spans-requires : goal.mark_spans-requires
mark_spans-requires g c = (c.requires.parted, zero-room _ (room_fits c.requires.room))

pub returns : goal.returns
returns g c = rw (length-replicate {A = ℕ} _ _) at c.mark_spans.ensures
