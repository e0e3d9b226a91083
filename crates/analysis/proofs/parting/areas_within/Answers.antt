use Prim.Native.Nat.{ℕ}
use lib.ListN.{length-replicate}
use Rattle.analysis.proofs.Bridging.{areas-within}
use Rattle.analysis.proofs.Within.{zero-room, room_fits}
use Rattle.analysis.proofs.parting.areas_within.Goals as goal

pub partition_by_spans-requires : goal.partition_by_spans-requires
partition_by_spans-requires g c = (c.requires.parted, zero-room _ (room_fits c.requires.room))

pub returns : goal.returns
returns g c = rw (length-replicate {A = ℕ} _ _) at (areas-within c.partition_by_spans.ensures)
