use Prim.Native.Nat.{◌<◌}
use Rattle.areas.proofs.StripCells.{line-kept, limit-some, axis-is}
use Rattle.areas.proofs.candidates.strip_axis.Goals as goal

pub candidate_axis_range-requires : goal.candidate_axis_range-requires
candidate_axis_range-requires c =
    let p = c.requires in
    let f = line-kept p.0 p.1 c.line_of-line.ensures in
    let some : 0 < c.pick-limit.result = rw c.pick-limit.ensures (limit-some p.0 c.is_tall.result).0 in
    (f.along, some)

pub returns : goal.returns
returns c =
    axis-is _ _ _ _ _ _ _ c.line_of-line.ensures c.is_tall.ensures c.pick-limit.ensures c.candidate_axis_range.ensures
