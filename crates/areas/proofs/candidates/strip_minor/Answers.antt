use Prim.Native.Nat.{◌≤◌, ◌<◌}
use native.Mathlib.Omega.{arith}
use Rattle.areas.proofs.Line.{line-most}
use Rattle.areas.proofs.StripCells.{line-kept, limit-some, minor-is}
use Rattle.areas.proofs.candidates.strip_minor.Goals as goal

pub clamp-v-requires : goal.clamp-v-requires
clamp-v-requires c = let f = line-kept c.requires.0 c.requires.1 c.line_of-line.ensures in omega arith

pub line_at-requires : goal.line_at-requires
line_at-requires c =
    let f = line-kept c.requires.0 c.requires.1 c.line_of-line.ensures in
    (f.rises, c.clamp-v.ensures.1, c.clamp-v.ensures.2, f.along, f.low, f.high)

pub candidate_minor_range-requires : goal.candidate_minor_range-requires
candidate_minor_range-requires c =
    let f = line-kept c.requires.0 c.requires.1 c.line_of-line.ensures in
    let clamp = c.clamp-v in
    let most : c.line_at.result ≤ 8192 = rw c.line_at.ensures (line-most _ _ _ _ _ 8192 f.rises clamp.ensures.1 clamp.ensures.2 f.low f.high) in
    let some : 0 < c.pick-limit.result = rw c.pick-limit.ensures (limit-some c.requires.0 c.is_tall.result).1 in
    (most, some)

pub returns : goal.returns
returns c =
    minor-is _ _ _ _ _ _ _ _ _ _ c.line_of-line.ensures c.is_tall.ensures c.pick-limit.ensures c.clamp-v.ensures.0
    c.line_at.ensures c.candidate_minor_range.ensures
