use Rattle.format.specs.Records.{boundary_at}
use Rattle.format.proofs.records.read_boundary.Goals as goal

pub returns : goal.returns
unfolding boundary_at
returns c =
    simp (
      c.read_ramp.ensures,
      c.read_u32-2.ensures,
      c.read_u32.ensures,
      c.read_u64.ensures,
      c.read_span.ensures,
    )
