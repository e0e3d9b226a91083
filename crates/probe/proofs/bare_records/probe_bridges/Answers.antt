use mathlib.Core.Path.{refl}
use Rattle.probe.specs.Records.{declined}
use Rattle.probe.proofs.RecordLaws.{fault-above}
use Rattle.probe.proofs.bare_records.probe_bridges.Goals as goal

pub returns-in-Err : goal.returns-in-Err
returns-in-Err c =
    rw (c.from.ensures.0, c.from.ensures.1) (declined c.in-Err.ensures (fault-above _) (record { work-kept = refl; marks-kept = refl }))
