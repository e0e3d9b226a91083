use mathlib.Core.Path.{refl}
use native.Mathlib.Omega.{arith}
use Rattle.probe.specs.Records.{refused, falling}
use Rattle.probe.proofs.RecordLaws.{fault-above}
use Rattle.probe.proofs.bare_records.probe_marks.Goals as goal

pub returns-in-Err : goal.returns-in-Err
returns-in-Err c =
    rw (c.from.ensures.0, c.from.ensures.1) (refused c.in-Err.ensures (fault-above _) (record { work-kept = refl; marks-kept = refl }))

pub returns-in-Some : goal.returns-in-Some
returns-in-Some c =
    let sound = c.in-Ok.ensures in
    let fall = c.in-Some.ensures in
    let from = c.from-in-Some.ensures in
    falling _ sound.0 fall.0 (omega (arith, fall.1, sound.1)) fall.2 fall.3 from.0 from.1 (record { work-kept = refl; marks-kept = refl })
