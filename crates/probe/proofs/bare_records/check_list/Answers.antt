use mathlib.Core.Path.{refl}
use Rattle.probe.specs.Records.{unfit}
use Rattle.probe.proofs.bare_records.check_list.Goals as goal

pub returns-in-Some : goal.returns-in-Some
returns-in-Some c =
    let first = c.in-Some.ensures in
    unfit _ c.if-n-ne0.false c.if-count-gt4096.false first.0 first.1 first.2 refl refl
