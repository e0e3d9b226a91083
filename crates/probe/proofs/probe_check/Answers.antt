use mathlib.Core.Path.{◌∙◌, ap}
use Rattle.checks.specs.Verdict.{number_of, detail_of}
use Rattle.probe.proofs.probe_check.Goals as goal

pub returns : goal.returns
returns c =
    let told = c.from.ensures in
    let checked = c.verdict.ensures in
    (told.0 ∙ ap number_of checked, told.1 ∙ ap detail_of checked)
