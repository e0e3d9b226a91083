use Rattle.probe.specs.Records.{fits_at}
use Rattle.probe.proofs.bare_records.record_fits.Goals as goal

pub returns : goal.returns
unfolding fits_at
returns c = cc
