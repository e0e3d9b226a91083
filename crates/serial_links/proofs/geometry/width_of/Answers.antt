use Rattle.serial_links.proofs.Widths.{no_nan}
use Rattle.serial_links.proofs.geometry.width_of.Goals as goal

pub float_from_bits-result : goal.float_from_bits-result
float_from_bits-result c = no_nan _ c.requires
