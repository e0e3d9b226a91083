use borrow.Author.Tests.{not-true, not-false}
use Rattle.serial_links.proofs.Measures.{no_cell_lem, within_both, beyond-one}
use Rattle.serial_links.proofs.link.Link.measured.Goals as goal

pub returns-then-not-self : goal.returns-then-not-self
returns-then-not-self c = no_cell_lem _ _ (not-true _ c.if-not-self.true)

pub returns-then-transverse-width : goal.returns-then-transverse-width
returns-then-transverse-width c =
    within_both _ _ (not-false _ c.if-not-self.false) c.transverse_envelope-transverse.ensures c.longitudinal_envelope-longitudinal.ensures
    c.if-transverse-width.true

pub returns-else-transverse-width : goal.returns-else-transverse-width
returns-else-transverse-width c =
    beyond-one _ _ (not-false _ c.if-not-self.false) c.transverse_envelope-transverse.ensures c.longitudinal_envelope-longitudinal.ensures
    c.if-transverse-width.false
