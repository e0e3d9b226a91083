use mathlib.Core.Path.{refl, sym, ◌∙◌}
use Rattle.probe.specs.Links.{float_bits}
use Rattle.probe.proofs.LinkLaws.{nan_unlike, number_like}
use Rattle.probe.proofs.own_links.bits_of.Goals as goal

pub returns-then-is_nan : goal.returns-then-is_nan
unfolding float_bits
returns-then-is_nan c = rw (nan_unlike _ (sym c.is_nan.ensures.value ∙ c.if-is_nan.true)) refl

pub returns : goal.returns
unfolding float_bits
returns c = rw (number_like _ (sym c.is_nan.ensures.value ∙ c.if-is_nan.false)) refl
