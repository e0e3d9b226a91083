-- Which case `measuredIn` is, from the outcome of the tests.
use mathlib.Core.Path.{◌≡◌}
use mathlib.Core.Bool.{true, false, ◌&&◌}
use lib.Ieee.{Float, le}
use Rattle.serial_links.specs.Limits.{Limits}
use Rattle.serial_links.specs.Measure.{empty, within, beyond, judged, transverse_envelope, transverse_limit, longitudinal_envelope, longitudinal_limit}
use Rattle.serial_links.specs.HeldLink.{link_held, extremes_in, measured_in}
use Rattle.serial_links.specs.declared.link.Link.{Link as LinkHeld}

module _ (limits : Limits) (l : LinkHeld) where
  pub no_cell_lem : l.seen ≡ false → empty ≡ measured_in limits l
  unfolding measured_in
  no_cell_lem e = rw e

  pub within_both : {t u : Float} → l.seen ≡ true → t ≡ transverse_envelope (link_held l) (extremes_in l)
      → u ≡ longitudinal_envelope (link_held l) (extremes_in l)
      → (le t (transverse_limit limits (link_held l)) && le u (longitudinal_limit limits (link_held l))) ≡ true → within t u ≡ measured_in limits l
  unfolding measured_in judged
  within_both e p q h = let k = rw (p, q) at h in rw (p, q, e, k)

  pub beyond-one : {t u : Float} → l.seen ≡ true → t ≡ transverse_envelope (link_held l) (extremes_in l)
      → u ≡ longitudinal_envelope (link_held l) (extremes_in l)
      → (le t (transverse_limit limits (link_held l)) && le u (longitudinal_limit limits (link_held l))) ≡ false → beyond t u ≡ measured_in limits l
  unfolding measured_in judged
  beyond-one e p q h = let k = rw (p, q) at h in rw (p, q, e, k)
