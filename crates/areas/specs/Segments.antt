-- On which side of a line a point lies, and whether two closed segments meet, in whole numbers.
use Rattle.std.specs.Prelude.{◌≡◌, Bool, ◌&&◌, ◌||◌, ℕ, ◌+◌, ◌*◌, ◌-◌, ◌<◌, ◌≤◌, min, max, leb, ltb, eqb}
use Rattle.position.specs.declared.PixelPosition.{PixelPosition}

-- `cross` of 002, the product of b − a and p − a, is what is added less what is taken away
module _ (a b p : PixelPosition) where
  abbrev pub cross_plus : ℕ
  cross_plus = a.x * b.y + b.x * p.y + p.x * a.y

  abbrev pub cross_minus : ℕ
  cross_minus = a.x * p.y + b.x * a.y + p.x * b.y

  -- "the signed side is `cross`; zero counts as non-negative"
  unfoldable pub side : Bool
  side = leb cross_minus cross_plus

  -- strictly on either side
  abbrev pub above : Bool
  above = ltb cross_minus cross_plus

  abbrev pub below : Bool
  below = ltb cross_plus cross_minus

  -- p is on the closed segment from a to b
  unfoldable pub on_segment : Bool
  on_segment =
      eqb cross_plus cross_minus
      && ((leb (min a.x b.x) p.x && leb p.x (max a.x b.x)) && (leb (min a.y b.y) p.y && leb p.y (max a.y b.y)))

-- c and d lie strictly on opposite sides of the line through a and b
unfoldable pub opposite : PixelPosition → PixelPosition → PixelPosition → PixelPosition → Bool
opposite a b c d = (below a b c && above a b d) || (above a b c && below a b d)

-- the orientation test of 002
unfoldable pub meets : PixelPosition → PixelPosition → PixelPosition → PixelPosition → Bool
unfolding opposite on_segment
meets a b c d = (opposite a b c d && opposite c d a b) || ((on_segment a b c || on_segment a b d) || (on_segment c d a || on_segment c d b))

-- "the closed segments meet": they have a common point, s parts in n of the way from a to b and t parts in n of the way from c to d
pub record Meets (a b c d : PixelPosition) : Type 0 where
  pub n : ℕ
  pub s : ℕ
  pub t : ℕ
  pub some : 0 < n
  pub s-in : s ≤ n
  pub t-in : t ≤ n
  pub same-x : a.x * (n - s) + b.x * s ≡ c.x * (n - t) + d.x * t
  pub same-y : a.y * (n - s) + b.y * s ≡ c.y * (n - t) + d.y * t
