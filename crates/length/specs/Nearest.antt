-- What a length is. Document 01: "a length is the f64 nearest to √D ÷ 2, D the sum of squares of the doubled differences
-- (at most 2²⁹), stated by comparing whole-number squares".
-- Only whole numbers, and the values of a binary64 as `lib.Ieee` has them.
use Rattle.std.specs.Prelude.{◌≡◌, ℕ, ◌+◌, ◌*◌, ◌<◌, Bool, true, false, T, Float}
use Rattle.std.specs.Float.{nan, inf, fin, binary64}
use Rattle.std.specs.Float.Ieee.{fits, up, down}

-- A number that is finite and not negative (−0 is out) is the fraction num / den.
abbrev pub plain : Float → Bool
plain nan = false
plain (inf s) = false
plain (fin true m e) = false
plain (fin false m e) = true

abbrev pub num : Float → ℕ
num nan = 0
num (inf s) = 0
num (fin s m e) = m * up e

abbrev pub den : Float → ℕ
den nan = 1
den (inf s) = 1
den (fin s m e) = down e

-- A plain f64.
pub record PlainFloat (x : Float) : Type 0 where
  pub held : T (fits binary64 x)
  pub plain : T (plain x)

abbrev pub square : ℕ → ℕ
square n = n * n

-- x < y, as fractions.
abbrev pub Less : Float → Float → Type 0
Less x y = num x * den y < num y * den x

-- x + y is the fraction top / bottom.
abbrev pub top : Float → Float → ℕ
top x y = num x * den y + num y * den x

abbrev pub bottom : Float → Float → ℕ
bottom x y = den x * den y

-- r is √d ÷ 2 itself: (2 r)² = d.
abbrev pub ExactRoot : ℕ → Float → Type 0
ExactRoot d r = 4 * square (num r) ≡ d * square (den r)

-- r is the f64 nearest to √d ÷ 2, and every other f64 is farther.
-- The middle between r and another f64 y is (r + y) ÷ 2. It lies below √d ÷ 2 exactly if (r + y)² < d.
-- So a y below r is farther from √d ÷ 2 than r is, if (r + y)² < d; and a y above r, if d < (r + y)².
-- y runs over the f64s that are finite and not negative: a negative one, an infinity and a NaN are no nearer than 0 is, or no number.
pub record NearestLength (d : ℕ) (r : Float) : Type 0 where
  pub value : PlainFloat r
  pub below : (y : Float) → PlainFloat y → Less y r → square (top r y) < d * square (bottom r y)
  pub above : (y : Float) → PlainFloat y → Less r y → d * square (bottom r y) < square (top r y)
