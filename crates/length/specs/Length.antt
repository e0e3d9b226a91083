-- The length of d, as a function that computes. That it is the f64 nearest to √d ÷ 2, and the only one, is proofs/Lengths.antt's.
use Rattle.std.specs.Prelude.{false, ℕ, ◌+◌, ◌-◌, ◌*◌, ◌/◌, ◌%◌, ◌^◌, Float}
use Rattle.std.specs.Float.{binary64}
use Rattle.std.specs.Float.Ieee.{round, size}
use Rattle.length.specs.Root.{whole_root, is_square}
use Rattle.length.specs.declared.Length.{Length}

-- How many binary digits after the point the root of d has, if it has 54 in all: one more than an f64 holds.
unfoldable pub root_places : ℕ → ℕ
unfolding size whole_root
root_places d = 54 - size (whole_root d)

-- Half a number, rounded up.
abbrev pub halved : ℕ → ℕ
halved r = r / 2 + r % 2

-- Half of the root of d, to 53 binary digits.
unfoldable pub length_of : ℕ → Float
unfolding root_places whole_root round
length_of d = round binary64 false (halved (whole_root (d * 2 ^ (2 * root_places d)))) (2 ^ root_places d)

-- With whether it is √d ÷ 2 itself.
abbrev pub length_at : ℕ → Length
length_at d = record { value = length_of d; exact = is_square d }
