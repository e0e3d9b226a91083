-- Whole square roots.
use Rattle.std.specs.Prelude.{◌≡◌, Bool, cond, ℕ, zero, suc, ◌+◌, ◌-◌, ◌*◌, ◌/◌, ◌^◌, ◌≤◌, leb, eqb}
use Rattle.std.specs.Float.Ieee.{size}
use Rattle.length.specs.declared.Root.{Root}

-- root is the whole square root of n, and rem what n has above its square.
pub record Rooted (n root rem : ℕ) : Type 0 where
  pub sum : root * root + rem ≡ n
  pub small : rem ≤ 2 * root

-- n is the square of a whole number.
abbrev pub Square : ℕ → Type 0
Square n = (k : ℕ) × (k * k ≡ n)

-- From the root r of a quarter of n to the root of n: twice r, or one more where its square is still at most n.
unfoldable pub refined : ℕ → ℕ → ℕ
refined r n = cond (leb ((2 * r + 1) * (2 * r + 1)) n) (2 * r + 1) (2 * r)

-- The root of an n of at most twice so many binary digits.
unfoldable pub root_by : ℕ → ℕ → ℕ
unfolding refined
root_by zero n = 0
root_by (suc digits) n = refined (root_by digits (n / 4)) n

-- The whole square root.
unfoldable pub whole_root : ℕ → ℕ
unfolding root_by size
whole_root n = root_by (size n) n

-- What n has above the square of its root.
unfoldable pub rest_of : ℕ → ℕ
unfolding whole_root
rest_of n = n - whole_root n * whole_root n

unfoldable pub is_square : ℕ → Bool
unfolding rest_of
is_square n = eqb (rest_of n) 0

abbrev pub root_of : ℕ → Root
root_of n = record { root = whole_root n; rem = rest_of n }

-- One binary digit more: s, with t left over, is to 4 n + b as r, with q left over, is to n.
pub record DigitStep (r q b s t : ℕ) : Type 0 where
  pub sum : s * s + t ≡ 4 * (r * r + q) + b
  pub small : t ≤ 2 * s
  pub least : 2 * r ≤ s
  pub most : s ≤ 2 * r + 1

-- As many binary digits more as r has, 27: s, with t left over, is to n · 2^54 as r, with q left over, is to n.
pub record DoubledDigits (r q s t : ℕ) : Type 0 where
  pub sum : s * s + t ≡ (r * r + q) * 2 ^ 54
  pub small : t ≤ 2 * s
  pub least : r * 2 ^ 27 ≤ s
