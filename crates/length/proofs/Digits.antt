-- A root digit by digit: what has been read of n, two binary digits at a time.
use mathlib.Core.Path.{◌≡◌, ap, ◌∙◌}
use Prim.Native.Nat.{ℕ, zero, suc, ◌+◌, ◌-◌, ◌*◌, ◌/◌, ◌%◌, ◌^◌, ◌≤◌, ◌<◌}
use native.Mathlib.Omega.{arith}
use native.Mathlib.Nat.{div-le_self, div-one}
use lib.Pow.{shr-shr}
use Rattle.length.proofs.Squares.{le-square}

-- two bits more of n
quarter : (n i : ℕ) → 0 < i → n / 2 ^ (2 * (i - 1)) / 4 ≡ n / 2 ^ (2 * i)
quarter n i h = shr-shr n (2 * (i - 1)) 2 ∙ ap (λ (k : ℕ). n / 2 ^ k) (omega arith)

pub next : (n i : ℕ) → 0 < i → 4 * (n / 2 ^ (2 * i)) + n / 2 ^ (2 * (i - 1)) % 4 ≡ n / 2 ^ (2 * (i - 1))
next n i h = omega (arith, quarter n i h)

-- none left
pub all : (n i : ℕ) → i ≤ 0 → n / 2 ^ (2 * i) ≡ n
all n zero h = div-one n
all n (suc i) h = absurd (omega arith)

-- the root of what has been read is small
pub small-root : (n k r q : ℕ) → n < 2 ^ 36 → r * r + q ≡ n / k → r < 2 ^ 58
small-root n k r q h e = omega (arith, le-square r, div-le_self n k)
