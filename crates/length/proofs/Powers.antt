-- Powers of two.
use mathlib.Core.Path.{◌≡◌, ap, ◌∙◌}
use Prim.Native.Nat.{ℕ, ◌+◌, ◌-◌, ◌*◌, ◌^◌, ◌≤◌}
use native.Mathlib.Omega.{arith}
use lib.Pow.{pow-add}

pub split : (i j : ℕ) → i ≤ j → 2 ^ j ≡ 2 ^ (j - i) * 2 ^ i
split i j h = ap (λ (z : ℕ). 2 ^ z) (omega arith) ∙ pow-add 2 (j - i) i

pub twice_power : (k : ℕ) → 2 ^ (2 * k) ≡ 2 ^ k * 2 ^ k
twice_power k = ap (λ (z : ℕ). 2 ^ z) (let e : 2 * k ≡ k + k = omega arith in e) ∙ pow-add 2 k k
