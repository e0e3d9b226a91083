-- At most one f64 is the nearest to √d ÷ 2.
use mathlib.Core.Path.{◌≡◌}
use mathlib.Core.Logic.{◌⊎◌, inl, inr}
use Prim.Native.Nat.{ℕ, ◌*◌, ◌≤◌, ◌<◌}
use native.Mathlib.Nat.{lt_of_not-le, eq-or-lt_of_le}
use native.Mathlib.Omega.{arith}
use native.Mathlib.Decide.{dec_le}
use lib.Ieee.{Float}
use Rattle.length.specs.Nearest.{NearestLength, num, den, Less}
use Rattle.length.proofs.Values.{same_number}

clash : (d : ℕ) (x y : Float) → NearestLength d x → NearestLength d y → Less x y → ⊥
clash d x y h k l = omega (arith, h.above y k.value l, k.below x h.value l)

pub nearest-unique : (d : ℕ) (x y : Float) → NearestLength d x → NearestLength d y → x ≡ y
nearest-unique d x y h k = go (dec_le (num x * den y) (num y * den x))
  where
    at : (num x * den y ≡ num y * den x) ⊎ (num x * den y < num y * den x) → x ≡ y
    at (inl e) = same_number x y h.value k.value e
    at (inr l) = absurd (clash d x y h k l)

    go : Dec (num x * den y ≤ num y * den x) → x ≡ y
    go (yes l) = at (eq-or-lt_of_le l)
    go (no f) = absurd (clash d y x k h (lt_of_not-le f))
