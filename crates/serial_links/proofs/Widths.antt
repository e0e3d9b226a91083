-- The bits of a width are no NaN's.
use mathlib.Core.Path.{sym, subst, ◌∙◌}
use mathlib.Core.Bool.{Bool, not}
use Prim.Native.Nat.{ℕ, ◌≤◌, ◌%◌}
use native.Mathlib.Omega.{arith}
use borrow.Author.Tests.{le-ltb}
use lib.Dec.{T}
use lib.Ieee.{binary64, nan_bits}
use lib.Ieee.Bits.{nan_bits_above}

pub no_nan : (b : ℕ) → b ≤ 0x40D0_0000_0000_0000 → T (not (nan_bits binary64 b))
no_nan b h =
    let small : b % 0x8000_0000_0000_0000 ≤ 0x7FF0_0000_0000_0000 = omega arith in
    subst (λ (t : Bool). T (not t)) (sym (nan_bits_above binary64 b ∙ le-ltb _ _ small)) tt
