-- What a byte says of a ramp's end: one number, and one answer for each number.
use mathlib.Core.Path.{◌≡◌, refl, sym, ◌∙◌, ap}
use mathlib.Core.Option.{Option, none, some}
use Prim.Native.Nat.{ℕ, zero, suc, ◌≤◌, ◌<◌}
use borrow.Author.Tests.{lt-ltb, le-ltb}
use Rattle.format.specs.RampSides.{side_number, end_number, end_in}
use Rattle.format.specs.declared.ramps.RampSide.{RampSide}
use Rattle.format.specs.declared.ramps.RampSide.TheVariants.{Lower, Upper}
use Rattle.format.specs.declared.ramps.RampEnd.{RampEnd}
use Rattle.format.specs.declared.ramps.RampEnd.TheVariants.{NoRamp, At, Unknown}

pub end-small : (byte k : ℕ) → byte ≡ k → k ≤ 2 → some k ≡ end_in byte
end-small byte k e l = rw (e, le-ltb 2 k l)

pub end_none : (byte : ℕ) → 2 < byte → none ≡ end_in byte
end_none byte l = rw (lt-ltb 2 byte l)

named : Option ℕ → RampEnd
named none = Unknown
named (some zero) = NoRamp
named (some (suc zero)) = At Lower
named (some (suc (suc n))) = At Upper

named-number : (x : RampEnd) → named (end_number x) ≡ x
unfolding named
named-number NoRamp = refl
named-number (At Lower) = refl
named-number (At Upper) = refl
named-number Unknown = refl

-- no two answers have one number, so the number settles the answer
pub end-number-one : (x y : RampEnd) → end_number x ≡ end_number y → x ≡ y
end-number-one x y e = sym (named-number x) ∙ (ap named e ∙ named-number y)
