-- Ends of ramps. Document 01: "ramp end (byte: 0 none, 1 lower, 2 upper)"; "9 ramp end over 2".
use Rattle.std.specs.Prelude.{cond, ℕ, ltb}
use Rattle.std.proofs.Math.Option.{Option, none, some}
use Rattle.format.specs.declared.ramps.RampSide.{RampSide}
use Rattle.format.specs.declared.ramps.RampSide.TheVariants.{Lower, Upper}
use Rattle.format.specs.declared.ramps.RampEnd.{RampEnd}
use Rattle.format.specs.declared.ramps.RampEnd.TheVariants.{NoRamp, At, Unknown}

-- A side's number.
abbrev pub side_number : RampSide → ℕ
side_number Lower = 1
side_number Upper = 2

-- The number of what a byte may say; none where it is no ramp end.
abbrev pub end_number : RampEnd → Option ℕ
end_number NoRamp = some 0
end_number (At s) = some (side_number s)
end_number Unknown = none

-- A byte is its own number, up to 2.
abbrev pub end_in : ℕ → Option ℕ
end_in byte = cond (ltb 2 byte) none (some byte)
