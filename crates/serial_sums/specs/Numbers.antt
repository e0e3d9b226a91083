-- Which f64s are numbers, and which of these are not negative.
use Rattle.std.specs.Prelude.{Bool, false, not, T, Float}
use Rattle.std.specs.Float.{nan, inf, fin}
use Rattle.std.specs.Float.Ieee.{is_nan}

-- No NaN, so that it has bits of its own.
abbrev pub Number : Float → Type 0
Number x = T (not (is_nan x))

-- Not negative, and no NaN: a sum of such is such.
abbrev pub upward : Float → Bool
upward nan = false
upward (inf s) = not s
upward (fin s m e) = not s
