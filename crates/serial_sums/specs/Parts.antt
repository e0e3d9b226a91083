-- The parts of a sum as the code holds them.
use Rattle.std.specs.Prelude.{◌≡◌, ℕ, ◌≤◌, T, Float, length, take}
use mathlib.Core.List.{List, [], ◌∷◌, ◌++◌, map, Memᴰ}
use Rattle.std.specs.Float.{binary64}
use Rattle.std.specs.Float.Ieee.{fits, to_bits}
use Rattle.length.specs.declared.Length.{Length}
use Rattle.serial_sums.specs.Numbers.{upward}
use Rattle.serial_sums.specs.Totals.{all_exact, ascending_total}
use Rattle.serial_sums.specs.declared.Parts.{Parts}

-- An f64 that is not negative, as a length's value is.
pub record PartValue (x : Float) : Type 0 where
  pub up : T (upward x)
  pub held : T (fits binary64 x)

abbrev pub value_bits : Length → ℕ
value_bits x = to_bits binary64 x.value

-- p holds the lengths of ls, at most sixteen: the bits of their values, in their order, and whether each is exact.
pub record PartsOf (p : Parts) (ls : List Length) : Type 0 where
  pub size : length p.bits ≡ 16
  pub count : p.count ≡ length ls
  pub most : length ls ≤ 16
  pub first : take (length ls) p.bits ≡ map value_bits ls
  pub exact : p.exact ≡ all_exact ls
  pub each : (x : Length) → Memᴰ x ls → PartValue x.value

abbrev pub SomeParts : Parts → Type 0
SomeParts p = (ls : List Length) × PartsOf p ls

-- q holds the lengths that p does, and x after them.
abbrev pub WithPart : Parts → Length → Parts → Type 0
WithPart p x q = (ls : List Length) → PartsOf p ls → PartsOf q (ls ++ (x ∷ []))

-- r is the total of the lengths that p holds.
abbrev pub TotalOfParts : Parts → Length → Type 0
TotalOfParts p r = (ls : List Length) → PartsOf p ls → r ≡ ascending_total ls
