-- Case 1 of document 01's table.
use Rattle.std.specs.Prelude.{◌≡◌, ◌+◌, ◌*◌, pos}
use Rattle.std.specs.Float.{binary64}
use Rattle.std.specs.Float.Ieee.{of_int}
use Rattle.length.specs.Length.{length_of}

pub record LengthCase : Type 0 where
  -- 1: doubled differences 6, 8: length 5
  pub case1 : length_of (6 * 6 + 8 * 8) ≡ of_int binary64 (pos 5)
