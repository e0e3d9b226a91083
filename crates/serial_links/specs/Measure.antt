-- Measuring a link by the cells of its region: 000's `measure_links`.
use Rattle.std.specs.Prelude.{Bool, true, false, cond, ◌&&◌, List, [], ◌∷◌, map, ℕ, Float}
use Rattle.std.specs.Float.Ieee.{le}
use Rattle.length.specs.Floats.{◌⊕◌, ◌⊖◌, ◌⊗◌, ◌⊘◌}
use Rattle.serial_links.specs.Limits.{Limits}
use Rattle.serial_links.specs.Geometry.{Vector, one_and_half, two, float8, cell_centre, towards, dot, reach}
use Rattle.serial_links.specs.Link.{Link, Bounds, bounds_of}

-- The extremes of a region's cells along the link and across it. No width plays a part in them.
pub record Extremes : Type 0 where
  pub longitudinal : Bounds
  pub transverse : Bounds

-- Where a cell's centre lies on a direction, from the first centre on.
abbrev pub placed : Link → Vector → ℕ → ℕ → Float
placed link v columns cell = dot (towards link.centre (cell_centre columns cell)) v

-- Of cells in row order, in a map of so many columns.
unfoldable pub extremes : Link → ℕ → List ℕ → Extremes
extremes link columns cells = record {
  longitudinal = bounds_of (map (placed link link.unit columns) cells);
  transverse = bounds_of (map (placed link link.normal columns) cells);
}

-- An envelope: from the least centre to the greatest, and the extent of a cell.
abbrev pub enveloped : Bounds → Vector → Float
enveloped b v = b.high ⊖ b.low ⊕ float8 ⊗ reach v

abbrev pub transverse_envelope : Link → Extremes → Float
transverse_envelope link e = enveloped e.transverse link.normal

abbrev pub longitudinal_envelope : Link → Extremes → Float
longitudinal_envelope link e = enveloped e.longitudinal link.unit

-- The most that each may be.
abbrev pub transverse_limit : Limits → Link → Float
transverse_limit limits link = one_and_half ⊗ link.min_width ⊕ limits.geometry

abbrev pub longitudinal_limit : Limits → Link → Float
longitudinal_limit limits link = link.distance.value ⊕ link.min_width ⊘ two ⊕ limits.geometry

-- Document 01: "The measured link is empty, or within, or beyond, the last two carrying both envelopes": the transverse and the longitudinal one.
pub data Measured : Type 0 where
  empty : Measured
  within : Float → Float → Measured
  beyond : Float → Float → Measured

unfoldable pub judged : Limits → Link → Extremes → Measured
judged limits link e =
    cond (le (transverse_envelope link e) (transverse_limit limits link) && le (longitudinal_envelope link e) (longitudinal_limit limits link))
    (within (transverse_envelope link e) (longitudinal_envelope link e))
    (beyond (transverse_envelope link e) (longitudinal_envelope link e))

-- A region without a cell is empty. (000 asks whether an extreme is finite, as those of one cell or more are.)
unfoldable pub measured : Limits → Link → ℕ → List ℕ → Measured
measured limits link columns [] = empty
measured limits link columns (c ∷ cs) = judged limits link (extremes link columns (c ∷ cs))

-- Only a link within both limits passes.
abbrev pub passing : Measured → Bool
passing empty = false
passing (within t l) = true
passing (beyond t l) = false
