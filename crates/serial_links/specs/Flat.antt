-- Whether a region stays inside the flat envelope of its link: 000's `inside_flat_envelope`.
use Rattle.std.specs.Prelude.{Bool, true, not, ◌&&◌, List, [], ◌∷◌, ℕ, Float}
use Rattle.std.specs.Float.Ieee.{lt}
use Rattle.length.specs.Floats.{◌⊕◌, ◌⊖◌, ◌⊗◌, ◌⊘◌, max_of}
use Rattle.serial_links.specs.Limits.{Limits}
use Rattle.serial_links.specs.Geometry.{Vector, float4, cell_centre, dot, reach}
use Rattle.serial_links.specs.Link.{Link, Bounds}

-- How far past the spans' ends a region may reach: along the first span, and across it.
abbrev pub along_tolerance : Limits → Link → Float
along_tolerance limits link = max_of limits.envelope (link.min_width ⊘ float4)

abbrev pub across_tolerance : Limits → Float
across_tolerance limits = limits.envelope

-- How far a cell reaches from its centre.
abbrev pub cell_reach : Vector → Float
cell_reach v = float4 ⊗ reach v

-- A cell at p stays inside the bounds and the tolerance on the direction v.
abbrev pub inside_on : Vector → Bounds → Float → Vector → Bool
inside_on v b tolerance p = not (lt (dot p v ⊖ cell_reach v) (b.low ⊖ tolerance)) && not (lt (b.high ⊕ tolerance) (dot p v ⊕ cell_reach v))

abbrev pub inside_both : Limits → Link → Vector → Bool
inside_both limits link p =
    inside_on link.span_unit link.along (along_tolerance limits link) p && inside_on link.span_normal link.across (across_tolerance limits) p

-- Each cell does, on both directions.
unfoldable pub inside_flat : Limits → Link → ℕ → List ℕ → Bool
inside_flat limits link columns [] = true
inside_flat limits link columns (c ∷ cs) = inside_both limits link (cell_centre columns c) && inside_flat limits link columns cs
