-- What is wrong with a header and with single records: the conditions of refusals 2 to 12, 16 and 17.
use Rattle.std.specs.Prelude.{ℕ, ◌*◌, Bool, not, ◌&&◌, ◌||◌, leb, ltb, eqb}
use Rattle.position.specs.declared.WalkPosition.{WalkPosition}
use Rattle.position.specs.declared.PixelPosition.{PixelPosition}
use Rattle.position.specs.declared.Span.{Span}
use Rattle.format.specs.Sizes.{no_anchor}
use Rattle.format.specs.Bounds.{max_side, max_bases, max_observations, max_sources, max_boundaries, max_width_bits, cell_pixels}
use Rattle.format.specs.declared.header.Counts.{Counts}
use Rattle.format.specs.declared.header.Offsets.{Offsets}
use Rattle.format.specs.declared.records.RampRecord.{RampRecord}

-- 2: "width or height not 1 to 1,024"
abbrev pub side_fault : ℕ → Bool
side_fault n = ltb n 1 || ltb max_side n

abbrev pub size_fault : Counts → Bool
size_fault c = side_fault c.width || side_fault c.height

-- 3: "over 256 bases, 1,024 observations or 4,096 sources"
abbrev pub count_fault : Counts → Bool
count_fault c = ltb max_bases c.bases || (ltb max_observations c.observations || ltb max_sources c.sources)

-- 4: "over 256 boundaries"
abbrev pub boundary_count_fault : Counts → Bool
boundary_count_fault c = ltb max_boundaries c.boundaries

-- 5: "an offset, the total … isn't what the counts give"
abbrev pub same_offsets : Offsets → Offsets → Bool
same_offsets o p =
    eqb o.cells p.cells
    && (eqb o.bases p.bases
    && (eqb o.boundaries p.boundaries
    && (eqb o.observations p.observations
    && (eqb o.sources p.sources
    && eqb o.total p.total))))

-- 7: "anchor off the map"; "both 4,294,967,295 means no anchor"
abbrev pub anchor_fault : ℕ → ℕ → WalkPosition → Bool
anchor_fault width height p = not (eqb p.x no_anchor && eqb p.y no_anchor) && (leb width p.x || leb height p.y)

-- 9: "ramp end over 2, the zero byte not zero, or end 0 with anything nonzero in the rest"
abbrev pub ramp_fault : RampRecord → Bool
ramp_fault r =
    ltb 2 r.end
    || (not (eqb r.zero 0)
    || (eqb r.end 0 && not (eqb r.lower 0 && (eqb r.upper 0 && eqb r.id 0))))

-- 10: "width bits aren't those of +0 to 16,384"
abbrev pub width_fault : ℕ → Bool
width_fault bits = ltb max_width_bits bits

-- 11 and 16: an end "past width × 8 or height × 8"
abbrev pub position_fault : ℕ → ℕ → PixelPosition → Bool
position_fault width height p = ltb (width * cell_pixels) p.x || ltb (height * cell_pixels) p.y

abbrev pub ends_fault : ℕ → ℕ → Span → Bool
ends_fault width height e = position_fault width height e.a || position_fault width height e.b
