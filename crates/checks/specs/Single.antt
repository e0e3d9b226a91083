-- The checks one by one, with number and detail: of the header, of a cell or record, of the counts, of the list.
use Rattle.std.specs.Prelude.{ℕ, ◌+◌, ◌*◌, ◌/◌, ◌%◌, Bool, true, not, ◌&&◌, List, [], ◌∷◌, leb, ltb, eqb, length, get_or}
use Rattle.position.specs.Order.{pos_same}
use Rattle.position.specs.declared.Span.{Span}
use Rattle.format.specs.Sizes.{header_size, base_size, boundary_size, span_size}
use Rattle.format.specs.Bounds.{cell_limit, max_spans}
use Rattle.format.specs.Records.{span_at, base_at, boundary_at}
use Rattle.format.specs.Header.{offsets_of, boundaries_start, observations_start}
use Rattle.format.specs.Decode.{boundary_records, observation_records, observation_total, own_total, source_count}
use Rattle.format.specs.declared.header.Counts.{Counts}
use Rattle.format.specs.declared.header.Header.{Header}
use Rattle.checks.specs.Checks.{Check, check, each}
use Rattle.checks.specs.Numbers.{bad_sides, too_many_records, too_many_boundaries, bad_layout, bad_cell, anchor_off_map, bad_ramp, bad_width}
use Rattle.checks.specs.Numbers.{end_off_map, ends_coincide, bad_list_length, too_many_spans, span_off_map, span_ends_coincide}
use Rattle.checks.specs.Faults.{size_fault, count_fault, boundary_count_fault, same_offsets, anchor_fault, ramp_fault, width_fault, ends_fault}

-- 2 to 5, of the twelve words alone.
unfoldable pub header_checks : Header → List Check
header_checks h =
    check (size_fault h.counts) bad_sides 0
    ∷ check (count_fault h.counts) too_many_records 0
    ∷ check (boundary_count_fault h.counts) too_many_boundaries h.counts.boundaries
    ∷ check (not (same_offsets h.offsets (offsets_of h.counts))) bad_layout 0
    ∷ []

-- 6: "cell bits 5 to 7 (index)".
unfoldable pub cell_check : List ℕ → ℕ → List Check
cell_check s i = check (leb cell_limit (get_or s (header_size + i) 0)) bad_cell i ∷ []

-- 7: "anchor off the map (base)"; the bases' records start at `at`.
unfoldable pub base_check : List ℕ → ℕ → ℕ → ℕ → ℕ → List Check
base_check s width height at i = check (anchor_fault width height (base_at s (at + i * base_size)).anchor) anchor_off_map i ∷ []

-- 8: "observation or source counts don't add up", as whole numbers.
unfoldable pub sums_fault : List ℕ → Counts → Bool
sums_fault s c =
    not (eqb (observation_total (boundary_records s (boundaries_start c) c.boundaries)) c.observations
    && eqb (own_total (boundary_records s (boundaries_start c) c.boundaries) + source_count (observation_records s (observations_start c) c.observations))
    c.sources)

-- 9: the ramp (boundary); the boundaries' records start at `at`.
unfoldable pub ramp_check : List ℕ → ℕ → ℕ → List Check
ramp_check s at i = check (ramp_fault (boundary_at s (at + i * boundary_size)).ramp) bad_ramp i ∷ []

-- 10: "width bits aren't those of +0 to 16,384 (boundary)".
unfoldable pub width_check : List ℕ → ℕ → ℕ → List Check
width_check s at i = check (width_fault (boundary_at s (at + i * boundary_size)).bits) bad_width i ∷ []

-- 11 and 16, 12 and 17: the ends of a span of a map of this size; the second only where they have to be distinct.
unfoldable pub span_checks : ℕ → ℕ → Bool → ℕ → ℕ → Span → ℕ → List Check
span_checks past same distinct width height e i =
    check (ends_fault width height e) past i
    ∷ check (distinct && pos_same e.a e.b) same i
    ∷ []

-- 11, and 12 where the call makes it (boundary).
unfoldable pub ends_check : Bool → List ℕ → ℕ → ℕ → ℕ → ℕ → List Check
unfolding span_checks
ends_check distinct s width height at i = span_checks end_off_map ends_coincide distinct width height (boundary_at s (at + i * boundary_size)).ends i

-- 16 and 17 (span).
unfoldable pub span_check : List ℕ → ℕ → ℕ → ℕ → List Check
unfolding span_checks
span_check l width height i = span_checks span_off_map span_ends_coincide true width height (span_at l (i * span_size)) i

-- The spans of a list.
abbrev pub span_count : List ℕ → ℕ
span_count l = length l / span_size

-- 14 to 17.
unfoldable pub list_checks : List ℕ → ℕ → ℕ → List Check
list_checks l width height =
    check (not (eqb (length l % span_size) 0)) bad_list_length 0
    ∷ check (ltb max_spans (span_count l)) too_many_spans (span_count l)
    ∷ each (span_count l) (span_check l width height)
