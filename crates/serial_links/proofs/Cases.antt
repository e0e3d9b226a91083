-- The corridor of document 01, and a few spans, by computing.
-- The corridor: 4 × 1 cells, spans (8,0)-(8,8) and (16,0)-(16,8) of width 8, and between them the region of cell 1.
use mathlib.Core.Path.{◌≡◌, refl}
use mathlib.Core.Bool.{true, false}
use mathlib.Core.List.{[], ◌∷◌, map}
use Prim.Native.Nat.{ℕ}
use lib.Ieee.{neg, add, sub, mul, div, lt, le, of_bits, of_int}
use Rattle.order.specs.Tests.{every}
use Rattle.length.specs.Root.{is_square}
use Rattle.length.specs.Length.{length_of}
use Rattle.length.specs.Floats.{whole_float}
use Rattle.position.specs.Order.{canonical}
use Rattle.position.specs.declared.Span.{Span}
use Rattle.serial_links.specs.Limits.{limits000}
use Rattle.serial_links.specs.Geometry.{Vector, squares, centre_distance, centre_length}
use Rattle.serial_links.specs.Link.{Side, Link, widened_by, link_of}
use Rattle.serial_links.specs.Measure.{empty, within, beyond, extremes, judged, measured, passing, transverse_limit, longitudinal_limit}
use Rattle.serial_links.specs.Flat.{inside_flat}
use Rattle.serial_links.specs.Parallel.{nearby_parallel}
use Rattle.serial_sums.specs.Sums.{added_to, sum_of}
use Rattle.serial_links.specs.Sums.{distance_sum, distance_total}

abbrev pub span : ℕ → ℕ → ℕ → ℕ → Span
span ax ay bx by = record { a = record { x = ax; y = ay }; b = record { x = bx; y = by } }

abbrev first : Span
first = span 8 0 8 8

abbrev second : Span
second = span 16 0 16 8

abbrev side : Span → Side
side s = record { span = s; bits = 0x4020_0000_0000_0000 }

abbrev corridor : Link
corridor = link_of (side first) (side second)

abbrev vector : ℕ → ℕ → Vector
vector x y = record { x = whole_float x; y = whole_float y }

corridor-distance : centre_distance first second ≡ whole_float 8
unfolding length_of squares of_int
corridor-distance = refl

-- a span that is not upright: centres 9 and 16
slanted-distance : centre_distance (span 8 0 10 8) second ≡ whole_float 7
unfolding length_of squares of_int
slanted-distance = refl

corridor-link :
    corridor
    ≡ record {
      centre = vector 8 4;
      distance = record { value = whole_float 8; exact = true };
      unit = vector 1 0;
      normal = record { x = neg (whole_float 0); y = whole_float 1 };
      span_unit = vector 0 1;
      span_normal = record { x = neg (whole_float 1); y = whole_float 0 };
      along = record { low = whole_float 0; high = whole_float 8 };
      across = record { low = neg (whole_float 16); high = neg (whole_float 8) };
      min_width = whole_float 8;
    }
unfolding link_of canonical widened_by length_of is_square squares of_int of_bits neg add sub mul div lt
corridor-link = refl

-- both envelopes of cell 1 are 8, within 28
corridor-measured : measured limits000 corridor 4 (1 ∷ []) ≡ within (whole_float 8) (whole_float 8)
unfolding measured judged extremes link_of canonical widened_by length_of squares of_int of_bits neg add sub mul div lt le
corridor-measured = refl

-- all four cells would be 32 long
corridor-beyond : measured limits000 corridor 4 (0 ∷ 1 ∷ 2 ∷ 3 ∷ []) ≡ beyond (whole_float 8) (whole_float 32)
unfolding measured judged extremes link_of canonical widened_by length_of squares of_int of_bits neg add sub mul div lt le
corridor-beyond = refl

-- of width 16: the limits are 40 across and 32 along
abbrev broad : Link
broad = link_of (record { span = first; bits = 0x4030_0000_0000_0000 }) (record { span = second; bits = 0x4038_0000_0000_0000 })

broad-limits : transverse_limit limits000 broad ∷ longitudinal_limit limits000 broad ∷ [] ≡ whole_float 40 ∷ whole_float 32 ∷ []
unfolding link_of length_of squares of_int of_bits add mul div lt
broad-limits = refl

no_cell_lem : measured limits000 corridor 4 [] ≡ empty
unfolding measured
no_cell_lem = refl

only-within : map passing (empty ∷ within (whole_float 8) (whole_float 8) ∷ beyond (whole_float 8) (whole_float 32) ∷ []) ≡ false ∷ true ∷ false ∷ []
only-within = refl

-- a cell may reach 32 pixels past the spans, and no farther
corridor-flat : map (λ (cell : ℕ). inside_flat limits000 corridor 16 (1 ∷ cell ∷ [])) (1 ∷ 5 ∷ 6 ∷ []) ≡ true ∷ true ∷ false ∷ []
unfolding inside_flat link_of canonical widened_by length_of squares of_int of_bits neg add sub mul div lt
corridor-flat = refl

-- along the spans too: rows 4 and 5
corridor-along : map (λ (cell : ℕ). inside_flat limits000 corridor 16 (1 ∷ cell ∷ [])) (65 ∷ 81 ∷ []) ≡ true ∷ false ∷ []
unfolding inside_flat link_of canonical widened_by length_of squares of_int of_bits neg add sub mul div lt
corridor-along = refl

-- the spans either way round; two that run against each other from their earlier ends on; two at right angles; two 136 pixels apart
parallels :
    nearby_parallel limits000 first second
    ∷ nearby_parallel limits000 (span 8 8 8 0) second
    ∷ nearby_parallel limits000 (span 0 0 2 400) (span 0 400 2 0)
    ∷ nearby_parallel limits000 first (span 0 8 8 8)
    ∷ nearby_parallel limits000 first (span 144 0 144 8)
    ∷ []
    ≡ true ∷ true ∷ true ∷ false ∷ false ∷ []
unfolding nearby_parallel canonical length_of squares of_int of_bits neg add sub mul div lt le
parallels = refl

-- from the first of three spans: 0 + 8 + 16
corridor-sum : distance_sum first (first ∷ second ∷ span 24 0 24 8 ∷ []) ≡ whole_float 24
unfolding distance_sum sum_of added_to length_of squares of_int add
corridor-sum = refl

-- centres 8 pixels apart; 1 and 1; 3 and 4
marks :
    map (λ (s : Span). (centre_length first s).exact) (second ∷ span 9 1 9 9 ∷ span 11 4 11 12 ∷ []) ≡ true ∷ false ∷ true ∷ []
unfolding is_square squares
marks = refl

-- from the first of three spans: 0, 8 and 16 are exact; with the one aslant the sum is not
corridor-totals :
    map (λ (s : Span). (distance_total first (first ∷ second ∷ s ∷ [])).exact) (span 24 0 24 8 ∷ span 24 1 24 9 ∷ []) ≡ true ∷ false ∷ []
unfolding every is_square squares
corridor-totals = refl
