-- The corridor of document 01: its job and the answer to it, as values and as bytes.
use Rattle.std.specs.Prelude.{ℕ, List, [], ◌∷◌, ◌++◌}
use Rattle.wire.specs.Bytes.{words, u64_bytes}
use Rattle.position.specs.declared.Span.{Span}
use Rattle.format.specs.declared.records.Source.{Source}
use Rattle.format.specs.Values.{Base, Observation, Boundary, Job}

-- "widths 8": the bits of 8.
abbrev pub width8 : ℕ
width8 = 0x4020_0000_0000_0000

-- Its boundaries stand upright, across the row of cells.
abbrev pub upright_span : ℕ → Span
upright_span x = record { a = record { x = x; y = 0 }; b = record { x = x; y = 8 } }

abbrev pub citation : ℕ → ℕ → Source
citation m n = record { from = m; to = n }

abbrev pub sighting : ℕ → ℕ → ℕ → Observation
sighting x m n = record { ends = upright_span x; bits = width8; sources = citation m n ∷ [] }

-- "no ramps"
abbrev pub crossing : Span → List Source → List Observation → Boundary
crossing ends sources observations =
    record { ends = ends; bits = width8; ramp = record { end = 0; lower = 0; upper = 0; id = 0 }; sources = sources; observations = observations }

-- "spans (8,0)-(8,8) with source 1 2 and (16,0)-(16,8) with source 2 1, widths 8, no observations"
abbrev pub two_crossings : List Boundary
two_crossings = crossing (upright_span 8) (citation 1 2 ∷ []) [] ∷ crossing (upright_span 16) (citation 2 1 ∷ []) [] ∷ []

-- "4 × 1 walkable cells of elevation 0", with these bases and boundaries; the corridor has none of the former, and the two above.
abbrev pub four_cells : List Base → List Boundary → Job
four_cells bases boundaries = record { width = 4; height = 1; cells = 1 ∷ 1 ∷ 1 ∷ 1 ∷ []; bases = bases; boundaries = boundaries }

-- The two merged: both sources, and both boundaries as observations.
abbrev pub both_merged : Boundary
both_merged = crossing (upright_span 8) (citation 1 2 ∷ citation 2 1 ∷ []) (sighting 8 1 2 ∷ sighting 16 2 1 ∷ [])

-- The record of a boundary at a column, with these counts of sources and observations.
unfoldable pub upright : ℕ → ℕ → ℕ → List ℕ
unfolding words
upright x sources observations = words (x ∷ 0 ∷ x ∷ 8 ∷ []) ++ (u64_bytes width8 ++ words (sources ∷ observations ∷ 0 ∷ 0 ∷ []))

-- "Job 148 bytes"
unfoldable pub corridor : List ℕ
unfolding words upright
corridor =
    words (4 ∷ 1 ∷ 0 ∷ 2 ∷ 0 ∷ 2 ∷ 48 ∷ 52 ∷ 52 ∷ 132 ∷ 132 ∷ 148 ∷ [])
    ++ ((1 ∷ 1 ∷ 1 ∷ 1 ∷ []) ++ (upright 8 1 0 ++ (upright 16 1 0 ++ words (1 ∷ 2 ∷ 2 ∷ 1 ∷ []))))

-- The record of an observation with one source.
unfoldable pub corridor_observation : ℕ → List ℕ
unfolding words
corridor_observation x = words (x ∷ 0 ∷ x ∷ 8 ∷ []) ++ (u64_bytes width8 ++ words (1 ∷ []))

-- "answer 152": the two merged.
unfoldable pub corridor_answer : List ℕ
unfolding words upright corridor_observation
corridor_answer =
    words (1 ∷ 2 ∷ 4 ∷ 64 ∷ 120 ∷ 152 ∷ [])
    ++ (upright 8 2 2 ++ (corridor_observation 8 ++ (corridor_observation 16 ++ words (1 ∷ 2 ∷ 2 ∷ 1 ∷ 1 ∷ 2 ∷ 2 ∷ 1 ∷ []))))
