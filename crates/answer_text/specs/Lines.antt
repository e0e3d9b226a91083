-- The lines that choke-list prints, as lists of ASCII codes (document 01, 'Corridor').
use Rattle.std.specs.Prelude.{ℕ, length}
use mathlib.Core.List.{List, [], ◌∷◌, ◌++◌, flat_map}
use Rattle.position.specs.declared.Span.{Span}
use Rattle.format.specs.Values.{Ramp, Observation, Boundary}
use Rattle.format.specs.declared.records.Source.{Source}
use Rattle.answer_text.specs.Digits.{digits, hex_digits}

abbrev pub space : ℕ
space = 32

-- What ends each line.
abbrev pub newline : List ℕ
newline = 10 ∷ []

-- A number after the space that parts it from what stands before ("fields are parted by one space").
unfoldable pub field_text : ℕ → List ℕ
unfolding digits
field_text v = space ∷ digits v

unfoldable pub bits_text : ℕ → List ℕ
unfolding hex_digits
bits_text v = space ∷ hex_digits v

-- Four numbers.
unfoldable pub four_fields : ℕ → ℕ → ℕ → ℕ → List ℕ
unfolding field_text
four_fields a b c d = field_text a ++ (field_text b ++ (field_text c ++ field_text d))

-- The column and row of each end.
abbrev pub ends_text : Span → List ℕ
ends_text e = four_fields e.a.x e.a.y e.b.x e.b.y

-- "ramp end, lower, upper, id"
abbrev pub ramp_text : Ramp → List ℕ
ramp_text r = four_fields r.end r.lower r.upper r.id

-- A line of two numbers after a name.
unfoldable pub pair_line : List ℕ → ℕ → ℕ → List ℕ
unfolding field_text
pair_line name a b = name ++ (field_text a ++ (field_text b ++ newline))

-- "s: a source."
abbrev pub source_line : Source → List ℕ
source_line s = pair_line (115 ∷ []) s.from s.to

-- What an o line and a b line begin with: a letter, ends, bits, and a number of sources.
unfoldable pub head_text : ℕ → Span → ℕ → ℕ → List ℕ
unfolding four_fields bits_text field_text
head_text letter ends bits n = letter ∷ (ends_text ends ++ (bits_text bits ++ field_text n))

-- An o line of these ends and bits, and of this many sources.
unfoldable pub observation_fields : Span → ℕ → ℕ → List ℕ
unfolding head_text
observation_fields ends bits n = head_text 111 ends bits n ++ newline

-- "o: ends, bits, sources."
unfoldable pub observation_line : Observation → List ℕ
unfolding observation_fields
observation_line o = observation_fields o.ends o.bits (length o.sources)

-- A b line of these ends and bits, of this many own sources and observations, and of this ramp.
unfoldable pub boundary_fields : Span → ℕ → ℕ → ℕ → Ramp → List ℕ
unfolding head_text field_text four_fields
boundary_fields ends bits n m ramp = head_text 98 ends bits n ++ (field_text m ++ (ramp_text ramp ++ newline))

-- "b: ends, width bits, own sources, observations, ramp end, lower, upper, id."
unfoldable pub boundary_line : Boundary → List ℕ
unfolding boundary_fields
boundary_line b = boundary_fields b.ends b.bits (length b.sources) (length b.observations) b.ramp

unfoldable pub source_lines : List Source → List ℕ
unfolding flat_map pair_line
source_lines ss = flat_map source_line ss

-- "each observation followed by its sources"
unfoldable pub observation_text : Observation → List ℕ
unfolding observation_line source_lines
observation_text o = observation_line o ++ source_lines o.sources

unfoldable pub observation_texts : List Observation → List ℕ
unfolding flat_map observation_text
observation_texts os = flat_map observation_text os

-- "for each its b line, its own sources, and each observation followed by its sources"
unfoldable pub boundary_text : Boundary → List ℕ
unfolding boundary_line source_lines observation_texts
boundary_text b = boundary_line b ++ (source_lines b.sources ++ observation_texts b.observations)

unfoldable pub boundary_texts : List Boundary → List ℕ
unfolding flat_map boundary_text
boundary_texts bs = flat_map boundary_text bs

-- "kept: the number of boundaries."
unfoldable pub kept_line : ℕ → List ℕ
unfolding field_text
kept_line n = (107 ∷ 101 ∷ 112 ∷ 116 ∷ []) ++ (field_text n ++ newline)

-- What is printed for an answer's boundaries: "kept: the number of boundaries. Then for each …".
unfoldable pub answer_lines : List Boundary → List ℕ
unfolding kept_line boundary_texts
answer_lines bs = kept_line (length bs) ++ boundary_texts bs

-- "a refusal prints `refused`, number, detail on one line"
abbrev pub refused_line : ℕ → ℕ → List ℕ
refused_line n d = pair_line (114 ∷ 101 ∷ 102 ∷ 117 ∷ 115 ∷ 101 ∷ 100 ∷ []) n d
