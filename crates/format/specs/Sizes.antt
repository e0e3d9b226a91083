-- How many bytes each record has (document 01, 'The three calls').
use Rattle.std.specs.Prelude.{ℕ}

abbrev pub header_size : ℕ
header_size = 48

-- The counts that a header starts with, and the offsets after them, have as many bytes each.
abbrev pub counts_size : ℕ
counts_size = 24

abbrev pub base_size : ℕ
base_size = 12

abbrev pub boundary_size : ℕ
boundary_size = 40

abbrev pub observation_size : ℕ
observation_size = 28

abbrev pub source_size : ℕ
source_size = 8

abbrev pub span_size : ℕ
span_size = 16

abbrev pub answer_header_size : ℕ
answer_header_size = 24

-- A boundary's record in an answer.
abbrev pub answer_boundary_size : ℕ
answer_boundary_size = 40

-- What both halves of a missing anchor are.
abbrev pub no_anchor : ℕ
no_anchor = 4_294_967_295
