-- The largest sizes that a call takes (document 01, 'When a call declines').
use Rattle.std.specs.Prelude.{ℕ}

-- cells on each side of a map
abbrev pub max_side : ℕ
max_side = 1_024

abbrev pub max_bases : ℕ
max_bases = 256

abbrev pub max_boundaries : ℕ
max_boundaries = 256

abbrev pub max_observations : ℕ
max_observations = 1_024

abbrev pub max_sources : ℕ
max_sources = 4_096

abbrev pub max_spans : ℕ
max_spans = 256

-- a cell's bits 5 to 7 are zero exactly if it is below
abbrev pub cell_limit : ℕ
cell_limit = 32

-- the bits of the f64 16,384; those of +0 to it are the numbers up to them
abbrev pub max_width_bits : ℕ
max_width_bits = 0x40D0_0000_0000_0000

-- pixels on each side of a cell
abbrev pub cell_pixels : ℕ
cell_pixels = 8
