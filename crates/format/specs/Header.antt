-- "A job starts with twelve u32: width, height, bases, boundaries, observations, sources; offsets of cells, bases,
-- boundaries, observations, sources; total length. Sections follow without gaps from byte 48."
use Rattle.std.specs.Prelude.{ℕ, ◌+◌, ◌*◌, List, ◌++◌}
use Rattle.wire.specs.Bytes.{u32_at, u32_bytes}
use Rattle.format.specs.Sizes.{header_size, base_size, boundary_size, observation_size, source_size, counts_size}
use Rattle.format.specs.declared.header.Counts.{Counts}
use Rattle.format.specs.declared.header.Offsets.{Offsets}
use Rattle.format.specs.declared.header.Header.{Header}

unfoldable pub counts_at : List ℕ → ℕ → Counts
counts_at s i = record {
  width = u32_at s i;
  height = u32_at s (i + 4);
  bases = u32_at s (i + 8);
  boundaries = u32_at s (i + 12);
  observations = u32_at s (i + 16);
  sources = u32_at s (i + 20);
}

unfoldable pub counts_bytes : Counts → List ℕ
counts_bytes c = u32_bytes c.width
    ++ (u32_bytes c.height ++ (u32_bytes c.bases ++ (u32_bytes c.boundaries ++ (u32_bytes c.observations ++ u32_bytes c.sources))))

unfoldable pub offsets_at : List ℕ → ℕ → Offsets
offsets_at s i = record {
  cells = u32_at s i;
  bases = u32_at s (i + 4);
  boundaries = u32_at s (i + 8);
  observations = u32_at s (i + 12);
  sources = u32_at s (i + 16);
  total = u32_at s (i + 20);
}

unfoldable pub offsets_bytes : Offsets → List ℕ
offsets_bytes o = u32_bytes o.cells
    ++ (u32_bytes o.bases ++ (u32_bytes o.boundaries ++ (u32_bytes o.observations ++ (u32_bytes o.sources ++ u32_bytes o.total))))

unfoldable pub header_at : List ℕ → Header
unfolding counts_at offsets_at
header_at s = record { counts = counts_at s 0; offsets = offsets_at s counts_size }

abbrev pub map_cells : Counts → ℕ
map_cells c = c.width * c.height

-- What the counts give.
abbrev pub bases_start : Counts → ℕ
bases_start c = header_size + map_cells c

abbrev pub boundaries_start : Counts → ℕ
boundaries_start c = bases_start c + c.bases * base_size

abbrev pub observations_start : Counts → ℕ
observations_start c = boundaries_start c + c.boundaries * boundary_size

abbrev pub sources_start : Counts → ℕ
sources_start c = observations_start c + c.observations * observation_size

abbrev pub total_length : Counts → ℕ
total_length c = sources_start c + c.sources * source_size

unfoldable pub offsets_of : Counts → Offsets
offsets_of c = record {
  cells = header_size;
  bases = bases_start c;
  boundaries = boundaries_start c;
  observations = observations_start c;
  sources = sources_start c;
  total = total_length c;
}
