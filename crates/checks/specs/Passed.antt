-- What holds of a job's header and layout once refusals 1 to 5 are past.
use Rattle.std.specs.Prelude.{◌≡◌, ℕ, ◌+◌, ◌*◌, ◌≤◌, List, length}
use Rattle.format.specs.Sizes.{header_size, base_size, boundary_size, observation_size, source_size}
use Rattle.format.specs.Header.{map_cells, bases_start, boundaries_start, observations_start, sources_start, offsets_of, total_length}
use Rattle.format.specs.declared.header.Header.{Header}
use Rattle.format.specs.Fits.{CountsAllowed}

-- The header's words are those of a job of this length.
pub record Laid (s : List ℕ) (h : Header) : Type 0 where
  pub within : CountsAllowed h.counts
  pub offsets-right : h.offsets ≡ offsets_of h.counts
  pub whole : length s ≡ total_length h.counts

-- Where a job's sections stand, each of them within the job.
pub record Sections (s : List ℕ) (h : Header) : Type 0 where
  pub bases-at : h.offsets.bases ≡ bases_start h.counts
  pub boundaries-at : h.offsets.boundaries ≡ boundaries_start h.counts
  pub observations-at : h.offsets.observations ≡ observations_start h.counts
  pub sources-at : h.offsets.sources ≡ sources_start h.counts
  pub cells_in : header_size + map_cells h.counts ≤ length s
  pub bases-in : h.offsets.bases + h.counts.bases * base_size ≤ length s
  pub boundaries-in : h.offsets.boundaries + h.counts.boundaries * boundary_size ≤ length s
  pub observations-in : h.offsets.observations + h.counts.observations * observation_size ≤ length s
  pub sources-in : h.offsets.sources + h.counts.sources * source_size ≤ length s
