-- What the driver's link function tells: what the link of two boundaries measures in a region, by the labels of the cells.
use Rattle.std.specs.Prelude.{◌≡◌, Bool, cond, List, ◌++◌, ℕ, ◌+◌, ◌*◌, ◌≤◌, ◌<◌, Float}
use Rattle.std.specs.Float.{binary64}
use Rattle.std.specs.Float.Ieee.{of_bits, to_bits, eq}
use Rattle.wire.specs.Bytes.{u32_bytes, u64_bytes}
use Rattle.position.specs.Order.{canonical}
use Rattle.format.specs.Sizes.{boundary_size}
use Rattle.format.specs.Header.{counts_at, boundaries_start}
use Rattle.format.specs.Records.{boundary_at}
use Rattle.serial_links.specs.Limits.{Limits}
use Rattle.serial_links.specs.Link.{Side, link_of}
use Rattle.serial_links.specs.Measure.{Measured, empty, within, beyond, measured}
use Rattle.serial_links.specs.Flat.{inside_flat}
use Rattle.context.specs.RegionStats.{region_cells}
use Rattle.context.specs.Held.{one}
use Rattle.probe.specs.Regions.{LabelsReady, cell_labels, Shown}

-- a float's bits; one pattern for a NaN, which is unlike itself
unfoldable pub float_bits : Float → ℕ
float_bits x = cond (eq x x) (to_bits binary64 x) 0x7FF8_0000_0000_0000

-- 0 empty, 1 within, 2 beyond; both envelopes, 0 where there are none
abbrev pub kind_of : Measured → ℕ
kind_of empty = 0
kind_of (within t l) = 1
kind_of (beyond t l) = 2

abbrev pub transverse : Measured → Float
transverse empty = of_bits binary64 0
transverse (within t l) = t
transverse (beyond t l) = t

abbrev pub longitudinal : Measured → Float
longitudinal empty = of_bits binary64 0
longitudinal (within t l) = l
longitudinal (beyond t l) = l

abbrev pub four_bytes : ℕ → ℕ → ℕ → ℕ → List ℕ
four_bytes kind across along inside = u32_bytes kind ++ (u64_bytes across ++ (u64_bytes along ++ u32_bytes inside))

abbrev pub measured_bytes : Measured → Bool → List ℕ
measured_bytes m inside = four_bytes (kind_of m) (float_bits (transverse m)) (float_bits (longitudinal m)) (one inside)

-- what a link sees of the boundary at a place of the input: its ends, the earlier first, and its width
unfoldable pub side_of : List ℕ → ℕ → Side
side_of s i = let b = boundary_at s (boundaries_start (counts_at s 0) + i * boundary_size) in record { span = canonical b.ends; bits = b.bits }

-- the link of the first and the second, measured by the cells that have the label, and whether these stay inside the flat envelope
unfoldable pub link_bytes : Limits → List ℕ → List ℕ → ℕ → ℕ → ℕ → List ℕ
unfolding side_of link_of region_cells measured inside_flat
link_bytes limits s labels region first second =
    let k = link_of (side_of s first) (side_of s second) in
    let cs = region_cells (cell_labels s labels) region in
    measured_bytes (measured limits k (counts_at s 0).width cs) (inside_flat limits k (counts_at s 0).width cs)

-- a place that no boundary has; or what is shown, of two that have one
pub data LinkAnswer (s labels bytes : List ℕ) (first second : ℕ) (out out_end : List ℕ) (number detail : ℕ) : Type 0 where
  first-unknown : LabelsReady s labels 0 0 → (counts_at s 0).boundaries ≤ first → number ≡ 24 → detail ≡ 0 → out_end ≡ out
      → LinkAnswer s labels bytes first second out out_end number detail
  second-unknown : LabelsReady s labels 0 0 → (counts_at s 0).boundaries ≤ second → number ≡ 24 → detail ≡ 0 → out_end ≡ out
      → LinkAnswer s labels bytes first second out out_end number detail
  refused : 0 < number → LabelsReady s labels number detail → out_end ≡ out → LinkAnswer s labels bytes first second out out_end number detail
  known : first < (counts_at s 0).boundaries → second < (counts_at s 0).boundaries → Shown s labels bytes 24 out out_end number detail
      → LinkAnswer s labels bytes first second out out_end number detail
