-- What an answer is written from: of each kept boundary its record, own sources and observations.
use Rattle.std.specs.Prelude.{◌≡◌, Bool, cond, not, ◌&&◌, ℕ, ◌+◌, ◌*◌, ◌≤◌, ◌<◌, eqb, length, get_or, take}
use mathlib.Core.List.{List, [], ◌∷◌, map, Permᴰ}
use Rattle.order.specs.Lists.{up_from}
use Rattle.order.specs.Keys.{sort_by}
use Rattle.position.specs.Order.{canonical}
use Rattle.format.specs.Values.{Observation, Boundary}
use Rattle.format.specs.Sizes.{source_size}
use Rattle.format.specs.Decode.{ramp_of}
use Rattle.format.specs.Encode.{observations_of}
use Rattle.format.specs.declared.records.Source.{Source}
use Rattle.format.specs.declared.records.BoundaryRecord.{BoundaryRecord}
use Rattle.format.specs.declared.records.ObservationRecord.{ObservationRecord}
use Rattle.serial_merging.specs.Copies.{canon}
use Rattle.serial_merging.specs.Kept.{no_boundary}
use Rattle.serial_merging.specs.Planned.{planned}
use Rattle.serial_merging.specs.Keys.{source_key}
use Rattle.serial_merging.specs.Sources.{own_sources}
use Rattle.answer_sorting.specs.Parts.{placed_sources}
use Rattle.answer_sources.specs.Laying.{sum_below, elements}
use Rattle.answer_sources.specs.Placed.{boundary_of, boundary_rows, HoldsObservation}

-- What `get_or` gives past the last observation.
abbrev pub no_observation : Observation
no_observation = record { ends = record { a = record { x = 0; y = 0 }; b = record { x = 0; y = 0 } }; bits = 0; sources = [] }

-- The places of n boundaries by rank: each place once.
abbrev pub PlacesOrder : List ℕ → ℕ → Type 0
PlacesOrder order n = Permᴰ (up_from 0 n) (map (λ i. get_or order i 0) (up_from 0 n))

-- The canonical copies of boundaries by rank, and what a plan keeps of them.
module _ (bs : ℕ → BoundaryRecord) (os : ℕ → ObservationRecord) (ss : List Source) where
  abbrev pub copies_by : List ℕ → ℕ → List Boundary
  copies_by order n = map (λ i. canon (boundary_of bs os ss (get_or order i 0))) (up_from 0 n)

  abbrev pub kept_by : List ℕ → List ℕ → ℕ → List Boundary
  kept_by order plan n = planned (copies_by order n) (λ i. get_or plan i 0)

-- The places of what the boundary at place b observed: itself, at `base` and b, where it observed nothing and isn't alone.
unfoldable pub places_from : (base : ℕ) (firsts : List ℕ) (seen : ℕ → ℕ) → Bool → ℕ → List ℕ
unfolding up_from
places_from base firsts seen alone b = cond (eqb (seen b) 0 && not alone) ((base + b) ∷ []) (up_from (get_or firsts b 0) (seen b))

-- Places that stand for observations.
pub record PlacesStand (first second third starts counts keys places : List ℕ) (l : List Observation) : Type 0 where
  pub many : length places ≡ length l
  pub each : (q : ℕ) → q < length l → HoldsObservation first second third starts counts keys (get_or places q 0) (get_or l q no_observation)

-- The kept boundaries: the place of each one's record, how many own sources and observations each has, the places of all own sources
-- among the job's from `from` on, and the places of all observations, both in the boundaries' order. A boundary's own sources are
-- each once at their places, and in order once they are sorted.
pub record Gathered (s : List ℕ) (at from n : ℕ) (ks : List Boundary) (kept owns seens owned seen first second third starts counts keys : List ℕ) : Type
    0 where
  pub few : length ks ≤ n
  pub place_in : (k : ℕ) → k < length ks → get_or kept k 0 < n
  pub ends-are : (k : ℕ) → k < length ks → (get_or ks k no_boundary).ends ≡ canonical (boundary_rows s at (get_or kept k 0)).ends
  pub bits_are : (k : ℕ) → k < length ks → (get_or ks k no_boundary).bits ≡ (boundary_rows s at (get_or kept k 0)).bits
  pub ramp-is : (k : ℕ) → k < length ks → (get_or ks k no_boundary).ramp ≡ ramp_of (boundary_rows s at (get_or kept k 0)).ramp
  pub own-count : (k : ℕ) → k < length ks → get_or owns k 0 ≡ length (get_or ks k no_boundary).sources
  pub seen-count : (k : ℕ) → k < length ks → get_or seens k 0 ≡ length (get_or ks k no_boundary).observations
  pub own_room : length (own_sources ks) ≤ 4096
  pub own-there : (k : ℕ) → k < length ks
      → sort_by source_key (placed_sources s from owned (sum_below (elements owns) k) (get_or owns k 0)) ≡ (get_or ks k no_boundary).sources
  pub own-inside : (q : ℕ) → q < length (own_sources ks) → from + (get_or owned q 0 + 1) * source_size ≤ length s
  pub seen-room : length (observations_of ks) ≤ 1280
  pub seen-there : PlacesStand first second third starts counts keys (take (length (observations_of ks)) seen) (observations_of ks)
