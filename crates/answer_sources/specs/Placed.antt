-- A job's boundaries by place, and what the arrays hold of them.
use Rattle.std.specs.Prelude.{◌≡◌, List, ℕ, suc, ◌+◌, ◌*◌, ◌≤◌, ◌<◌, length, get_or, drop}
use Rattle.std.proofs.Math.ListN.{take}
use Rattle.lists.specs.Rows.{rows, All}
use Rattle.format.specs.Values.{Observation, Boundary}
use Rattle.format.specs.Sizes.{boundary_size, observation_size, source_size}
use Rattle.format.specs.Records.{boundary_at, observation_at}
use Rattle.format.specs.Decode.{ramp_of}
use Rattle.format.specs.Fits.{SourceFits}
use Rattle.format.specs.declared.records.Source.{Source}
use Rattle.format.specs.declared.records.BoundaryRecord.{BoundaryRecord}
use Rattle.format.specs.declared.records.ObservationRecord.{ObservationRecord}
use Rattle.serial_merging.specs.Copies.{canon, canon_observation}
use Rattle.answer_sources.specs.Packed.{packed, KeyAt}
use Rattle.answer_sources.specs.Laying.{sum_below, first_seen, own_start, own_count, seen_count, cited_count, Countable, PlanRoom}
use Rattle.answer_sources.specs.Ranked.{RankRoom}
use Rattle.answer_sources.specs.Squeezed.{part_of}

module _ (bs : ℕ → BoundaryRecord) (os : ℕ → ObservationRecord) (ss : List Source) where
  abbrev pub own_of : ℕ → ℕ
  own_of b = (bs b).sources

  abbrev pub seen_of : ℕ → ℕ
  seen_of b = (bs b).observations

  abbrev pub cited_of : ℕ → ℕ
  cited_of p = (os p).sources

  -- The observation at place p, after `past` sources of boundaries.
  unfoldable pub observation_from : ℕ → ℕ → Observation
  observation_from past p = record { ends = (os p).ends; bits = (os p).bits; sources = take (cited_of p) (drop (past + sum_below cited_of p) ss) }

  -- The one at place p, which is of boundary b.
  abbrev pub observation_of : ℕ → ℕ → Observation
  observation_of b p = observation_from (sum_below own_of (suc b)) p

  unfoldable pub boundary_of : ℕ → Boundary
  unfolding observation_from rows
  boundary_of b = record {
    ends = (bs b).ends;
    bits = (bs b).bits;
    ramp = ramp_of (bs b).ramp;
    sources = take (own_of b) (drop (own_start own_of seen_of cited_of b) ss);
    observations = rows (seen_of b) (λ k. observation_of b (first_seen seen_of b + k));
  }

-- A boundary as an observation, "with its own sources".
unfoldable pub itself : Boundary → Observation
itself b = record { ends = b.ends; bits = b.bits; sources = b.sources }

-- Place p stands for the observation o.
pub record HoldsObservation (first second third starts counts keys : List ℕ) (p : ℕ) (o : Observation) : Type 0 where
  pub key : KeyAt first second third p o.ends o.bits
  pub run : part_of keys starts counts p ≡ packed o.sources
  pub fits : All SourceFits o.sources

-- The canonical copies of n boundaries: where each one's own sources start among all, each one's observations at their places, and each
-- that stands as an observation at `base` and its place.
pub record CopiesPlaced (bs : ℕ → BoundaryRecord) (os : ℕ → ObservationRecord) (ss : List Source) (base n : ℕ)
    (stands firsts first second third starts counts keys : List ℕ) : Type 0 where
  pub first-there : (b : ℕ) → b < n → get_or firsts b 0 ≡ first_seen (seen_of bs os ss) b
  pub own-start : (b : ℕ) → b < n → get_or starts (base + b) 0 ≡ own_start (own_of bs os ss) (seen_of bs os ss) (cited_of bs os ss) b
  pub own_in : (b : ℕ) → b < n → get_or starts (base + b) 0 + own_of bs os ss b ≤ length ss
  pub itself-there : (b : ℕ) → b < n → get_or stands b 0 ≡ 1
      → HoldsObservation first second third starts counts keys (base + b) (itself (canon (boundary_of bs os ss b)))
  pub seen-there : (b k : ℕ) → b < n → k < seen_of bs os ss b
      → HoldsObservation first second third starts counts keys (first_seen (seen_of bs os ss) b + k)
      (canon_observation (observation_of bs os ss b (first_seen (seen_of bs os ss) b + k)))

-- All own sources are among the first `count`, and the places of observations are below `base`.
pub record PlacedInside (bs : ℕ → BoundaryRecord) (os : ℕ → ObservationRecord) (ss : List Source) (base n count : ℕ) (firsts starts : List ℕ) : Type
    0 where
  pub own_in : (b : ℕ) → b < n → get_or starts (base + b) 0 + own_of bs os ss b ≤ count
  pub own_room : sum_below (own_of bs os ss) n ≤ count
  pub seen-in : (b : ℕ) → b < n → get_or firsts b 0 + seen_of bs os ss b ≤ base
  pub seen-room : sum_below (seen_of bs os ss) n ≤ base

-- A job's three sections, whose counts add up: n boundaries from `at`, m observations from `ats`, count sources from `from`.
pub record JobPlaces (s : List ℕ) (at n ats m from count : ℕ) : Type 0 where
  pub countable : Countable s at n ats m
  pub observations-add : sum_below (seen_count s at) n ≡ m
  pub sources-in : from + count * source_size ≤ length s
  pub sources-add : sum_below (own_count s at) n + sum_below (cited_count s ats) m ≡ count

-- Room for what is worked out of n boundaries, m observations and `count` sources.
pub record PlaceRoom (n m count : ℕ) (keys spare firsts starts counts first second third : List ℕ) : Type 0 where
  pub keys-room : count ≤ length keys
  pub spare-room : count ≤ length spare
  pub plan : PlanRoom m n firsts starts counts
  pub ranks : RankRoom first second third (m + n)

abbrev pub boundary_rows : List ℕ → ℕ → ℕ → BoundaryRecord
boundary_rows s at b = boundary_at s (at + b * boundary_size)

abbrev pub observation_rows : List ℕ → ℕ → ℕ → ObservationRecord
observation_rows s at p = observation_at s (at + p * observation_size)
