-- What writing an answer comes to, and what it needs.
use Rattle.std.specs.Prelude.{◌≡◌, List, map, ℕ, ◌+◌, ◌*◌, ◌≤◌, ◌<◌, length, get_or, replicate}
use Rattle.std.proofs.Math.Option.{none}
use Rattle.wire.specs.Bytes.{splice}
use Rattle.format.specs.Sizes.{boundary_size, source_size}
use Rattle.format.specs.Values.{Boundary}
use Rattle.order.specs.Lists.{up_from}
use Rattle.answer_sources.specs.Laying.{sum_below, elements, seen_count, Apart}
use Rattle.answer_sources.specs.Ranked.{RankRoom}
use Rattle.format.specs.Header.{counts_at, header_at}
use Rattle.format.specs.Decode.{decode, source_records}
use Rattle.serial_merging.specs.Copies.{canon}
use Rattle.serial_merging.specs.Kept.{no_boundary}
use Rattle.serial_merging.specs.Planned.{planned}
use Rattle.format.specs.declared.header.Header.{Header}
use Rattle.checks.specs.Checks.{first_refusal}
use Rattle.checks_calls.specs.Refusals.{job_checks}
use Rattle.answer_sources.specs.Placed.{CopiesPlaced, PlacedInside, boundary_rows, observation_rows}
use Rattle.answer_sources.specs.Standing.{Standing}
use Rattle.answer_sources.specs.Gathered.{PlacesOrder, Gathered}
use Rattle.answer_encoding.specs.Pieces.{pieces, group_piece}

-- The length of the bytes is returned; they stand first if they fit, else nothing is written.
pub record Answered (bytes before after : List ℕ) (r : ℕ) : Type 0 where
  pub long : r ≡ length bytes
  pub written : length bytes ≤ length before → after ≡ splice before 0 bytes
  pub unwritten : length before < length bytes → after ≡ before

-- Some boundaries were gathered, their records are in the job, and all sums are small.
pub record Writable (s : List ℕ) (at from count : ℕ) (kept owns seens owned seen first second third starts counts keys : List ℕ) : Type 0 where
  pub n : ℕ
  pub ks : List Boundary
  pub many : length ks ≡ count
  pub gathered : Gathered s at from n ks kept owns seens owned seen first second third starts counts keys
  pub limit : n ≤ 256
  pub inside : at + n * boundary_size ≤ length s
  pub keys-few : length keys ≤ 4096

-- Where boundaries are read from and written to.
pub record BoundaryRoom (s : List ℕ) (at count : ℕ) (kept : List ℕ) (to : ℕ) (t : List ℕ) : Type 0 where
  pub inside : (k : ℕ) → k < count → at + (get_or kept k 0 + 1) * boundary_size ≤ length s
  pub room : to + count * boundary_size ≤ length t
  pub limit : count ≤ 256

-- Own sources to be written at `to`: n places from a on, each of a source in the job.
pub record OwnPieceRoom (s : List ℕ) (from : ℕ) (owned : List ℕ) (a n to : ℕ) (t : List ℕ) : Type 0 where
  pub limit : a + n ≤ 4096
  pub inside : (i : ℕ) → i < n → from + (get_or owned (a + i) 0 + 1) * source_size ≤ length s
  pub room : to + n * source_size ≤ length t

-- Room for all the sources, which are few, and own ones in the job.
pub record SourceRoom (s : List ℕ) (from count : ℕ) (owns seens owned seen starts counts keys : List ℕ) (to : ℕ) (t : List ℕ) : Type 0 where
  pub limit : count ≤ 256
  pub own-limit : sum_below (elements owns) count ≤ 4096
  pub own-inside : (q : ℕ) → q < sum_below (elements owns) count → from + (get_or owned q 0 + 1) * source_size ≤ length s
  pub seen-limit : sum_below (elements seens) count ≤ 1280
  pub room : to + length (pieces count (group_piece s from owns seens owned seen starts counts keys)) ≤ length t

-- The bytes stand from `at` on and end at r.
pub record RunsWritten (before : List ℕ) (at : ℕ) (bytes after : List ℕ) (r : ℕ) : Type 0 where
  pub wrote : after ≡ splice before at bytes
  pub end : r ≡ at + length bytes

-- Room for what is worked out by place of n boundaries, m observations and `count` sources.
pub record WorkRoom (n m count : ℕ) (firsts first second third starts counts keys : List ℕ) : Type 0 where
  pub keys-room : count ≤ length keys
  pub keys-few : length keys ≤ 4096
  pub firsts-room : n ≤ length firsts
  pub starts-room : m + n ≤ length starts
  pub counts-room : m + n ≤ length counts
  pub clear : Apart starts counts 0
  pub ranks : RankRoom first second third (m + n)

-- That room for the job of a header.
abbrev pub RoomFor : Header → (firsts first second third starts counts keys : List ℕ) → Type 0
RoomFor h = WorkRoom h.counts.boundaries h.counts.observations h.counts.sources

-- What is worked out by place of a job: n boundaries from `at`, m observations from `ats` and `count` sources from `from`.
pub record WorkedOut (s : List ℕ) (at n ats m from count : ℕ) (order plan stands firsts first second third starts counts keys : List ℕ) : Type 0 where
  pub standing : Standing order plan (seen_count s at) n stands
  pub placed : CopiesPlaced (boundary_rows s at) (observation_rows s ats) (source_records s from count) m n stands firsts first second third starts counts keys
  pub inside : PlacedInside (boundary_rows s at) (observation_rows s ats) (source_records s from count) m n count firsts starts
  pub keys-few : length keys ≤ 4096
  pub firsts-room : n ≤ length firsts
  pub starts-room : m + n ≤ length starts

-- This of the job of a header.
abbrev pub WorkedFor : List ℕ → Header → (order plan stands firsts first second third starts counts keys : List ℕ) → Type 0
WorkedFor s h =
    WorkedOut s h.offsets.boundaries h.counts.boundaries h.offsets.observations h.counts.observations h.offsets.sources
    h.counts.sources

-- New arrays to gather n boundaries, m observations and `count` sources in, by so many heads: four for each place.
pub record GatherArrays (n m count heads : ℕ) (links owned seen places : List ℕ) : Type 0 where
  pub most : ℕ
  pub heads-are : heads ≡ 4 * most
  pub most-room : count ≤ most
  pub most-few : most ≤ 4096
  pub links-new : links ≡ replicate (6 * most) 0
  pub owned-new : owned ≡ replicate most 0
  pub seen-room : m + n ≤ length seen
  pub places-room : m + n ≤ length places

-- A job that passes, with its header, and the places of its boundaries by rank.
pub record Answerable (s : List ℕ) (h : Header) (order : List ℕ) : Type 0 where
  pub passed : first_refusal (job_checks s) ≡ none
  pub header : h ≡ header_at s
  pub ordered : PlacesOrder order h.counts.boundaries

-- What a plan keeps of a job's boundaries, canonical and by rank.
abbrev pub kept_of : (s order plan : List ℕ) → List Boundary
kept_of s order plan =
    planned (map (λ i. canon (get_or (decode s).boundaries (get_or order i 0) no_boundary)) (up_from 0 (counts_at s 0).boundaries)) (λ i. get_or plan i 0)
