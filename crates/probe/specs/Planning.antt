-- What the driver's plan function leaves.
use Rattle.std.specs.Prelude.{◌≡◌, cond, List, ℕ, ◌*◌, ◌≤◌, ◌<◌, eqb, length, get_or, drop}
use Rattle.std.proofs.Math.Option.{none}
use Rattle.areas.specs.Words.{labelled}
use Rattle.wire.specs.Bytes.{part, u32_bytes}
use Rattle.position.specs.declared.Span.{Span}
use Rattle.format.specs.Values.{Job}
use Rattle.format.specs.Sizes.{header_size}
use Rattle.format.specs.Header.{counts_at}
use Rattle.format.specs.Decode.{decode, decode_list}
use Rattle.areas.specs.Assessments.{records}
use Rattle.serial_links.specs.Limits.{Limits}
use Rattle.serial_merging.specs.Follows.{places_of}
use Rattle.checks.specs.Numbers.{answer_too_short}
use Rattle.checks.specs.Checks.{Check, first_refusal}
use Rattle.checks_calls.specs.Refusals.{reduce_checks, by_list_checks}
use Rattle.results.specs.Rules.{grid_of}
use Rattle.results.specs.Results.{work_size, max_pairs, labels_of, reduced, left_by, own_ends}
use Rattle.analysis.specs.Plans.{plan_of}

-- the checks and the spans of Reduce for 0, those of Reduce by list for any other number
unfoldable pub probe_checks : ℕ → List ℕ → List ℕ → List Check
probe_checks which s l = cond (eqb which 0) (reduce_checks s) (by_list_checks s l)

unfoldable pub probe_spans : ℕ → List ℕ → List ℕ → List Span
probe_spans which s l = cond (eqb which 0) (own_ends (decode s)) (decode_list l)

-- how many boundaries a job has, where its header can be read and they are no more than 256
pub record CountOf (s : List ℕ) (r : ℕ) : Type 0 where
  pub few : r ≤ 256
  pub is : header_size ≤ length s → (counts_at s 0).boundaries ≤ 256 → r ≡ (counts_at s 0).boundaries

-- n different numbers below n stand first
pub record PermutationOf (order : List ℕ) (n : ℕ) : Type 0 where
  pub below : (i : ℕ) → i < n → get_or order i 0 < n
  pub apart : (i j : ℕ) → i < j → j < n → get_or order i 0 ≡ get_or order j 0 → ⊥

-- the first n are below n
pub record PlanInside (plan : List ℕ) (n : ℕ) : Type 0 where
  pub below : (i : ℕ) → i < n → get_or plan i 0 < n

-- the word of each of the first k is what `goes` says of it; what follows n words is as it was
pub record Words (order : List ℕ) (goes : ℕ → ℕ) (n k : ℕ) (out out_end : List ℕ) : Type 0 where
  pub each : (i : ℕ) → i < k → part out_end (4 * get_or order i 0) 4 ≡ u32_bytes (goes i)
  pub rest : drop (4 * n) out_end ≡ drop (4 * n) out
  pub long : length out_end ≡ length out

-- the place in the input of a rank
abbrev pub place_at : Job → ℕ → ℕ
place_at j i = get_or (places_of j.boundaries) i 0

pub record RankOf (j : Job) (place : ℕ) : Type 0 where
  pub rank : ℕ
  pub below : rank < length j.boundaries
  pub is : place_at j rank ≡ place

-- little-endian words, one a boundary in the input's order: the place of the boundary that it goes into. Each place is that of a rank, so every word is settled
pub record PlanWords (limits : Limits) (dirs : List ℕ) (j : Job) (ss : List Span) (out out_end : List ℕ) : Type 0 where
  pub words : Words (places_of j.boundaries) (λ i. place_at j (plan_of limits dirs j ss i)) (length j.boundaries) (length j.boundaries) out out_end
  pub all : (place : ℕ) → place < length j.boundaries → RankOf j place

-- a job past the checks, 21 and 13, and its labels
pub record Parting (dirs : List ℕ) (checks : List Check) (j : Job) (ss : List Span) (work work_end : List ℕ) : Type 0 where
  pub passed : first_refusal checks ≡ none
  pub room : work_size j ≤ length work
  pub few : length (records dirs (grid_of j) ss) ≤ max_pairs
  pub work-is : work_end ≡ labelled (labels_of dirs j ss) work

-- the refusal that the call leaves whatever its answer slice is; an out that is too short, with the bytes that it should have; or the plan
pub data PlanAnswer (limits : Limits) (dirs : List ℕ) (checks : List Check) (j : Job) (ss : List Span) (work out work_end out_end : List ℕ) (number detail : ℕ)
    : Type 0 where
  refused : 0 < number → ((answer : List ℕ) → left_by number detail work_end answer ≡ reduced limits dirs checks j ss work answer) → out_end ≡ out
      → PlanAnswer limits dirs checks j ss work out work_end out_end number detail
  short : Parting dirs checks j ss work work_end → length out < 4 * length j.boundaries → number ≡ answer_too_short
      → detail ≡ 4 * length j.boundaries → out_end ≡ out → PlanAnswer limits dirs checks j ss work out work_end out_end number detail
  planned : Parting dirs checks j ss work work_end → 4 * length j.boundaries ≤ length out → number ≡ 0 → detail ≡ 4 * length j.boundaries
      → PlanWords limits dirs j ss out out_end
      → PlanAnswer limits dirs checks j ss work out work_end out_end number detail
