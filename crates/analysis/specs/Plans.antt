-- What Reduce and Reduce by list plan: a job's boundaries by rank, and the rank that each rank goes into.
use Rattle.std.specs.Prelude.{◌≡◌, Bool, true, cond, ℕ, ◌≤◌, ◌<◌, eqb, length, get_or}
use mathlib.Core.List.{List, map, Memᴰ}
use Rattle.std.proofs.Math.Option.{none}
use Rattle.order.specs.Lists.{up_from}
use Rattle.wire.specs.Bytes.{AreBytes}
use Rattle.position.specs.Order.{canonical}
use Rattle.position.specs.declared.Span.{Span}
use Rattle.format.specs.Values.{Job}
use Rattle.format.specs.Sizes.{boundary_size}
use Rattle.format.specs.Header.{header_at, counts_at, boundaries_start}
use Rattle.format.specs.Decode.{decode}
use Rattle.format.specs.Encode.{encode_answer}
use Rattle.format.specs.declared.header.Header.{Header}
use Rattle.grid.specs.Directions.{IsDirection, directions_of}
use Rattle.areas.specs.Assessments.{records}
use Rattle.areas.specs.Spans.{span_in}
use Rattle.areas.specs.Words.{labels_in, labelled}
use Rattle.context.specs.Anchors.{anchors_of}
use Rattle.serial_links.specs.Limits.{Limits}
use Rattle.serial_groups.specs.Listing.{no_span}
use Rattle.serial_groups.specs.Regions.{region_labels}
use Rattle.serial_groups.specs.Plan.{merge_plan}
use Rattle.serial_groups.specs.Tables.{Counted, Paired, Bridged}
use Rattle.serial_merging.specs.Copies.{canon}
use Rattle.serial_merging.specs.Follows.{places_of}
use Rattle.serial_merging.specs.Kept.{no_boundary}
use Rattle.serial_merging.specs.Planned.{planned}
use Rattle.serial_measures.specs.Tables.{Labels}
use Rattle.serial_ranks.specs.Tables.{Identity, SpansOf, WidthsOf, RampsOf}
use Rattle.checks.specs.Checks.{Check, first_refusal}
use Rattle.checks_calls.specs.Refusals.{boundary_checks}
use Rattle.results.specs.Rules.{grid_of, listing_of}
use Rattle.analysis.specs.Bridging.{PartedWithin}
use Rattle.results.specs.Results.{work_size, max_pairs, labels_of, reduced, left_by}

-- the rank that a rank goes into: itself where spans and boundaries differ in number
unfoldable pub plan_of : Limits → List ℕ → Job → List Span → ℕ → ℕ
unfolding merge_plan
plan_of limits dirs j ss i = cond (eqb (length j.boundaries) (length ss)) (merge_plan limits dirs (grid_of j) (anchors_of j.bases) (listing_of j ss) i) i

-- each of the set's members is a direction
abbrev pub Leads : ℕ → Type 0
Leads directions = (d : ℕ) → Memᴰ d (directions_of directions) → IsDirection d

-- the places of a job's boundaries by rank
abbrev pub RankedBy : Job → List ℕ → Type 0
RankedBy j order = (i : ℕ) → i < length j.boundaries → get_or order i 0 ≡ get_or (places_of j.boundaries) i 0

-- the bytes of a job past 1 to 11, or 1 to 12, and its header
pub record Headed (s : List ℕ) (h : Header) : Type 0 where
  pub distinct : Bool
  pub bytes : AreBytes s
  pub passed : first_refusal (boundary_checks distinct s) ≡ none
  pub header : h ≡ header_at s

-- one past 1 to 12, and ten bytes of work a cell
pub record OwnJob (s : List ℕ) (h : Header) (work : List ℕ) : Type 0 where
  pub headed : Headed s h
  pub apart : headed.distinct ≡ true
  pub room : work_size (decode s) ≤ length work

-- its boundaries' own ends in their own order, the earlier end first
pub record OwnEnds (s ends : List ℕ) : Type 0 where
  pub order : List ℕ
  pub identity : Identity order
  pub spans : SpansOf s (boundaries_start (counts_at s 0)) boundary_size order (counts_at s 0).boundaries ends

-- with its boundaries by rank
pub record RankedJob (s : List ℕ) (h : Header) (order : List ℕ) : Type 0 where
  pub headed : Headed s h
  pub ranks : RankedBy (decode s) order

-- ends, widths and ramps of its boundaries by rank, in arrays
pub record RankTables (s order own bits ramps : List ℕ) : Type 0 where
  pub ends : SpansOf s (boundaries_start (counts_at s 0)) boundary_size order (counts_at s 0).boundaries own
  pub widths : WidthsOf s (boundaries_start (counts_at s 0)) order (counts_at s 0).boundaries bits
  pub ramp-ends : RampsOf s (boundaries_start (counts_at s 0)) order (counts_at s 0).boundaries ramps

-- and ten bytes of work a cell
pub record Plannable (s : List ℕ) (h : Header) (order work : List ℕ) : Type 0 where
  pub job : RankedJob s h order
  pub room : work_size (decode s) ≤ length work

-- an array of as many spans as boundaries, by rank
pub record EndsBy (s order ends : List ℕ) (ss : List Span) : Type 0 where
  pub matched : length (decode s).boundaries ≡ length ss
  pub each : (i : ℕ) → i < (counts_at s 0).boundaries → span_in ends i ≡ canonical (get_or ss (get_or order i 0) no_span)

pub record SomeEnds (s order ends : List ℕ) : Type 0 where
  pub spans : List Span
  pub are : EndsBy s order ends spans

-- what a partition by the spans and its bridges say of the listing
pub record PartitionTables (dirs : List ℕ) (s work removed separated owners lefts rights : List ℕ) (pairs : ℕ) (marks : List ℕ) (ss : List Span) : Type 0 where
  pub matched : length (decode s).boundaries ≡ length ss
  pub labels-are : labels_in work (length (decode s).cells) ≡ region_labels dirs (grid_of (decode s)) (listing_of (decode s) ss)
  pub counted : Counted dirs (grid_of (decode s)) (listing_of (decode s) ss) removed separated
  pub paired : Paired dirs (grid_of (decode s)) (listing_of (decode s) ss) owners lefts rights pairs
  pub bridged : Bridged dirs (grid_of (decode s)) (listing_of (decode s) ss) marks
  pub labels : Labels work (length (decode s).cells)

pub record SomeTold (s work removed separated owners lefts rights : List ℕ) (pairs : ℕ) (marks : List ℕ) : Type 0 where
  pub dirs : List ℕ
  pub spans : List Span
  pub are : PartitionTables dirs s work removed separated owners lefts rights pairs marks spans

-- a job partitioned by the spans with room for `most` region pairs: the work, their number (one more than `most` where they are over it), and the tables
abbrev pub TabledWithin : List ℕ → ℕ → List ℕ → List Span → List ℕ → List ℕ → List ℕ → List ℕ → List ℕ → List ℕ → List ℕ → List ℕ → ℕ → Type 0
TabledWithin dirs most s ss before work removed separated owners lefts rights marks pairs =
    PartedWithin most (labels_of dirs (decode s) ss) (records dirs (grid_of (decode s)) ss)
    (PartitionTables dirs s work removed separated owners lefts rights pairs marks ss) before work pairs

-- the same, with the plan in place of the tables
abbrev pub DrawnWithin : Limits → List ℕ → ℕ → Job → List Span → List ℕ → List ℕ → List ℕ → ℕ → Type 0
DrawnWithin limits dirs most j ss before work plan pairs =
    PartedWithin most (labels_of dirs j ss) (records dirs (grid_of j) ss) ((i : ℕ) → i < length j.boundaries → get_or plan i 0 ≡ plan_of limits dirs j ss i)
    before work pairs

-- with room for as many as a call takes: 4,097 stands for over 4,096
abbrev pub Drawn : Limits → List ℕ → Job → List Span → List ℕ → List ℕ → List ℕ → ℕ → Type 0
Drawn limits dirs j ss before work plan pairs = DrawnWithin limits dirs max_pairs j ss before work plan pairs

-- a call's plan, once it is past 13
pub record Made (limits : Limits) (dirs : List ℕ) (checks : List Check) (j : Job) (ss : List Span) (before work order plan : List ℕ) (detail : ℕ) : Type 0 where
  pub passed : first_refusal checks ≡ none
  pub room : work_size j ≤ length before
  pub few : length (records dirs (grid_of j) ss) ≤ max_pairs
  pub nothing : detail ≡ 0
  pub work-is : work ≡ labelled (labels_of dirs j ss) before
  pub ranks : RankedBy j order
  pub plan-is : (i : ℕ) → i < length j.boundaries → get_or plan i 0 ≡ plan_of limits dirs j ss i

-- number 0 with the plan, or the number and detail of the refusal that the call leaves whatever its answer slice is; the work is settled in either case.
-- Nothing is said of order and plan past the last boundary, nor after a refusal
pub record PlanLeft (limits : Limits) (dirs : List ℕ) (checks : List Check) (j : Job) (ss : List Span) (before work order plan : List ℕ)
    (number detail : ℕ) : Type 0 where
  pub refused : 0 < number → (answer : List ℕ) → left_by number detail work answer ≡ reduced limits dirs checks j ss before answer
  pub made : number ≡ 0 → Made limits dirs checks j ss before work order plan detail

-- the answer of a job by its boundaries' order and a plan
abbrev pub answer_bytes : List ℕ → List ℕ → List ℕ → List ℕ
answer_bytes s order plan =
    encode_answer (planned (map (λ i. canon (get_or (decode s).boundaries (get_or order i 0) no_boundary)) (up_from 0 (counts_at s 0).boundaries))
    (λ i. get_or plan i 0))
