-- What each call leaves: its result, and work and answer, marks or cards at exit, whole, for every state at entry.
use Rattle.std.proofs.Math.Bool.{cond}
use Rattle.std.specs.Prelude.{List, [], ◌∷◌, ◌++◌, map, ℕ, ◌*◌, ltb, length}
use Rattle.std.proofs.Math.Option.{Option, none, some}
use Rattle.areas.specs.Words.{labelled}
use Rattle.lists.specs.Rows.{rows}
use Rattle.position.specs.declared.Span.{Span}
use Rattle.wire.specs.Bytes.{splice}
use Rattle.format.specs.Values.{Boundary, Job}
use Rattle.format.specs.Decode.{decode, decode_list}
use Rattle.graph.specs.Bridges.{mark_of}
use Rattle.areas.specs.Areas.{area_labels, area_count}
use Rattle.areas.specs.Assessments.{records}
use Rattle.context.specs.Cards.{cards}
use Rattle.serial_links.specs.Limits.{Limits}
use Rattle.thresholds.specs.Block.{limits_in, thresholds_check}
use Rattle.checks.specs.Numbers.{too_many_pairs, work_too_short, answer_too_short, marks_too_short, slice_too_short}
use Rattle.checks.specs.Checks.{Refusal, Check, check, first_refusal}
use Rattle.checks_calls.specs.Refusals.{reduce_checks, mark_checks, by_list_checks}
use Rattle.serial_merging.specs.Runs.{rules_answer}
use Rattle.results.specs.Rules.{grid_of, rules_of}

-- Number 0 is success.
pub record Outcome : Type 0 where
  pub number : ℕ
  pub detail : ℕ
  pub work : List ℕ
  pub out : List ℕ

-- What a call left.
abbrev pub left_by : ℕ → ℕ → List ℕ → List ℕ → Outcome
left_by number detail work out = record { number = number; detail = detail; work = work; out = out }

-- "Work is a lent byte slice: ten bytes per cell."
abbrev pub work_size : Job → ℕ
work_size j = 10 * length j.cells

-- "13 over 4,096 region pairs in all."
abbrev pub max_pairs : ℕ
max_pairs = 4_096

-- Checks before the work is written, checks after it, and what is written where none holds. "Answer and mark bytes then stay
-- unchanged; work too, before 13." "success changes only as many first bytes of the answer slice as its total length says".
module _ (work labels out written : List ℕ) (success : ℕ) where
  unfoldable pub after_work : Option Refusal → Outcome
  unfolding labelled splice
  after_work (some r) = record { number = r.number; detail = r.detail; work = labelled labels work; out = out }
  after_work none = record { number = 0; detail = success; work = labelled labels work; out = splice out 0 written }

  unfoldable pub outcome : List Check → Option Refusal → Outcome
  unfolding after_work first_refusal
  outcome later (some r) = record { number = r.number; detail = r.detail; work = work; out = out }
  outcome later none = after_work (first_refusal later)

-- "21 work under ten bytes per cell."
abbrev pub work_check : Job → List ℕ → Check
work_check j work = check (ltb (length work) (work_size j)) work_too_short 0

-- A slice that is too short for the bytes, by a number of its own: 22 for an answer, 31 for others. "(detail: exact length needed)"
abbrev pub room_check : ℕ → List ℕ → List ℕ → Check
room_check short bytes out = check (ltb (length out) (length bytes)) short (length bytes)

-- "23 fewer mark bytes than boundaries."
abbrev pub marks_check : Job → List ℕ → Check
marks_check j marks = check (ltb (length marks) (length j.boundaries)) marks_too_short 0

-- "*Reduce* takes a job and partitions by its boundaries' own ends."
abbrev pub own_ends : Job → List Span
own_ends j = map (λ (b : Boundary). b.ends) j.boundaries

-- A job and the spans that it is partitioned by: its labels, and "13 over 4,096 region pairs in all".
module _ (dirs : List ℕ) where
  abbrev pub labels_of : Job → List Span → List ℕ
  labels_of j ss = area_labels dirs (grid_of j) ss

  abbrev pub pair_check : Job → List Span → Check
  pair_check j ss = check (ltb max_pairs (length (records dirs (grid_of j) ss))) too_many_pairs 0

  -- A call that writes so many bytes: the checks of the input, then 21; 13, and its own number where the slice is too short, with the exact length
  -- needed; then the bytes, with their length.
  unfoldable pub writing : ℕ → List ℕ → List Check → Job → List Span → List ℕ → List ℕ → Outcome
  unfolding outcome first_refusal
  writing short bytes checks j ss work out =
      outcome work (labels_of j ss) out bytes (length bytes)
      (pair_check j ss ∷ room_check short bytes out ∷ [])
      (first_refusal (checks ++ (work_check j work ∷ [])))

  -- "partitions as Reduce does, and writes for each label in order ten u32"
  unfoldable pub cards_of : Job → List ℕ
  unfolding cards area_count
  cards_of j = cards (grid_of j) (labels_of j (own_ends j)) (area_count dirs (grid_of j) (own_ends j))

  -- "A card slice that is too short is declined with 31, the needed length as detail, in the place of 22."
  unfoldable pub cards_with : List ℕ → List ℕ → List ℕ → Outcome
  unfolding writing cards_of
  cards_with s work out = writing slice_too_short (cards_of (decode s)) (reduce_checks s) (decode s) (own_ends (decode s)) work out

  -- "*Mark* writes one byte per boundary of a job"; request 5: 1 exactly if, "with all records of that boundary taken away, the two regions of at least one
  -- of them are unconnected".
  unfoldable pub marks_of : Job → List ℕ
  unfolding rows mark_of records
  marks_of j = rows (length j.boundaries) (λ b. cond (mark_of (records dirs (grid_of j) (own_ends j)) b) 1 0)

  -- The checks of the input, then 21; 13 and 23; then the marks, with the boundary count.
  unfoldable pub mark_with : List ℕ → List ℕ → List ℕ → Outcome
  unfolding outcome first_refusal marks_of
  mark_with s work marks =
      let j = decode s in
      outcome work (labels_of j (own_ends j)) marks (marks_of j) (length j.boundaries)
      (pair_check j (own_ends j) ∷ marks_check j marks ∷ [])
      (first_refusal (mark_checks s ++ (work_check j work ∷ [])))

module _ (limits : Limits) (dirs : List ℕ) where
  abbrev pub answer_of : Job → List Span → List ℕ
  answer_of j ss = rules_answer (rules_of limits dirs j) (record { boundaries = j.boundaries; spans = ss })

  -- "22 answer slice too short (detail: exact length needed)."
  unfoldable pub reduced : List Check → Job → List Span → List ℕ → List ℕ → Outcome
  unfolding writing
  reduced checks j ss work answer = writing dirs answer_too_short (answer_of j ss) checks j ss work answer

-- Request 4: "Both reduce calls … take the eight fixed numbers from a 64-byte block"; a bad one "is declined with 32, before 1".
module _ (dirs : List ℕ) where
  unfoldable pub reduce_with : List ℕ → List ℕ → List ℕ → List ℕ → Outcome
  unfolding reduced
  reduce_with s block work answer =
      reduced (limits_in block) dirs (thresholds_check block ∷ reduce_checks s) (decode s) (own_ends (decode s)) work answer

  -- "*Reduce by list* takes a job and a list of spans (four u32 each) and partitions by those."
  unfoldable pub reduce_by_list_with : List ℕ → List ℕ → List ℕ → List ℕ → List ℕ → Outcome
  unfolding reduced
  reduce_by_list_with s l block work answer =
      reduced (limits_in block) dirs (thresholds_check block ∷ by_list_checks s l) (decode s) (decode_list l) work answer
