-- Demand 3 about the bytes that the calls leave. "Reduce and Reduce by list write just these bytes, whichever of the two listings they are
-- given and whichever list of merges is taken".
use Rattle.std.specs.Prelude.{◌≡◌, List, [], ◌∷◌, ℕ, ◌≤◌, length, take}
use Rattle.std.proofs.Math.Option.{none}
use Rattle.position.specs.declared.Span.{Span}
use Rattle.format.specs.Values.{Boundary, Job}
use Rattle.format.specs.Decode.{decode, decode_list}
use Rattle.areas.specs.Assessments.{records}
use Rattle.thresholds.specs.Block.{limits_in, thresholds_check}
use Rattle.checks.specs.Checks.{Check, first_refusal}
use Rattle.checks_calls.specs.Refusals.{reduce_checks, by_list_checks}
use Rattle.order.specs.Pairs.{Pairs}
use Rattle.serial_merging.specs.Groups.{Group, Groups, Disjoint, all_groups}
use Rattle.serial_merging.specs.Runs.{Run, Matched, groups_of}
use Rattle.serial_merging.specs.Relisted.{Relisted}
use Rattle.serial_merging.specs.Merging.{MergeList, finish}
use Rattle.serial_merging.specs.Demand.{MergesOn, Independent}
use Rattle.results.specs.Rules.{grid_of, rules_of}
use Rattle.results.specs.Results.{Outcome, work_size, max_pairs, own_ends, answer_of, reduced}

-- A call with its input: a job, or a job and a list.
pub data Call : Type 0 where
  reduce : List ℕ → Call
  reduce_by_list : List ℕ → List ℕ → Call

unfoldable pub job_of : Call → Job
job_of (reduce s) = decode s
job_of (reduce_by_list s l) = decode s

unfoldable pub spans_of : Call → List Span
spans_of (reduce s) = own_ends (decode s)
spans_of (reduce_by_list s l) = decode_list l

-- The checks of the input, those of the job and of the list after that of the thresholds.
unfoldable pub checks_of : List ℕ → Call → List Check
checks_of block (reduce s) = thresholds_check block ∷ reduce_checks s
checks_of block (reduce_by_list s l) = thresholds_check block ∷ by_list_checks s l

unfoldable pub run_of : Call → Run
unfolding job_of spans_of
run_of c = record { boundaries = (job_of c).boundaries; spans = spans_of c }

-- A block of thresholds: "demand 3's two runs having the same block".
module _ (block : List ℕ) (dirs : List ℕ) where
  -- What the call leaves: `reduceWith` or `reduceByListWith`.
  unfoldable pub left : Call → List ℕ → List ℕ → Outcome
  unfolding reduced job_of spans_of checks_of
  left c work answer = reduced (limits_in block) dirs (checks_of block c) (job_of c) (spans_of c) work answer

  -- The call is accepted: none of 32, 1 to 17, 21, 13 and 22 holds.
  pub record Accepted (c : Call) (work answer : List ℕ) : Type 0 where
    pub input : first_refusal (checks_of block c) ≡ none
    pub room : work_size (job_of c) ≤ length work
    pub pairs : length (records dirs (grid_of (job_of c)) (spans_of c)) ≤ max_pairs
    pub fits : length (answer_of (limits_in block) dirs (job_of c) (spans_of c)) ≤ length answer

-- "Same map, same bases": the boundaries may be listed otherwise.
pub record SameMap (a b : Job) : Type 0 where
  pub grid : grid_of a ≡ grid_of b
  pub bases : a.bases ≡ b.bases

module _ (block : List ℕ) (dirs : List ℕ) where
  -- A call that was accepted: the slices that it was lent, and what it left by its contract (`reduce-left`, `by-list-left`).
  pub record Made : Type 0 where
    pub call : Call
    pub work : List ℕ
    pub answer : List ℕ
    pub after : Outcome
    pub promised : after ≡ left block dirs call work answer
    pub accepted : Accepted block dirs call work answer

  -- The bytes that it wrote: "Answers are compared over their total length."
  abbrev pub wrote : Made → List ℕ
  wrote m = take m.after.detail m.after.out

  -- "each group that these rules accept"
  abbrev pub groups_in : Made → Groups
  groups_in m = groups_of (rules_of (limits_in block) dirs (job_of m.call)) (run_of m.call)

  -- Demand 3 of run A and run B, with the sentences of document 01 that it states.
  pub record SameBytes (a b : Made) : Type 0 where
    -- neither is refused, and what each writes is the answer that the rules give
    pub numbers : (a.after.number ≡ 0) × (b.after.number ≡ 0)
    pub ruled : wrote a ≡ answer_of (limits_in block) dirs (job_of a.call) (spans_of a.call)
    -- "Reduce and Reduce by list write just these bytes, whichever of the two listings they are given"
    pub bytes : wrote a ≡ wrote b
    -- "and whichever list of merges is taken: this equality is one claim about the whole list of merges"; "It begins with the job's boundaries in run
    -- B's listing."
    pub finished : (ms : List Group) (after : List Boundary) → MergeList (groups_in b) ms → MergesOn (run_of b.call) ms after → finish after ≡ wrote a
    -- "the sources are counted after each merge besides": these are the fields `came`, `during` and `answered`; `one` and `some` say that a list of
    -- merges exists
    pub merges : Independent (rules_of (limits_in block) dirs (job_of b.call)) (run_of a.call) (run_of b.call)
    -- "no boundary is in two accepted groups"
    pub disjoint : Pairs Disjoint (all_groups (groups_in b))
    -- "where spans and boundaries differ in number, run B has the same spans in any order, and there are no groups"
    pub no-groups : (Matched (run_of b.call) → ⊥) → all_groups (groups_in b) ≡ []
    -- A is a listing of B as well
    pub turned : Relisted (run_of b.call) (run_of a.call)
