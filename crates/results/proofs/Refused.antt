-- Cases 9 and 10 hold: what the checks refuse, every call refuses, and nothing is written.
use mathlib.Core.Path.{◌≡◌, refl, ◌∙◌, ap}
use mathlib.Core.Bool.{Bool, true, false, cond}
use mathlib.Core.List.{List, [], ◌∷◌, ◌++◌, flat_map}
use mathlib.Core.Option.{Option, none, some}
use Prim.Native.Nat.{ℕ, ◌<◌}
use native.Mathlib.Omega.{arith}
use lib.Dec.{lit≤, eqb}
use lib.ListN.{length}
use Rattle.lists.specs.Rows.{All, none as All-none, more}
use Rattle.lists.proofs.Each.{all_append}
use Rattle.order.proofs.Bools.{clash}
use Rattle.wire.specs.Bytes.{words, number_at, bytes}
use Rattle.format.specs.Records.{boundary_at}
use Rattle.format.specs.Header.{header_at, offsets_of}
use Rattle.format.specs.Values.{Job}
use Rattle.format.specs.Corridor.{upright}
use Rattle.format.specs.Decode.{decode, decode_list, boundary_records, observation_records, source_count}
use Rattle.grid.specs.Directions.{eight}
use Rattle.position.specs.declared.Span.{Span}
use Rattle.checks.specs.Numbers.{too_many_boundaries, bad_layout, answer_too_short, slice_too_short}
use Rattle.checks.specs.Checks.{Refusal, Check, first_refusal, each}
use Rattle.checks.specs.Single.{header_checks, cell_check, sums_fault, ramp_check}
use Rattle.checks.proofs.Firsts.{never, same-refusal, append-some}
use Rattle.checks_calls.specs.Refusals.{reduce_checks, mark_checks, by_list_checks, job_checks, layout_checks}
use Rattle.checks_calls.specs.Cases.{up_to_ramps, FirstWidth, PassesThree, bits_at}
use Rattle.checks_calls.proofs.Cases.{AllRefuse, Without, at, width-refused, count-refused, count-passes, all-refuse}
use Rattle.thresholds.specs.Block.{limits_in, thresholds_check}
use Rattle.results.specs.Results.{work_check, room_check, marks_check, own_ends, labels_of, pair_check, marks_of, mark_with, after_work, outcome, answer_of}
use Rattle.results.specs.Results.{writing, cards_of, cards_with, reduced, reduce_with, reduce_by_list_with}
use Rattle.results.specs.Calls.{reduce_result, reduce_by_list_result, mark_result, cards_result}
use Rattle.results.proofs.Thresholds.{admitted-checks}
use Rattle.results.specs.Cases.{negative, negative_zero, counted, AllCallsRefuse, NoCallGives, NegativeZeroCase, CountCase}

-- What the checks of every call give, the calls give, before anything is written.
calls-refuse : (s : List ℕ) (r : Refusal) → AllRefuse s r → AllCallsRefuse s r.number r.detail
unfolding reduce_result reduce_by_list_result mark_result cards_result reduce_with reduce_by_list_with mark_with cards_with reduced writing outcome
calls-refuse s r a = record {
  reduce = λ block work answer h. rw (append-some _ _ _ (admitted-checks block (reduce_checks s) h ∙ a.reduce));
  by-list = λ list block work answer h. rw (append-some _ _ _ (admitted-checks block (by_list_checks s list) h ∙ a.by-list list));
  mark = λ work marks. rw (append-some _ _ _ a.mark);
  cards = λ work cards. rw (append-some _ _ _ a.reduce);
}

-- The refusal that is found is of a check that holds.
found-without : (n : ℕ) {cs : List Check} {r : Refusal} → All (Without n) cs → first_refusal cs ≡ some r → r.number ≡ n → ⊥
unfolding first_refusal
found-without n All-none e f = never e
found-without n {r = r} (more {x = c} {xs = cs} p h) e f = go c.holds p (found-without n h) e
  where
    go : (t : Bool) → (c.refusal.number ≡ n → t ≡ false) → (first_refusal cs ≡ some r → r.number ≡ n → ⊥)
        → cond t (some c.refusal) (first_refusal cs) ≡ some r → ⊥
    go true q ih g = clash refl (q (ap (λ (x : Refusal). x.number) (same-refusal g) ∙ f))
    go false q ih g = ih g f

-- So a call whose checks of a number never hold does not give that number, unless it is success.
module _ (n : ℕ) (Some-number : 0 < n) (work labels out written : List ℕ) (success : ℕ) (earlier later : List Check)
    (es : All (Without n) earlier) (ls : All (Without n) later) where
  after-without : (b : Option Refusal) → first_refusal later ≡ b → (after_work work labels out written success b).number ≡ n → ⊥
  unfolding after_work
  after-without none e f = omega arith
  after-without (some r) e f = found-without n ls e f

  outcome-without : (a : Option Refusal) → first_refusal earlier ≡ a → (outcome work labels out written success later a).number ≡ n → ⊥
  unfolding outcome
  outcome-without none e f = after-without (first_refusal later) refl f
  outcome-without (some r) e f = found-without n es e f

-- Up to 256 boundaries: a call does not give 4.
writing-without : (dirs : List ℕ) (short : ℕ) (bytes : List ℕ) (checks : List Check) (j : Job) (ss : List Span) (work out : List ℕ)
    → eqb short too_many_boundaries ≡ false → All (Without too_many_boundaries) checks
    → (writing dirs short bytes checks j ss work out).number ≡ too_many_boundaries → ⊥
unfolding writing
writing-without dirs short bytes checks j ss work out n h =
    let later : List Check = pair_check dirs j ss ∷ room_check short bytes out ∷ [] in
    outcome-without too_many_boundaries (omega arith) work (labels_of dirs j ss) out bytes (length bytes) (checks ++ (work_check j work ∷ [])) later
    (all_append h (at refl All-none)) (at refl (at n All-none)) (first_refusal (checks ++ (work_check j work ∷ []))) refl

mark-without : (dirs s work marks : List ℕ) → All (Without too_many_boundaries) (mark_checks s) → (mark_with dirs s work marks).number ≡ too_many_boundaries → ⊥
unfolding mark_with
mark-without dirs s work marks h =
    let j = decode s in
    let later : List Check = pair_check dirs j (own_ends j) ∷ marks_check j marks ∷ [] in
    let earlier : List Check = mark_checks s ++ (work_check j work ∷ []) in
    outcome-without too_many_boundaries (omega arith) work (labels_of dirs j (own_ends j)) marks (marks_of dirs j) (length j.boundaries) earlier later
    (all_append h (at refl All-none)) (at refl (at refl All-none)) (first_refusal earlier) refl

count-calls : (s : List ℕ) → (header_at s).counts.boundaries ≡ 256 → NoCallGives s too_many_boundaries
unfolding reduce_result reduce_by_list_result mark_result cards_result reduce_with reduce_by_list_with reduced cards_with
count-calls s e =
    let a = count-passes s (omega arith) in
    let j = decode s in
    let ends = own_ends j in
    record {
      reduce = λ block work answer.
          writing-without eight answer_too_short (answer_of (limits_in block) eight j ends) (thresholds_check block ∷ reduce_checks s) j ends work answer refl
          (at refl a.reduce);
      by-list = λ list block work answer.
          writing-without eight answer_too_short (answer_of (limits_in block) eight j (decode_list list)) (thresholds_check block ∷ by_list_checks s list) j
          (decode_list list) work answer refl (at refl (a.by-list list));
      mark = λ work marks. mark-without eight s work marks a.mark;
      cards = λ work cards. writing-without eight slice_too_short (cards_of eight j) (reduce_checks s) j ends work cards refl a.reduce;
    }

-- The jobs that show them.
one : (i : ℕ) → i < 1 → i ≡ 0
one i h = omega arith

negative-laid : first_refusal (layout_checks negative) ≡ none
unfolding negative upright words layout_checks header_checks first_refusal header_at offsets_of number_at bytes
negative-laid = refl

negative-before : first_refusal (up_to_ramps negative (header_at negative).counts) ≡ none
unfolding negative upright each cell_check sums_fault ramp_check first_refusal header_at boundary_at number_at bytes boundary_records observation_records
    source_count
negative-before = refl

negative-first : FirstWidth negative 1
unfolding negative upright words header_at boundary_at number_at bytes
negative-first = record { laid = negative-laid; before = negative-before; there = omega arith; right = λ i h. rw (one i h) refl }

negative-bits : bits_at negative (header_at negative).counts 1 ≡ negative_zero
unfolding negative upright words header_at boundary_at number_at bytes
negative-bits = refl

pub negative-zero-case : NegativeZeroCase
negative-zero-case = record {
  refused = λ s k w e. calls-refuse s _ (width-refused s k w e);
  first = negative-first;
  shown = calls-refuse negative _ (width-refused negative 1 negative-first negative-bits);
}

over-three : PassesThree (counted 257)
unfolding counted words header_at number_at bytes flat_map
over-three = record { whole = lit≤ tt; sides = refl; counts = refl }

over-count : (header_at (counted 257)).counts.boundaries ≡ 257
unfolding counted words header_at number_at bytes flat_map
over-count = refl

just-refused : first_refusal (job_checks (counted 256)) ≡ some (record { number = bad_layout; detail = 0 })
unfolding job_checks counted words layout_checks header_checks first_refusal header_at offsets_of number_at bytes flat_map
just-refused = refl

pub count-case : CountCase
count-case = record {
  refused = λ s p e. calls-refuse s _ (count-refused s p e);
  passed = count-calls;
  three = over-three;
  shown = calls-refuse (counted 257) _ (count-refused (counted 257) over-three over-count);
  shown-passed = calls-refuse (counted 256) _ (all-refuse (counted 256) _ just-refused);
}
