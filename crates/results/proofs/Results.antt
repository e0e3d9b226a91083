-- What the calls leave at each of their returns.
use mathlib.Core.Path.{◌≡◌, sym}
use mathlib.Core.Logic.{by_cases}
use mathlib.Core.List.{List, [], ◌∷◌}
use mathlib.Core.Option.{none}
use Prim.Native.Nat.{ℕ, ◌≤◌, ◌<◌}
use native.Mathlib.Decide.{dec_lt}
use native.Mathlib.Omega.{arith}
use borrow.Author.Tests.{le-ltb, lt-ltb}
use lib.ListN.{length}
use Rattle.areas.specs.Words.{labelled}
use Rattle.position.specs.declared.Span.{Span}
use Rattle.wire.specs.Bytes.{splice}
use Rattle.format.specs.Values.{Job}
use Rattle.areas.specs.Assessments.{records}
use Rattle.serial_links.specs.Limits.{Limits}
use Rattle.format.specs.Decode.{decode}
use Rattle.checks_calls.specs.Refusals.{mark_checks}
use Rattle.checks.specs.Numbers.{too_many_pairs, answer_too_short, marks_too_short}
use Rattle.checks.specs.Checks.{Check, first_refusal}
use Rattle.checks.proofs.Firsts.{stop, clear}
use Rattle.results.specs.Rules.{grid_of}
use Rattle.results.specs.Results.{work_size, own_ends, marks_of, mark_with, max_pairs, labels_of, room_check, marks_check, writing, answer_of, reduced, left_by}
use Rattle.results.specs.Returns.{FirstAnswer, Finished}
use Rattle.results.proofs.Returns.{first-return, pairs-return, last-return, success-return}

-- A call that writes bytes of a length that is known.
module _ (dirs : List ℕ) (short : ℕ) (bytes : List ℕ) (checks : List Check) (j : Job) (ss : List Span) (work out : List ℕ) where
  abbrev room : List Check
  room = room_check short bytes out ∷ []

  -- a refusal of the input, and 21
  pub writing-first : {number detail : ℕ} → FirstAnswer (first_refusal checks) (work_size j) (length work) number detail → 0 < number
      → left_by number detail work out ≡ writing dirs short bytes checks j ss work out
  unfolding writing
  writing-first f h = first-return dirs checks room j ss work out bytes (length bytes) f h

  module _ (e : first_refusal checks ≡ none) (w : work_size j ≤ length work) where
    abbrev worked : List ℕ
    worked = labelled (labels_of dirs j ss) work

    -- 13
    pub writing-many : max_pairs < length (records dirs (grid_of j) ss) → left_by too_many_pairs 0 worked out ≡ writing dirs short bytes checks j ss work out
    unfolding writing
    writing-many h = pairs-return dirs checks room j ss work out bytes (length bytes) e w h

    module _ (p : length (records dirs (grid_of j) ss) ≤ max_pairs) where
      -- too short a slice
      pub writing-short : length out < length bytes → writing dirs short bytes checks j ss work out ≡ left_by short (length bytes) worked out
      unfolding writing
      writing-short a = sym (last-return dirs checks room j ss work out bytes (length bytes) e w p (stop _ [] (lt-ltb _ _ a)))

      pub writing-success : length bytes ≤ length out
          → writing dirs short bytes checks j ss work out ≡ left_by 0 (length bytes) worked (splice out 0 bytes)
      unfolding writing
      writing-success a = sym (success-return dirs checks room j ss work out bytes (length bytes) e w p (clear _ (le-ltb _ _ a)))

      -- one of the two
      pub writing-finished : {after : List ℕ} {number detail : ℕ} → Finished short bytes out after number detail
          → left_by number detail worked after ≡ writing dirs short bytes checks j ss work out
      writing-finished f = by_cases (dec_lt (length out) (length bytes))
          (λ h. rw ((f.unwritten h).0, (f.unwritten h).1, f.long) (sym (writing-short h)))
          (λ h. let l : length bytes ≤ length out = omega arith in rw ((f.written l).0, (f.written l).1, f.long) (sym (writing-success l)))

-- Reduce and Reduce by list.
module _ (limits : Limits) (dirs : List ℕ) (checks : List Check) (j : Job) (ss : List Span) (work answer : List ℕ) where
  abbrev bytes : List ℕ
  bytes = answer_of limits dirs j ss

  -- a refusal of the input, and 21
  pub reduced-first : {number detail : ℕ} → FirstAnswer (first_refusal checks) (work_size j) (length work) number detail → 0 < number
      → left_by number detail work answer ≡ reduced limits dirs checks j ss work answer
  unfolding reduced
  reduced-first f h = writing-first dirs answer_too_short bytes checks j ss work answer f h

  module _ (e : first_refusal checks ≡ none) (w : work_size j ≤ length work) where
    -- 13
    pub reduced-many : max_pairs < length (records dirs (grid_of j) ss)
        → left_by too_many_pairs 0 (labelled (labels_of dirs j ss) work) answer ≡ reduced limits dirs checks j ss work answer
    unfolding reduced
    reduced-many h = writing-many dirs answer_too_short bytes checks j ss work answer e w h

    module _ (p : length (records dirs (grid_of j) ss) ≤ max_pairs) where
      pub reduced-success : length bytes ≤ length answer
          → reduced limits dirs checks j ss work answer ≡ left_by 0 (length bytes) (labelled (labels_of dirs j ss) work) (splice answer 0 bytes)
      unfolding reduced
      reduced-success a = writing-success dirs answer_too_short bytes checks j ss work answer e w p a

      -- 22, or success
      pub reduced-finished : {after : List ℕ} {number detail : ℕ} → Finished answer_too_short bytes answer after number detail
          → left_by number detail (labelled (labels_of dirs j ss) work) after ≡ reduced limits dirs checks j ss work answer
      unfolding reduced
      reduced-finished f = writing-finished dirs answer_too_short bytes checks j ss work answer e w p f

module _ (dirs s work marks : List ℕ) where
  abbrev ends : List Span
  ends = own_ends (decode s)

  abbrev count : ℕ
  count = length (decode s).boundaries

  abbrev few : List Check
  few = marks_check (decode s) marks ∷ []

  -- a refusal of the input, and 21
  pub mark-first : {number detail : ℕ} → FirstAnswer (first_refusal (mark_checks s)) (work_size (decode s)) (length work) number detail → 0 < number
      → left_by number detail work marks ≡ mark_with dirs s work marks
  unfolding mark_with
  mark-first f h = first-return dirs (mark_checks s) few (decode s) ends work marks (marks_of dirs (decode s)) count f h

  module _ (e : first_refusal (mark_checks s) ≡ none) (w : work_size (decode s) ≤ length work) where
    abbrev marked : List ℕ
    marked = labelled (labels_of dirs (decode s) ends) work

    -- 13
    pub mark-many : max_pairs < length (records dirs (grid_of (decode s)) ends) → left_by too_many_pairs 0 marked marks ≡ mark_with dirs s work marks
    unfolding mark_with
    mark-many h = pairs-return dirs (mark_checks s) few (decode s) ends work marks (marks_of dirs (decode s)) count e w h

    module _ (p : length (records dirs (grid_of (decode s)) ends) ≤ max_pairs) where
      -- 23
      pub mark-short : length marks < count → mark_with dirs s work marks ≡ left_by marks_too_short 0 marked marks
      unfolding mark_with
      mark-short a =
          sym (last-return dirs (mark_checks s) few (decode s) ends work marks (marks_of dirs (decode s)) count e w p (stop _ [] (lt-ltb _ _ a)))

      pub mark-success : count ≤ length marks → mark_with dirs s work marks ≡ left_by 0 count marked (splice marks 0 (marks_of dirs (decode s)))
      unfolding mark_with
      mark-success a =
          sym (success-return dirs (mark_checks s) few (decode s) ends work marks (marks_of dirs (decode s)) count e w p (clear _ (le-ltb _ _ a)))
