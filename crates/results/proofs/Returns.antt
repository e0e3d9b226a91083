-- What holds of every call at its returns, whatever its checks, its last checks and what it writes.
use mathlib.Core.Path.{◌≡◌, refl, ◌∙◌, subst}
use mathlib.Core.List.{List, [], ◌∷◌, ◌++◌}
use mathlib.Core.Option.{Option, none, some}
use mathlib.Core.Bool.{false}
use Prim.Native.Nat.{ℕ, ◌≤◌, ◌<◌}
use native.Mathlib.Omega.{arith}
use borrow.Author.Tests.{lt-ltb, le-ltb}
use lib.ListN.{length}
use Rattle.areas.specs.Words.{labelled}
use Rattle.position.specs.declared.Span.{Span}
use Rattle.wire.specs.Bytes.{splice}
use Rattle.format.specs.Values.{Job}
use Rattle.areas.specs.Assessments.{records}
use Rattle.checks.specs.Numbers.{too_many_pairs, work_too_short}
use Rattle.checks.specs.Checks.{Refusal, Check, first_refusal}
use Rattle.checks.specs.Verdict.{passes, number_of, detail_of}
use Rattle.checks.proofs.Firsts.{skip, stop, clear, append-none, append-some}
use Rattle.results.specs.Rules.{grid_of}
use Rattle.results.specs.Results.{Outcome, left_by, work_size, max_pairs, after_work, outcome, work_check, labels_of, pair_check}
use Rattle.results.specs.Returns.{FirstAnswer, refused, cramped, ready, PairAnswer, many, few}

-- a first answer without a refusal
module _ {checked : Option Refusal} {asked room number detail : ℕ} where
  pub first-passed : FirstAnswer checked asked room number detail → number ≤ 0 → checked ≡ none
  first-passed (refused _ p _ _) h = absurd (omega arith)
  first-passed (cramped _ _ p _) h = absurd (omega arith)
  first-passed (ready e _ _ _) h = e

  pub first-room : FirstAnswer checked asked room number detail → number ≤ 0 → asked ≤ room
  first-room (refused _ p _ _) h = absurd (omega arith)
  first-room (cramped _ _ p _) h = absurd (omega arith)
  first-room (ready _ r _ _) h = r

  -- what was checked, by another name
  pub first_of : {other : Option Refusal} → checked ≡ other → FirstAnswer checked asked room number detail → FirstAnswer other asked room number detail
  first_of e f = subst (λ (o : Option Refusal). FirstAnswer o asked room number detail) e f

-- pairs that are not refused
pub pairs-few : {pairs number detail : ℕ} → PairAnswer pairs number detail → number ≤ 0 → pairs ≤ max_pairs
pairs-few (many _ p _) h = absurd (omega arith)
pairs-few (few l _ _) h = l

module _ (dirs : List ℕ) (checks last : List Check) (j : Job) (ss : List Span) (work out written : List ℕ) (success : ℕ) where
  -- a call's checks, 21, 13 and its last checks, and what it writes where none holds
  abbrev pub called : Outcome
  called = outcome work (labels_of dirs j ss) out written success (pair_check dirs j ss ∷ last) (first_refusal (checks ++ (work_check j work ∷ [])))

  refused-first : (o : Option Refusal) {number detail : ℕ} → first_refusal checks ≡ o → passes o ≡ false → number ≡ number_of o → detail ≡ detail_of o
      → left_by number detail work out ≡ called
  unfolding outcome
  refused-first none e p n d = let z : ◌≡◌ {A = ℕ} 0 1 = cc in absurd (omega arith)
  refused-first (some r) e p n d =
      let a : first_refusal (checks ++ (work_check j work ∷ [])) ≡ some r = append-some checks _ r e in
      rw (a, n, d) refl

  -- a refusal of the input, and 21
  pub first-return : {number detail : ℕ} → FirstAnswer (first_refusal checks) (work_size j) (length work) number detail → 0 < number
      → left_by number detail work out ≡ called
  unfolding outcome
  first-return (refused p _ n d) h = refused-first (first_refusal checks) refl p n d
  first-return (cramped e l n d) h =
      let a : first_refusal (checks ++ (work_check j work ∷ [])) ≡ some (record { number = work_too_short; detail = 0 })
      = append-none checks _ e ∙ stop _ [] (lt-ltb _ _ l) in
      rw (a, n, d) refl
  first-return (ready _ _ n _) h = absurd (omega arith)

  module _ (e : first_refusal checks ≡ none) (w : work_size j ≤ length work) where
    past_first : first_refusal (checks ++ (work_check j work ∷ [])) ≡ none
    past_first = append-none checks _ e ∙ clear _ (le-ltb _ _ w)

    -- 13
    pub pairs-return : max_pairs < length (records dirs (grid_of j) ss) → left_by too_many_pairs 0 (labelled (labels_of dirs j ss) work) out ≡ called
    unfolding outcome after_work
    pairs-return h =
        let b : first_refusal (pair_check dirs j ss ∷ last) ≡ some (record { number = too_many_pairs; detail = 0 }) = stop _ last (lt-ltb _ _ h) in
        rw (past_first, b) refl

    module _ (h : length (records dirs (grid_of j) ss) ≤ max_pairs) where
      past_pairs : first_refusal (pair_check dirs j ss ∷ last) ≡ first_refusal last
      past_pairs = skip _ _ (le-ltb _ _ h)

      -- a refusal of the last checks
      pub last-return : {number detail : ℕ} → first_refusal last ≡ some (record { number = number; detail = detail })
          → left_by number detail (labelled (labels_of dirs j ss) work) out ≡ called
      unfolding outcome after_work
      last-return f = rw (past_first, past_pairs, f) refl

      -- success
      pub success-return : first_refusal last ≡ none → left_by 0 success (labelled (labels_of dirs j ss) work) (splice out 0 written) ≡ called
      unfolding outcome after_work
      success-return f = rw (past_first, past_pairs, f) refl
