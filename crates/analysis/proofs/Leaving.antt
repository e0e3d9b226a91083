-- What Reduce and Reduce by list leave at each of their returns.
use mathlib.Core.Path.{◌≡◌, refl, sym, ◌∙◌, ap, subst}
use mathlib.Core.Bool.{Bool, cond}
use mathlib.Core.Logic.{by_cases}
use mathlib.Core.List.{List, map}
use mathlib.Core.Option.{none}
use Prim.Native.Nat.{ℕ, ◌≤◌, ◌<◌}
use native.Mathlib.Decide.{ℕ_discrete}
use native.Mathlib.Omega.{arith}
use borrow.Author.Tests.{eq-eqb, ne_eqb}
use lib.ListN.{length, get_or}
use Rattle.order.specs.Lists.{up_from}
use Rattle.position.specs.declared.Span.{Span}
use Rattle.format.specs.Values.{Boundary, Job}
use Rattle.format.specs.Encode.{encode_answer}
use Rattle.serial_links.specs.Limits.{Limits}
use Rattle.context.specs.Anchors.{anchors_of}
use Rattle.serial_groups.specs.Plan.{merge_plan}
use Rattle.serial_merging.specs.Copies.{canon, copies_of}
use Rattle.serial_merging.specs.Kept.{no_boundary}
use Rattle.serial_merging.specs.Planned.{planned}
use Rattle.serial_merging.proofs.Copies.{copies_length}
use Rattle.serial_merging.proofs.Planned.{planned-ext}
use Rattle.answer_sources.specs.Gathered.{PlacesOrder}
use Rattle.checks.specs.Numbers.{answer_too_short}
use Rattle.checks.specs.Checks.{Check, first_refusal}
use Rattle.results.specs.Rules.{grid_of, listing_of}
use Rattle.results.specs.Results.{work_size, answer_of, reduced, left_by}
use Rattle.results.specs.Returns.{FirstAnswer, PairAnswer, many, few, Finished}
use Rattle.analysis.specs.Plans.{plan_of, RankedBy, Drawn, Made, PlanLeft}
use Rattle.analysis.proofs.Within.{parted-many, parted-few}
use Rattle.results.proofs.Planned.{matched-answer, unmatched-answer}
use Rattle.analysis.proofs.Ranked.{ByRank, places-perm, places-ranked, copies-ranked}
use Rattle.results.proofs.Results.{reduced-first, reduced-many, reduced-finished}

module _ {limits : Limits} {dirs : List ℕ} {checks : List Check} {j : Job} {ss : List Span} {before order plan : List ℕ} {number detail : ℕ} where
  -- a refusal of the input, and 21
  pub left-first : FirstAnswer (first_refusal checks) (work_size j) (length before) number detail → 0 < number
      → PlanLeft limits dirs checks j ss before before order plan number detail
  left-first f h = record {
    refused = λ s answer. reduced-first limits dirs checks j ss before answer f h;
    made = λ z. absurd (omega arith);
  }

  -- 13, and the plan
  pub left-pairs : {after : List ℕ} {pairs : ℕ} → first_refusal checks ≡ none → work_size j ≤ length before → Drawn limits dirs j ss before after plan pairs
      → RankedBy j order → PairAnswer pairs number detail → PlanLeft limits dirs checks j ss before after order plan number detail
  left-pairs e w y k (many h p q) = rw (p, q) (record {
    refused = λ s answer. rw y.work-is (reduced-many limits dirs checks j ss before answer e w (parted-many y h));
    made = λ z. absurd (omega (arith, z));
  })
  left-pairs e w y k (few h p q) = rw (p, q) (record {
    refused = λ s. absurd (omega (arith, s));
    made = λ z. record { passed = e; room = w; few = parted-few y h; nothing = refl; work-is = y.work-is; ranks = k; plan-is = y.told (parted-few y h) };
  })

-- the bytes that a plan gives
abbrev pub bytes_by : List Boundary → List ℕ → List ℕ → List ℕ
bytes_by bs order plan = encode_answer (planned (map (λ i. canon (get_or bs (get_or order i 0) no_boundary)) (up_from 0 (length bs))) (λ i. get_or plan i 0))

module _ (j : Job) (order : List ℕ) (k : RankedBy j order) where
  by_rank : ByRank j.boundaries order
  by_rank = record { each = k }

  -- each place once
  pub ordered : PlacesOrder order (length j.boundaries)
  ordered = rw (← places-ranked j.boundaries by_rank) (places-perm j.boundaries)

  planned-bytes : (plan : List ℕ) (f : ℕ → ℕ) → ((i : ℕ) → i < length j.boundaries → get_or plan i 0 ≡ f i)
      → bytes_by j.boundaries order plan ≡ encode_answer (planned (copies_of j.boundaries) f)
  planned-bytes plan f h =
      ap (λ (l : List Boundary). encode_answer (planned l (λ i. get_or plan i 0))) (sym (copies-ranked j.boundaries by_rank))
      ∙ ap encode_answer (planned-ext (copies_of j.boundaries) (λ i. get_or plan i 0) f (λ i l. h i (omega (arith, copies_length j.boundaries))))

  -- they are the answer
  pub answer-bytes : (limits : Limits) (dirs : List ℕ) (ss : List Span) (plan : List ℕ)
      → ((i : ℕ) → i < length j.boundaries → get_or plan i 0 ≡ plan_of limits dirs j ss i) → bytes_by j.boundaries order plan ≡ answer_of limits dirs j ss
  unfolding plan_of
  answer-bytes limits dirs ss plan h = by_cases (ℕ_discrete (length j.boundaries) (length ss))
      (λ e. planned-bytes plan (merge_plan limits dirs (grid_of j) (anchors_of j.bases) (listing_of j ss))
      (λ i l. h i l ∙ ap (λ (t : Bool). cond t (merge_plan limits dirs (grid_of j) (anchors_of j.bases) (listing_of j ss) i) i) (eq-eqb _ _ e))
      ∙ sym (matched-answer limits dirs j ss e))
      (λ e. planned-bytes plan (λ i. i)
      (λ i l. h i l ∙ ap (λ (t : Bool). cond t (merge_plan limits dirs (grid_of j) (anchors_of j.bases) (listing_of j ss) i) i) (ne_eqb _ _ e))
      ∙ sym (unmatched-answer limits dirs j ss e))

module _ {limits : Limits} {dirs : List ℕ} {checks : List Check} {j : Job} {ss : List Span} {before after order plan : List ℕ} {zero : ℕ}
    (y : Made limits dirs checks j ss before after order plan zero) where
  -- 22, or success
  pub left-finished : {answer out : List ℕ} {number detail : ℕ} → Finished answer_too_short (bytes_by j.boundaries order plan) answer out number detail
      → left_by number detail after out ≡ reduced limits dirs checks j ss before answer
  left-finished {answer} {out} {number} {detail} f =
      rw y.work-is
      (reduced-finished limits dirs checks j ss before answer y.passed y.room y.few
      (subst (λ (bs : List ℕ). Finished answer_too_short bs answer out number detail) (answer-bytes j order y.ranks limits dirs ss plan y.plan-is) f))
