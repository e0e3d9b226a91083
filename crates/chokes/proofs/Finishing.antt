-- The calls from what they plan and write.
use mathlib.Core.Path.{◌≡◌, refl, sym, ◌∙◌, ap, subst}
use mathlib.Core.Bool.{Bool, true, false}
use mathlib.Core.List.{List, [], ◌∷◌}
use mathlib.Core.Option.{Option, none, some}
use Prim.Native.Nat.{ℕ, ◌≤◌, ◌<◌}
use native.Mathlib.Omega.{arith}
use lib.ListN.{length}
use Rattle.position.specs.declared.Span.{Span}
use Rattle.format.specs.Values.{Job}
use Rattle.format.specs.Header.{header_at}
use Rattle.format.specs.Decode.{decode, decode_list}
use Rattle.grid.specs.Directions.{eight, directions_of}
use Rattle.grid.proofs.Directions.{directions-eight, eight-closed}
use Rattle.serial_links.specs.Limits.{Limits}
use Rattle.serial_links.specs.HeldLimits.{limits_of}
use Rattle.serial_links.specs.declared.limits.Limits.{Limits as LimitsHeld}
use Rattle.answer_sources.specs.Gathered.{PlacesOrder}
use Rattle.order.proofs.Bools.{clash, by-test}
use Rattle.checks.specs.Numbers.{answer_too_short, bad_thresholds}
use Rattle.checks.specs.Checks.{Refusal, Check, first_refusal}
use Rattle.checks.specs.Verdict.{passes, number_of, detail_of}
use Rattle.checks_calls.specs.Refusals.{job_checks, reduce_checks, by_list_checks}
use Rattle.thresholds.specs.Block.{block_fault, limits_in, thresholds_check}
use Rattle.thresholds.proofs.Faulty.{block-right}
use Rattle.results.proofs.Thresholds.{reduced-admitted, thresholds-first}
use Rattle.results.specs.Results.{own_ends, reduced, reduce_with, reduce_by_list_with, left_by}
use Rattle.results.specs.Returns.{Finished}
use Rattle.results.specs.Calls.{reduce_result, reduce_by_list_result}
use Rattle.analysis.specs.Plans.{Leads, RankedBy, Made, PlanLeft, answer_bytes}
use Rattle.answer_encoding.specs.Answered.{Answerable, Answered}
use Rattle.results.proofs.Own.{boundary-count}
use Rattle.analysis.proofs.Leaving.{bytes_by, ordered, left-finished}

-- what is written, or not
pub finished-short : {bytes before after : List ℕ} {r : ℕ} → Answered bytes before after r → length before < r
    → Finished answer_too_short bytes before after answer_too_short r
finished-short y l = record {
  long = y.long;
  written = λ h. absurd (omega (arith, y.long));
  unwritten = λ h. (refl, y.unwritten h);
}

pub finished-whole : {bytes before after : List ℕ} {r : ℕ} → Answered bytes before after r → r ≤ length before
    → Finished answer_too_short bytes before after 0 r
finished-whole y l = record {
  long = y.long;
  written = λ h. (refl, y.written h);
  unwritten = λ h. absurd (omega (arith, y.long));
}

-- a plan gives an answer
pub answerable : (s order : List ℕ) → first_refusal (job_checks s) ≡ none → RankedBy (decode s) order → Answerable s (header_at s) order
unfolding header_at
answerable s order e k = record { passed = e; header = refl; ordered = subst (λ (n : ℕ). PlacesOrder order n) (boundary-count s) (ordered (decode s) order k) }

bytes-here : (s order plan : List ℕ) → answer_bytes s order plan ≡ bytes_by (decode s).boundaries order plan
bytes-here s order plan = rw (boundary-count s) refl

-- past an admitted block, a call leaves what its own checks and the block's limits give
pub reduce-as : (s block work answer : List ℕ) → block_fault block ≡ false
    → reduced (limits_in block) eight (reduce_checks s) (decode s) (own_ends (decode s)) work answer ≡ reduce_result s block work answer
unfolding reduce_result reduce_with
reduce-as s block work answer h = sym (reduced-admitted (limits_in block) eight block (reduce_checks s) (decode s) (own_ends (decode s)) work answer h)

pub by-list-as : (s t block work answer : List ℕ) → block_fault block ≡ false
    → reduced (limits_in block) eight (by_list_checks s t) (decode s) (decode_list t) work answer ≡ reduce_by_list_result s t block work answer
unfolding reduce_by_list_result reduce_by_list_with
by-list-as s t block work answer h = sym (reduced-admitted (limits_in block) eight block (by_list_checks s t) (decode s) (decode_list t) work answer h)

module _ (s order plan : List ℕ) {answer out : List ℕ} {number detail : ℕ}
    (f : Finished answer_too_short (answer_bytes s order plan) answer out number detail) where
  same_bytes : Finished answer_too_short (bytes_by (decode s).boundaries order plan) answer out number detail
  same_bytes = subst (λ (bs : List ℕ). Finished answer_too_short bs answer out number detail) (bytes-here s order plan) f

  module _ (block : List ℕ) (admitted : block_fault block ≡ false) where
    pub reduce-finished : {work after : List ℕ} {zero : ℕ}
        → Made (limits_in block) eight (reduce_checks s) (decode s) (own_ends (decode s)) work after order plan zero
        → left_by number detail after out ≡ reduce_result s block work answer
    reduce-finished {work} y = left-finished y same_bytes ∙ reduce-as s block work answer admitted

    pub by-list-finished : (t : List ℕ) {work after : List ℕ} {zero : ℕ}
        → Made (limits_in block) eight (by_list_checks s t) (decode s) (decode_list t) work after order plan zero
        → left_by number detail after out ≡ reduce_by_list_result s t block work answer
    by-list-finished t {work} y = left-finished y same_bytes ∙ by-list-as s t block work answer admitted

-- a block is refused, or passes
module _ (block : List ℕ) {checked : Option Refusal} (e : checked ≡ first_refusal (thresholds_check block ∷ [])) where
  pub admitted-block : {t : Bool} → t ≡ passes checked → t ≡ true → block_fault block ≡ false
  unfolding first_refusal
  admitted-block p q = by-test (block_fault block)
      (λ f. let z : passes checked ≡ false = ap passes e ∙ rw f refl in clash (sym p ∙ q) z)
      (λ f. f)

  bad-block : {t : Bool} → t ≡ passes checked → t ≡ false → block_fault block ≡ true
  unfolding first_refusal
  bad-block p q = by-test (block_fault block) (λ f. f)
      (λ f. let z : passes checked ≡ true = ap passes e ∙ rw f refl in clash z (sym p ∙ q))

  given-block : {t : Bool} {number detail : ℕ} → t ≡ passes checked → t ≡ false → number ≡ number_of checked → detail ≡ detail_of checked
      → (number ≡ bad_thresholds) × (detail ≡ 0)
  unfolding first_refusal
  given-block p q n d =
      let f = bad-block p q in
      let g : checked ≡ some (record { number = bad_thresholds; detail = 0 }) = e ∙ rw f refl in
      (n ∙ ap number_of g, d ∙ ap detail_of g)

  -- 32
  module _ {t : Bool} {number detail : ℕ} (p : t ≡ passes checked) (q : t ≡ false) (n : number ≡ number_of checked) (d : detail ≡ detail_of checked) where
    pub reduce-bad : (s work answer : List ℕ) → left_by number detail work answer ≡ reduce_result s block work answer
    reduce-bad s work answer =
        let g = given-block p q n d in
        rw (g.0, g.1) (sym ((thresholds-first block (bad-block p q)).reduce s work answer))

    pub by-list-bad : (s l work answer : List ℕ) → left_by number detail work answer ≡ reduce_by_list_result s l block work answer
    by-list-bad s l work answer =
        let g = given-block p q n d in
        rw (g.0, g.1) (sym ((thresholds-first block (bad-block p q)).by-list s l work answer))

-- the limits of a block are those of groups of up to 16 boundaries
pub few-spans : {l : LimitsHeld} (block : List ℕ) → limits_of l ≡ limits_in block → block_fault block ≡ false → l.most_spans ≤ 16
unfolding limits_in
few-spans block e h = let z = ap (λ (x : Limits). x.most_spans) e in omega (arith, z, (block-right block h).sizes.largest)

pub leads-eight : Leads 495
leads-eight = rw directions-eight eight-closed.each

pub left-eight : {l limits : Limits} {checks : List Check} {j : Job} {ss : List Span} {before work order plan : List ℕ} {number detail : ℕ} → l ≡ limits
    → PlanLeft l (directions_of 495) checks j ss before work order plan number detail → PlanLeft limits eight checks j ss before work order plan number detail
left-eight {l} {limits} {checks} {j} {ss} {before} {work} {order} {plan} {number} {detail} e r =
    subst (λ (d : List ℕ). PlanLeft limits d checks j ss before work order plan number detail) directions-eight
    (subst (λ (x : Limits). PlanLeft x (directions_of 495) checks j ss before work order plan number detail) e r)
