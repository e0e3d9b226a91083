-- Words written by place, and what a plan says of the boundaries' places.
use mathlib.Core.Path.{◌≡◌, refl, sym, ◌∙◌, ap}
use mathlib.Core.Logic.{by_cases}
use mathlib.Core.Bool.{Bool, true, false, cond}
use mathlib.Core.List.{List}
use mathlib.Core.Option.{none}
use Prim.Native.Nat.{ℕ, ◌+◌, ◌*◌, ◌≤◌, ◌<◌}
use native.Mathlib.Decide.{ℕ_discrete, dec_lt}
use native.Mathlib.Omega.{arith}
use borrow.Author.Tests.{eq-eqb, ne_eqb, eqb-true}
use lib.Dec.{eqb}
use lib.ListN.{length, get_or, drop}
use Rattle.order.specs.Pairs.{Pairs, none as no_pairs, more, Distinct}
use Rattle.order.proofs.Pairs.{pairs-at}
use Rattle.order.proofs.Distinct.{distinct-perm}
use Rattle.order.proofs.Members.{perm-mem, mem-get_d}
use Rattle.order.proofs.Numbers.{up_strict, mem_up}
use Rattle.order.specs.Lists.{up_from}
use Rattle.wire.specs.Bytes.{AreBytes, part, u32_bytes, splice}
use Rattle.wire.proofs.Numbers.{length-bytes}
use Rattle.wire.proofs.Parts.{length-splice, drop-splice, splice-same, splice-before, splice-after}
use Rattle.position.specs.declared.Span.{Span}
use Rattle.format.specs.Values.{Job}
use Rattle.format.specs.Header.{header_at}
use Rattle.format.specs.Decode.{decode, decode_list}
use Rattle.serial_links.specs.Limits.{Limits, limits000}
use Rattle.serial_links.specs.HeldLimits.{limits_of}
use Rattle.serial_links.specs.declared.limits.Limits.{Limits as LimitsHeld}
use Rattle.context.specs.Anchors.{anchors_of}
use Rattle.serial_groups.specs.Plan.{merge_plan}
use Rattle.serial_groups.proofs.Plan.{plan-below}
use Rattle.serial_merging.specs.Follows.{places_of}
use Rattle.checks.specs.Checks.{Check, first_refusal}
use Rattle.checks_calls.specs.Refusals.{reduce_checks, by_list_checks}
use Rattle.checks_calls.proofs.Passing.{boundaries-passed}
use Rattle.results.specs.Rules.{grid_of, listing_of}
use Rattle.results.specs.Results.{own_ends}
use Rattle.analysis.specs.Plans.{plan_of, RankedBy, Headed, Made, PlanLeft}
use Rattle.analysis.proofs.Ranked.{places_count, places-perm, place-below, listed-length}
use Rattle.analysis.proofs.Headed.{headed-checked}
use Rattle.analysis.proofs.Calling.{reduce-headed, by-list-headed}
use Rattle.probe.specs.Planning.{probe_checks, probe_spans, CountOf, PermutationOf, PlanInside, Words, place_at, RankOf, PlanWords, Parting}

-- numbers that rise are distinct
up-distinct : (a n : ℕ) → Distinct (up_from a n)
up-distinct a n = rising (up_strict a n)
  where
    apart : {x y : ℕ} → x < y → x ≡ y → ⊥
    apart h e = omega arith

    rising : {l : List ℕ} → Pairs (λ i j. i < j) l → Distinct l
    rising no_pairs = no_pairs
    rising (more f t) = more (λ y m. apart (f y m)) (rising t)

-- the places of the boundaries by rank
module _ (j : Job) {order : List ℕ} (r : RankedBy j order) where
  pub order-ranked : PermutationOf order (length j.boundaries)
  order-ranked = record { below = λ i h. rw (r i h) (place-below j.boundaries i h); apart = differ }
    where
      differ : (i k : ℕ) → i < k → k < length j.boundaries → get_or order i 0 ≡ get_or order k 0 → ⊥
      differ i k h l e =
          pairs-at 0 (distinct-perm (places-perm j.boundaries) (up-distinct 0 (length j.boundaries))) i k h
          (let c = places_count j.boundaries in omega arith)
          (sym (r i (omega arith)) ∙ (e ∙ r k l))

-- every place is that of a rank
pub place-ranked : (j : Job) (place : ℕ) → place < length j.boundaries → RankOf j place
place-ranked j place h =
    let w = mem-get_d 0 (perm-mem (places-perm j.boundaries) (mem_up 0 (length j.boundaries) place (omega arith) (omega arith))) in
    record { rank = w.0; below = let c = places_count j.boundaries in omega (arith, w.1); is = w.2 }

-- one word more
module _ {order : List ℕ} {goes : ℕ → ℕ} {n : ℕ} where
  pub words-next : {k : ℕ} {out e f : List ℕ} (x v : ℕ) → PermutationOf order n → Words order goes n k out e → k < n → 4 * n ≤ length out → x ≡ get_or order k 0
      → v ≡ goes k
      → f ≡ splice e (4 * x) (u32_bytes v) → Words order goes n (k + 1) out f
  words-next {k} {out} {e} {f} x v o w h room a q b = record {
    each = λ i m. by_cases (ℕ_discrete i k) (λ z. this i z) (λ z. other i (omega arith));
    rest = ap (drop (4 * n)) p ∙ (drop-splice e place (u32_bytes v) fits (4 * n) (omega (arith, four, low)) ∙ w.rest);
    long = ap (λ (t : List ℕ). length t) p ∙ (length-splice e place (u32_bytes v) fits ∙ w.long);
  }
    where
      place : ℕ
      place = 4 * get_or order k 0

      p : f ≡ splice e place (u32_bytes v)
      p = b ∙ ap (λ (y : ℕ). splice e (4 * y) (u32_bytes v)) a

      four : length (u32_bytes v) ≡ 4
      four = length-bytes 4 v

      low : get_or order k 0 < n
      low = o.below k h

      fits : place + length (u32_bytes v) ≤ length e
      fits = omega (arith, four, low, w.long)

      this : (i : ℕ) → i ≡ k → part f (4 * get_or order i 0) 4 ≡ u32_bytes (goes i)
      this i z =
          ap (λ (t : List ℕ). part t (4 * get_or order i 0) 4) p
          ∙ (ap (λ (x : ℕ). part (splice e place (u32_bytes v)) (4 * get_or order x 0) 4) z
          ∙ (ap (λ (m : ℕ). part (splice e place (u32_bytes v)) place m) (sym four)
          ∙ (splice-same e place (u32_bytes v) fits ∙ (ap u32_bytes q ∙ ap (λ (x : ℕ). u32_bytes (goes x)) (sym z)))))

      other : (i : ℕ) → i < k → part f (4 * get_or order i 0) 4 ≡ u32_bytes (goes i)
      other i m =
          ap (λ (t : List ℕ). part t (4 * get_or order i 0) 4) p
          ∙ (by_cases (dec_lt (get_or order i 0) (get_or order k 0))
          (λ l. splice-before e place (u32_bytes v) fits (4 * get_or order i 0) 4 (omega arith))
          (λ l. splice-after e place (u32_bytes v) fits (4 * get_or order i 0) 4
          (let d = o.apart i k m h in omega (arith, four, by_cases (ℕ_discrete (get_or order i 0) (get_or order k 0)) (λ x. absurd (d x)) (λ x. x))))
          ∙ w.each i m)

-- a boundary goes into one of the job's
-- a group of source document 000 has few spans
pub few-000 : {l : LimitsHeld} → limits_of l ≡ limits000 → l.most_spans ≤ 16
few-000 e = let z = ap (λ (x : Limits). x.most_spans) e in omega (arith, z)

merged-inside : (limits : Limits) (dirs : List ℕ) (j : Job) (ss : List Span) → length j.boundaries ≡ length ss → (i : ℕ) → i < length j.boundaries
    → merge_plan limits dirs (grid_of j) (anchors_of j.bases) (listing_of j ss) i < length j.boundaries
merged-inside limits dirs j ss e i h =
    let l : length (listing_of j ss) ≡ length j.boundaries = listed-length j ss e in
    omega (arith, plan-below limits dirs (grid_of j) (anchors_of j.bases) (listing_of j ss) i (omega arith))

chosen-inside : (t : Bool) (m i n : ℕ) → (t ≡ true → m < n) → i < n → cond t m i < n
chosen-inside true m i n f h = f refl
chosen-inside false m i n f h = h

pub plan-inside : (limits : Limits) (dirs : List ℕ) (j : Job) (ss : List Span) (i : ℕ) → i < length j.boundaries
    → plan_of limits dirs j ss i < length j.boundaries
unfolding plan_of
plan-inside limits dirs j ss i h =
    chosen-inside (eqb (length j.boundaries) (length ss)) (merge_plan limits dirs (grid_of j) (anchors_of j.bases) (listing_of j ss) i) i
    (length j.boundaries)
    (λ e. merged-inside limits dirs j ss (eqb-true _ _ e) i h)
    h

-- the words of the arrays are those of the plan
module _ {limits : Limits} {dirs : List ℕ} {checks : List Check} {j : Job} {ss : List Span} {work work_end order plan : List ℕ} {detail n : ℕ}
    (m : Made limits dirs checks j ss work work_end order plan detail) (e : n ≡ length j.boundaries) where
  pub made-ranked : PermutationOf order n
  made-ranked = rw e (order-ranked j m.ranks)

  pub made_inside : PlanInside plan n
  made_inside = rw e (record { below = λ i h. rw (m.plan-is i h) (plan-inside limits dirs j ss i h) })

  pub made-placed : {out out_end : List ℕ} → Words order (λ i. get_or order (get_or plan i 0) 0) n n out out_end → PlanWords limits dirs j ss out out_end
  made-placed {out} {out_end} w = record { words = rw (← e) placed; all = place-ranked j }
    where
      placed : Words (places_of j.boundaries) (λ i. place_at j (plan_of limits dirs j ss i)) n n out out_end
      placed = record {
        each = λ i l.
            let h : i < length j.boundaries = omega arith in
            ap (λ (x : ℕ). part out_end (4 * x) 4) (sym (m.ranks i h))
            ∙ (w.each i l
            ∙ ap u32_bytes (ap (λ (x : ℕ). get_or order x 0) (m.plan-is i h) ∙ m.ranks (plan_of limits dirs j ss i) (plan-inside limits dirs j ss i h)));
        rest = w.rest;
        long = w.long;
      }

-- the plan of Reduce, and that of Reduce by list
module _ (limits : Limits) (dirs : List ℕ) (which : ℕ) (s l : List ℕ) where
  pub plan-own : {work work_end order plan : List ℕ} {number detail : ℕ} → which ≡ 0
      → PlanLeft limits dirs (reduce_checks s) (decode s) (own_ends (decode s)) work work_end order plan number detail
      → PlanLeft limits dirs (probe_checks which s l) (decode s) (probe_spans which s l) work work_end order plan number detail
  unfolding probe_checks probe_spans
  plan-own e x = rw (eq-eqb which 0 e) x

  pub plan-listed : {work work_end order plan : List ℕ} {number detail : ℕ} → (which ≡ 0 → ⊥)
      → PlanLeft limits dirs (by_list_checks s l) (decode s) (decode_list l) work work_end order plan number detail
      → PlanLeft limits dirs (probe_checks which s l) (decode s) (probe_spans which s l) work work_end order plan number detail
  unfolding probe_checks probe_spans
  plan-listed e x = rw (ne_eqb which 0 e) x

-- the boundaries are as many as the header says
module _ (which : ℕ) (s l : List ℕ) where
  pub plan-count : AreBytes s → first_refusal (probe_checks which s l) ≡ none → {n : ℕ} → CountOf s n → n ≡ length (decode s).boundaries
  unfolding probe_checks
  plan-count bytes e {n} c = counted (chosen (eqb which 0) e)
    where
      chosen : (t : Bool) → first_refusal (cond t (reduce_checks s) (by_list_checks s l)) ≡ none → Headed s (header_at s)
      chosen true p = reduce-headed bytes p refl
      chosen false p = by-list-headed s l bytes p refl

      counted : Headed s (header_at s) → n ≡ length (decode s).boundaries
      counted d =
          let k = headed-checked d in
          c.is (boundaries-passed d.distinct s d.passed).0 k.allowed.boundaries ∙ sym k.count

-- what is known of the work
pub made-parting : {limits : Limits} {dirs : List ℕ} {checks : List Check} {j : Job} {ss : List Span} {work work_end order plan : List ℕ} {detail : ℕ}
    → Made limits dirs checks j ss work work_end order plan detail → Parting dirs checks j ss work work_end
made-parting m = record { passed = m.passed; room = m.room; few = m.few; work-is = m.work-is }
