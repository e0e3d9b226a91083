-- The records of the spans, span by span.
use mathlib.Core.Path.{◌≡◌, refl, sym, ◌∙◌, ap, ap₂, subst}
use mathlib.Core.Logic.{by_cases}
use mathlib.Core.List.{List, [], ◌∷◌, ◌++◌, map, map-append, append_assoc, append-nil}
use Prim.Native.Nat.{ℕ, zero, suc, ◌+◌, ◌-◌, ◌≤◌, ◌<◌}
use native.Mathlib.Omega.{arith}
use native.Mathlib.Numerals.{add-one}
use native.Mathlib.Decide.{ℕ_discrete, dec_le}
use lib.ListN.{length, set, replicate, length-set, length-append, length-map, length-replicate}
use lib.Seq.{get_or-set_same, get_or-set_other}
use Rattle.lists.specs.Rows.{at, rows}
use Rattle.lists.proofs.Rows.{length-rows, rows_same, rows_split, rows_last, map_rows}
use Rattle.position.specs.declared.Span.{Span}
use Rattle.graph.specs.Records.{Record, record_in, records_in}
use Rattle.grid.specs.Cells.{Grid}
use Rattle.areas.specs.Areas.{area_labels}
use Rattle.areas.specs.Cuts.{cut_steps}
use Rattle.areas.specs.Assessments.{RegionPair, assessment, record_of, owned, assess, records}
use Rattle.areas.specs.Spans.{span_in, spans_in}
use Rattle.areas_assessments.specs.declared.steps.Assessed.{Assessed}
use Rattle.areas_assessments.specs.Stored.{pair_at}
use Rattle.areas_assessments.specs.Holding.{pairs_in, HoldsAssessment}
use Rattle.areas_assessments.specs.Visits.{SpanOnMap}
use Rattle.areas_assessments.specs.Recording.{assessed, records_of, Counted, Recorded, SpansOnMap, Arrays, ConstantRun}

-- with the areas' labels these are the records of the areas
pub records-are : (dirs : List ℕ) (g : Grid) (ss : List Span) → records_of (area_labels dirs g ss) dirs g ss ≡ records dirs g ss
unfolding records_of assessed records assess
records-are dirs g ss = refl

owned-last : (i : ℕ) (pss : List (List RegionPair)) (ps : List RegionPair) → owned i (pss ++ (ps ∷ [])) ≡ owned i pss ++ map (record_of (i + length pss)) ps
unfolding owned
owned-last i [] ps = let e : i ≡ i + 0 = omega arith in append-nil (map (record_of i) ps) ∙ ap (λ (k : ℕ). map (record_of k) ps) e
owned-last i (qs ∷ pss) ps =
    let e : suc i + length pss ≡ i + suc (length pss) = omega arith in
    ap (λ (t : List Record). map (record_of i) qs ++ t) (owned-last (suc i) pss ps ∙ ap (λ (k : ℕ). owned (suc i) pss ++ map (record_of k) ps) e)
    ∙ sym (append_assoc (map (record_of i) qs) (owned (suc i) pss) (map (record_of (i + suc (length pss))) ps))

module _ (ls dirs : List ℕ) (g : Grid) (ends : List ℕ) where
  abbrev up_to : ℕ → List Record
  up_to n = records_of ls dirs g (spans_in ends n)

  abbrev pairs_by : Span → List RegionPair
  pairs_by s = (assessed ls dirs g s).pairs

  up_next : (n : ℕ) → up_to (suc n) ≡ up_to n ++ map (record_of n) (pairs_by (span_in ends n))
  unfolding records_of spans_in
  up_next n =
      let k : length (map pairs_by (rows n (span_in ends))) ≡ n = length-map (rows n (span_in ends)) pairs_by ∙ length-rows n (span_in ends) in
      ap (λ (z : List Span). owned 0 (map pairs_by z)) (rows_last n (span_in ends))
      ∙ (ap (owned 0) (map-append pairs_by (rows n (span_in ends)) (span_in ends n ∷ []))
      ∙ (owned-last 0 (map pairs_by (rows n (span_in ends))) (pairs_by (span_in ends n))
      ∙ ap (λ (z : ℕ). owned 0 (map pairs_by (rows n (span_in ends))) ++ map (record_of z) (pairs_by (span_in ends n)))
      (let e : 0 + length (map pairs_by (rows n (span_in ends))) ≡ n = omega arith in e)))

  up-length : (n : ℕ) → length (up_to (suc n)) ≡ length (up_to n) + length (pairs_by (span_in ends n))
  up-length n =
      ap length (up_next n) ∙ (length-append (up_to n) (map (record_of n) (pairs_by (span_in ends n)))
      ∙ ap (λ (z : ℕ). length (up_to n) + z) (length-map (pairs_by (span_in ends n)) (record_of n)))

  up_more : (n m : ℕ) → length (up_to n) ≤ length (up_to (n + m))
  up_more n zero = let e : n + 0 ≡ n = omega arith in rw e (omega arith)
  up_more n (suc m) = let e : n + suc m ≡ suc (n + m) = omega arith in rw e (omega (arith, up_more n m, up-length (n + m)))

  -- The loop at span i, with end records of most.
  pub record Recording (most : ℕ) (removed separated owners lefts rights : List ℕ) (i end : ℕ) : Type 0 where
    pub arrays : Arrays most removed separated owners lefts rights
    pub ended : end ≡ length (up_to i)
    pub few : end ≤ most
    pub told : records_in owners lefts rights end ≡ up_to i
    pub counted : Counted ls dirs g ends i removed separated

  pub recording-start : {most : ℕ} {removed separated owners lefts rights : List ℕ} → Arrays most removed separated owners lefts rights
      → Recording most removed separated owners lefts rights 0 0
  unfolding records_in rows records_of spans_in owned
  recording-start a = record { arrays = a; ended = refl; few = omega arith; told = refl; counted = λ i l. absurd (omega arith) }

  module _ {most : ℕ} {removed separated owners lefts rights : List ℕ} {i end : ℕ} (r : Recording most removed separated owners lefts rights i end)
      {lefts' rights' : List ℕ} {s : Assessed} (h : HoldsAssessment most (assessed ls dirs g (span_in ends i)) lefts rights end lefts' rights' s) where
    -- over most
    pub recording-over : (n : ℕ) → i < n → most < s.end → {removed' separated' owners' : List ℕ}
        → Recorded ls dirs g most ends n removed' separated' owners' lefts' rights' (most + 1)
    recording-over n l o =
        let many : most < end + length (pairs_by (span_in ends i)) = by-many in
        let e : suc i + (n - suc i) ≡ n = omega arith in
        let m : most < length (up_to n) = subst (λ (z : ℕ). most < length (up_to z)) e (omega (arith, up_more (suc i) (n - suc i), up-length i, r.ended)) in
        record { fits = λ k. absurd (omega arith); over = λ k. refl }
      where
        by-many : most < end + length (pairs_by (span_in ends i))
        by-many = by-lt (λ k. omega (arith, (h.pairs.fits k).0))
          where
            by-lt : (end + length (pairs_by (span_in ends i)) ≤ most → ⊥) → most < end + length (pairs_by (span_in ends i))
            by-lt f = by_cases (dec_le (end + length (pairs_by (span_in ends i))) most) (λ k. absurd (f k)) (λ k. omega arith)

    module _ (small : s.end ≤ most) where
      fitting : end + length (pairs_by (span_in ends i)) ≤ most
      fitting = by_cases (dec_le (end + length (pairs_by (span_in ends i))) most) (λ k. k) (λ k. absurd (omega (arith, h.pairs.over (omega arith))))

      new-end : s.end ≡ end + length (pairs_by (span_in ends i))
      new-end = (h.pairs.fits fitting).0

      pub grows : end ≤ s.end
      grows = omega (arith, new-end)

      told-next : {owners' : List ℕ} → ConstantRun owners owners' end s.end i → records_in owners' lefts' rights' s.end ≡ up_to (suc i)
      unfolding records_in pairs_in
      told-next {owners'} f =
          let ps = pairs_by (span_in ends i) in
          ap (records_in owners' lefts' rights') new-end
          ∙ (rows_split end (length ps) (record_in owners' lefts' rights')
          ∙ (ap₂ ◌++◌ (old ∙ r.told)
          (new ∙ (sym (map_rows (record_of i) (length ps) (λ k. pair_at lefts' rights' (end + k))) ∙ ap (map (record_of i)) (h.pairs.fits fitting).1))
          ∙ sym (up_next i)))
        where
          old : records_in owners' lefts' rights' end ≡ records_in owners lefts rights end
          old = rows_same end (record_in owners' lefts' rights') (record_in owners lefts rights)
              (λ k l. rw (f.below k l, h.pairs.left-kept k l, h.pairs.right_kept k l))

          new : rows (length (pairs_by (span_in ends i))) (λ k. record_in owners' lefts' rights' (end + k)) ≡ rows (length (pairs_by (span_in ends i)))
              (λ k. record_of i (pair_at lefts' rights' (end + k)))
          new = rows_same (length (pairs_by (span_in ends i))) (λ k. record_in owners' lefts' rights' (end + k))
              (λ k. record_of i (pair_at lefts' rights' (end + k)))
              (λ k l. rw (f.here (end + k) (omega arith) (omega (arith, new-end))))

      pub recording-next : {owners' : List ℕ} → i < 256 → ConstantRun owners owners' end s.end i → length owners' ≡ length owners
          → length lefts' ≡ length lefts
          → length rights' ≡ length rights →
          Recording most (set removed i s.removed) (set separated i s.separated) owners' lefts' rights' (i + 1) s.end
      recording-next {owners'} l f eo el er = record {
        arrays = record {
          removed-are = length-set removed i s.removed ∙ r.arrays.removed-are;
          separated-are = length-set separated i s.separated ∙ r.arrays.separated-are;
          owners-are = eo ∙ r.arrays.owners-are;
          lefts-are = el ∙ r.arrays.lefts-are;
          rights-are = er ∙ r.arrays.rights-are;
          few = r.arrays.few;
        };
        ended = rw add-one (new-end ∙ omega (arith, up-length i, r.ended));
        few = small;
        told = rw add-one (told-next f);
        counted = counts;
      }
        where
          counts : Counted ls dirs g ends (i + 1) (set removed i s.removed) (set separated i s.separated)
          counts k m =
              by_cases (ℕ_discrete k i)
              (λ e. (
                ap (at (set removed i s.removed)) e
                    ∙ (get_or-set_same removed i s.removed 0 (omega (arith, r.arrays.removed-are))
                    ∙ (h.removed ∙ ap (λ (z : ℕ). (assessed ls dirs g (span_in ends z)).removed) (sym e))),
                ap (at (set separated i s.separated)) e
                    ∙ (get_or-set_same separated i s.separated 0 (omega (arith, r.arrays.separated-are))
                    ∙ (h.separated ∙ ap (λ (z : ℕ). (assessed ls dirs g (span_in ends z)).separated) (sym e))),
              ))
              (λ e. let q = r.counted k (omega arith) in
              (get_or-set_other removed i k s.removed 0 e ∙ q.0, get_or-set_other separated i k s.separated 0 e ∙ q.1))

  pub recording-end : {most : ℕ} {removed separated owners lefts rights : List ℕ} {i end n : ℕ} → Recording most removed separated owners lefts rights i end
      → i ≡ n → Recorded ls dirs g most ends n removed separated owners lefts rights end
  recording-end {most} {removed} {separated} {owners} {lefts} {rights} {i} {end} r e =
      subst (λ (z : ℕ). Recorded ls dirs g most ends z removed separated owners lefts rights end) e
      (record { fits = λ h. (r.ended, r.told, r.counted); over = λ h. absurd (omega (arith, r.ended, r.few)) })

-- arrays of zeros
pub zero-arrays : (most : ℕ) → most ≤ 4096 → Arrays most (replicate 256 0) (replicate 256 0) (replicate most 0) (replicate most 0) (replicate most 0)
zero-arrays most h =
    let e = length-replicate {A = ℕ} most 0 in
    let k = length-replicate {A = ℕ} 256 0 in
    record { removed-are = k; separated-are = k; owners-are = e; lefts-are = e; rights-are = e; few = h }

-- one span of several on a map
pub span-on : {w h : ℕ} {cs labels ends : List ℕ} {n i : ℕ} {s : Span} → SpansOnMap w h cs labels ends n → i < n → s ≡ span_in ends i →
    SpanOnMap w h cs labels s
span-on {w} {h} {cs} {labels} m l e =
    subst (λ (z : Span). SpanOnMap w h cs labels z) (sym e) (record { sides = m.sides; whole = m.whole; labelled = m.labelled; span = m.spans.each _ l })

-- what the assessment of the span in hand holds
pub span-holds : (ls dirs : List ℕ) (g : Grid) (ends : List ℕ) (i : ℕ) (s : Span) {lefts₀ rights₀ lefts rights : List ℕ} {start most m : ℕ} {a : Assessed}
    → s ≡ span_in ends i → m ≡ most →
    HoldsAssessment m (assessment ls (cut_steps dirs g s)) lefts₀ rights₀ start lefts rights a
    → HoldsAssessment most (assessed ls dirs g (span_in ends i)) lefts₀ rights₀ start lefts rights a
unfolding assessed
span-holds ls dirs g ends i s {lefts₀} {rights₀} {lefts} {rights} {start} {most} {m} {a} e f h =
    subst (λ (z : Span). HoldsAssessment most (assessment ls (cut_steps dirs g z)) lefts₀ rights₀ start lefts rights a) e
    (subst (λ (k : ℕ). HoldsAssessment k (assessment ls (cut_steps dirs g s)) lefts₀ rights₀ start lefts rights a) f h)
