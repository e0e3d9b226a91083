-- The sums of a group's distances, part by part.
use mathlib.Core.Path.{◌≡◌, sym, ◌∙◌, ap, subst}
use mathlib.Core.List.{List, [], ◌∷◌, map, map-map}
use Prim.Native.Nat.{ℕ, ◌≤◌, ◌<◌}
use native.Mathlib.Omega.{arith}
use lib.Ieee.{Float}
use lib.ListN.{length, length-map}
use Rattle.lists.specs.Rows.{at}
use Rattle.order.specs.Lists.{up_from}
use Rattle.length.specs.declared.Length.{Length}
use Rattle.areas.specs.Spans.{span_in}
use Rattle.position.specs.declared.Span.{Span}
use Rattle.serial_sums.specs.Numbers.{Number}
use Rattle.serial_sums.specs.Sums.{ascending_sum}
use Rattle.serial_sums.specs.Totals.{length_value, all_exact, total_of}
use Rattle.serial_sums.specs.Parts.{PartValue, PartsOf, TotalOfParts}
use Rattle.serial_sums.specs.declared.Parts.{Parts}
use Rattle.serial_sums.proofs.SumSteps.{SummedLengths, lengths-end}
use Rattle.serial_sums.proofs.PartLaws.{length_part}
use Rattle.serial_links.specs.Geometry.{squares, doubled_centre, centre_length}
use Rattle.serial_links.specs.Sums.{distance_sum}
use Rattle.serial_links.proofs.Numbers.{distance-sum-number}
use Rattle.serial_links.proofs.Marks.{distance-total-is}
use Rattle.serial_plan.specs.declared.few.Few.{Few}
use Rattle.serial_plan.specs.Few.{few_at, few_list}
use Rattle.serial_plan.specs.Shape.{gap_in, gap_length_in, chain_in, chain_total_in, sum_in, sum_total_in}
use Rattle.serial_plan.proofs.ShapeLaws.{listed-length}

module _ (firsts seconds own : List ℕ) where
  abbrev gap : ℕ → Length
  gap = gap_length_in firsts seconds own

  -- the gap of each link that is kept
  abbrev pub gap_at : Few → ℕ → Length
  gap_at f j = gap (few_at f j)

  pub gap-value : (k : ℕ) {x : Length} → x ≡ gap k → PartValue x.value
  gap-value k e = length_part (squares (doubled_centre (span_in own (at firsts k))) (doubled_centre (span_in own (at seconds k)))) e

  pub gaps-end : (f : Few) {p : Parts} {j : ℕ} → PartsOf p (map (gap_at f) (up_from 0 j)) → j ≡ f.count → PartsOf p (map gap (few_list f))
  unfolding few_list
  gaps-end f {p} h e =
      subst (PartsOf p) (ap (λ (k : ℕ). map (gap_at f) (up_from 0 k)) e ∙ sym (map-map gap (few_at f) (up_from 0 f.count))) h

  pub gaps-count : (f : Few) {p : Parts} → PartsOf p (map gap (few_list f)) → p.count ≡ f.count
  gaps-count f h = h.count ∙ (length-map (few_list f) gap ∙ listed-length f)

  pub chain-added : (f : Few) {p : Parts} {r : Length} → PartsOf p (map gap (few_list f)) → TotalOfParts p r
      → r ≡ chain_total_in firsts seconds own (few_list f)
  unfolding chain_in
  chain-added f h t = t (map gap (few_list f)) h
      ∙ ap (λ (xs : List Float). record { value = ascending_sum xs; exact = all_exact (map gap (few_list f)) }) values
    where
      values : map length_value (map gap (few_list f)) ≡ map (gap_in firsts seconds own) (few_list f)
      values = map-map length_value gap (few_list f)

sum_number : (s : Span) (ms : List Span) → 0 < length ms → Number (distance_sum s ms)
sum_number s [] h = absurd (omega arith)
sum_number s (m ∷ ms) h = distance-sum-number s m ms

-- the distance to each rank that is kept
abbrev pub distance_at : List ℕ → ℕ → Few → ℕ → Length
distance_at own i f j = centre_length (span_in own i) (span_in own (few_at f j))

pub sum-listed : (own : List ℕ) (f : Few) (i : ℕ) {j : ℕ} {r : Length} → 1 ≤ f.count → SummedLengths (distance_at own i f) f.count j r → f.count ≤ j
    → (r ≡ sum_total_in own (few_list f) i) × Number r.value
unfolding sum_in few_list
sum-listed own f i {j} {r} l p h = (
  whole,
  subst Number (sym (ap length_value whole)) (sum_number (span_in own i) (map (span_in own) (few_list f))
      (omega (arith, length-map (few_list f) (span_in own), listed-length f))),
)
  where
    from : Span → Length
    from = centre_length (span_in own i)

    whole : r ≡ sum_total_in own (few_list f) i
    whole =
        lengths-end (distance_at own i f) f.count p h
        ∙ (ap total_of (sym (map-map from (λ k. span_in own (few_at f k)) (up_from 0 f.count))
        ∙ ap (map from) (sym (map-map (span_in own) (few_at f) (up_from 0 f.count))))
        ∙ sym (distance-total-is (span_in own i) (map (span_in own) (few_list f))))
