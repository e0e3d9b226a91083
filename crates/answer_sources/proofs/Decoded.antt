-- A job's boundaries, each from its own place on.
use mathlib.Core.Path.{◌≡◌, refl, sym, ◌∙◌, ap, subst}
use mathlib.Core.List.{List, ◌∷◌}
use Prim.Native.Nat.{ℕ, zero, suc, ◌+◌, ◌-◌, ◌*◌, ◌≤◌}
use native.Mathlib.Omega.{arith}
use lib.ListN.{take, drop}
use lib.Seq.{drop-drop, take_at, drop_at}
use Rattle.lists.specs.Rows.{rows, sum}
use Rattle.lists.proofs.Rows.{length-rows, rows_split, map_rows, sum-append, sum-last, sum-prefix}
use Rattle.format.specs.Values.{Observation, Boundary}
use Rattle.format.specs.Decode.{observations_with, boundary_with, boundaries_with, source_count, ramp_of, decode_boundaries, boundary_records}
use Rattle.format.specs.Decode.{observation_records, source_records}
use Rattle.format.specs.declared.records.Source.{Source}
use Rattle.format.specs.declared.records.BoundaryRecord.{BoundaryRecord}
use Rattle.format.specs.declared.records.ObservationRecord.{ObservationRecord}
use Rattle.answer_sources.specs.Laying.{sum_below, own_start, first_seen, seen_count}
use Rattle.answer_sources.specs.Placed.{own_of, seen_of, cited_of, observation_from, observation_of, boundary_of, boundary_rows, observation_rows}

-- n rows from row o on.
pub rows-part : {A : Type 0} (m o n : ℕ) (f : ℕ → A) → o + n ≤ m → take n (drop o (rows m f)) ≡ rows n (λ k. f (o + k))
rows-part m o n f h =
    let e : m ≡ o + (n + (m - (o + n))) = omega arith in
    ap (λ (z : ℕ). take n (drop o (rows z f))) e
    ∙ ap (λ l. take n (drop o l)) (rows_split o (n + (m - (o + n))) f)
    ∙ ap (take n) (drop_at (rows o f) (rows (n + (m - (o + n))) (λ k. f (o + k))) o (length-rows o f))
    ∙ ap (take n) (rows_split n (m - (o + n)) (λ k. f (o + k)))
    ∙ take_at (rows n (λ k. f (o + k))) _ n (length-rows n (λ k. f (o + k)))

below-join : (f : ℕ → ℕ) (o n : ℕ) → sum_below f (o + n) ≡ sum_below f o + sum (rows n (λ k. f (o + k)))
below-join f o n = ap sum (rows_split o n f) ∙ sum-append (rows o f) (rows n (λ k. f (o + k)))

counted : (n : ℕ) (f : ℕ → ObservationRecord) → source_count (rows n f) ≡ sum (rows n (λ k. (f k).sources))
unfolding source_count
counted n f = ap sum (map_rows (λ (o : ObservationRecord). o.sources) n f)

module _ (bs : ℕ → BoundaryRecord) (os : ℕ → ObservationRecord) (ss : List Source) where
  observations-rows : (n o base : ℕ) (f : ℕ → ObservationRecord) (g : ℕ → Observation) → ((k : ℕ) → f k ≡ os (o + k))
      → ((k : ℕ) → g k ≡ observation_from bs os ss base (o + k))
      → observations_with (rows n f) (drop (base + sum_below (cited_of bs os ss) o) ss) ≡ rows n g
  unfolding observations_with rows observation_from
  observations-rows zero o base f g a b = refl
  observations-rows (suc n) o base f g a b =
      let z : o + 0 ≡ o = omega arith in
      let e : f 0 ≡ os o = a 0 ∙ ap os z in
      let i = base + sum_below (cited_of bs os ss) o in
      let head : record { ends = (f 0).ends; bits = (f 0).bits; sources = take (f 0).sources (drop i ss) } ≡ g 0
      = ap (λ (r : ObservationRecord). record { ends = r.ends; bits = r.bits; sources = take r.sources (drop i ss) }) e
      ∙ sym (b 0 ∙ ap (observation_from bs os ss base) z) in
      let next : i + (f 0).sources ≡ base + sum_below (cited_of bs os ss) (suc o) =
      omega (arith, sum-last o (cited_of bs os ss), ap (λ (r : ObservationRecord). r.sources) e) in
      let step : (k : ℕ) → o + suc k ≡ suc o + k = λ k. omega arith in
      ap (λ (x : Observation). x ∷ observations_with (rows n (λ k. f (suc k))) (drop (f 0).sources (drop i ss))) head
      ∙ ap (λ (l : List Source). g 0 ∷ observations_with (rows n (λ k. f (suc k))) l) (drop-drop (f 0).sources i ss ∙ ap (λ (k : ℕ). drop k ss) next)
      ∙ ap (λ (l : List Observation). g 0 ∷ l)
      (observations-rows n (suc o) base (λ k. f (suc k)) (λ k. g (suc k)) (λ k. a (suc k) ∙ ap os (step k))
      (λ k. b (suc k) ∙ ap (observation_from bs os ss base) (step k)))

  head-is : (b : ℕ) → boundary_with (bs b) (rows (seen_of bs os ss b) (λ k. os (first_seen (seen_of bs os ss) b + k)))
      (drop (own_start (own_of bs os ss) (seen_of bs os ss) (cited_of bs os ss) b) ss) ≡ boundary_of bs os ss b
  unfolding boundary_with boundary_of
  head-is b =
      let o = first_seen (seen_of bs os ss) b in
      let i = own_start (own_of bs os ss) (seen_of bs os ss) (cited_of bs os ss) b in
      let next : i + (bs b).sources ≡ sum_below (own_of bs os ss) (suc b) + sum_below (cited_of bs os ss) o = omega (arith, sum-last b (own_of bs os ss)) in
      ap (λ (l : List Observation).
      record { ends = (bs b).ends; bits = (bs b).bits; ramp = ramp_of (bs b).ramp; sources = take (bs b).sources (drop i ss); observations = l })
      (ap (observations_with (rows (bs b).observations (λ k. os (o + k)))) (drop-drop (bs b).sources i ss ∙ ap (λ (k : ℕ). drop k ss) next)
      ∙ observations-rows (bs b).observations o (sum_below (own_of bs os ss) (suc b)) (λ k. os (o + k)) (λ k. observation_of bs os ss b (o + k)) (λ k. refl)
      (λ k. refl))

  pub boundaries-rows : (n b m : ℕ) (f : ℕ → BoundaryRecord) (g : ℕ → Boundary) → ((k : ℕ) → f k ≡ bs (b + k)) → ((k : ℕ) → g k ≡ boundary_of bs os ss (b + k))
      → sum_below (seen_of bs os ss) (b + n) ≤ m
      → boundaries_with (rows n f) (drop (first_seen (seen_of bs os ss) b) (rows m os))
      (drop (own_start (own_of bs os ss) (seen_of bs os ss) (cited_of bs os ss) b) ss) ≡ rows n g
  unfolding boundaries_with rows
  boundaries-rows zero b m f g p q h = refl
  boundaries-rows (suc n) b m f g p q h =
      let z : b + 0 ≡ b = omega arith in
      let e : f 0 ≡ bs b = p 0 ∙ ap bs z in
      let o = first_seen (seen_of bs os ss) b in
      let i = own_start (own_of bs os ss) (seen_of bs os ss) (cited_of bs os ss) b in
      let all = rows m os in
      let here = rows (bs b).observations (λ k. os (o + k)) in
      let more : sum_below (seen_of bs os ss) (suc b) ≤ sum_below (seen_of bs os ss) (b + suc n) = sum-prefix (suc b) (b + suc n) (seen_of bs os ss)
      (omega arith) in
      let seen_next : o + (bs b).observations ≡ sum_below (seen_of bs os ss) (suc b) = sym (sum-last b (seen_of bs os ss)) in
      let tk : take (bs b).observations (drop o all) ≡ here = rows-part m o (bs b).observations os (omega arith) in
      let sc : source_count here ≡ sum (rows (bs b).observations (λ k. cited_of bs os ss (o + k))) = counted (bs b).observations (λ k. os (o + k)) in
      let bj = below-join (cited_of bs os ss) o (bs b).observations in
      let bn : sum_below (cited_of bs os ss) (o + (bs b).observations) ≡ sum_below (cited_of bs os ss) (sum_below (seen_of bs os ss) (suc b)) =
      ap (sum_below (cited_of bs os ss)) seen_next in
      let source-next : i + ((bs b).sources + source_count here) ≡ own_start (own_of bs os ss) (seen_of bs os ss) (cited_of bs os ss) (suc b) =
      omega (arith, sum-last b (own_of bs os ss), sc, bj, bn) in
      let step : (k : ℕ) → b + suc k ≡ suc b + k = λ k. omega arith in
      ap (λ (r : BoundaryRecord). boundary_with r (take r.observations (drop o all)) (drop i ss) ∷ boundaries_with (rows n (λ k. f (suc k)))
      (drop r.observations (drop o all)) (drop (r.sources + source_count (take r.observations (drop o all))) (drop i ss))) e
      ∙ ap (λ (t : List ObservationRecord).
      boundary_with (bs b) t (drop i ss) ∷ boundaries_with (rows n (λ k. f (suc k))) (drop (bs b).observations (drop o all))
      (drop ((bs b).sources + source_count t) (drop i ss))) tk
      ∙ ap (λ (x : Boundary). x ∷ boundaries_with (rows n (λ k. f (suc k))) (drop (bs b).observations (drop o all))
      (drop ((bs b).sources + source_count here) (drop i ss))) (head-is b ∙ sym (q 0 ∙ ap (boundary_of bs os ss) z))
      ∙ ap (λ (l : List ObservationRecord). g 0 ∷ boundaries_with (rows n (λ k. f (suc k))) l (drop ((bs b).sources + source_count here) (drop i ss)))
      (drop-drop (bs b).observations o all ∙ ap (λ (k : ℕ). drop k all) seen_next)
      ∙ ap (λ (l : List Source). g 0 ∷ boundaries_with (rows n (λ k. f (suc k))) (drop (sum_below (seen_of bs os ss) (suc b)) all) l)
      (drop-drop ((bs b).sources + source_count here) i ss ∙ ap (λ (k : ℕ). drop k ss) source-next)
      ∙ ap (λ (l : List Boundary). g 0 ∷ l)
      (boundaries-rows n (suc b) m (λ k. f (suc k)) (λ k. g (suc k)) (λ k. p (suc k) ∙ ap bs (step k)) (λ k. q (suc k) ∙ ap (boundary_of bs os ss) (step k))
      (subst (λ (k : ℕ). sum_below (seen_of bs os ss) k ≤ m) (step n) h))

-- A job's boundaries, by place.
pub decoded : (s : List ℕ) (i b o n : ℕ) → sum_below (seen_count s i) b ≤ o
    → decode_boundaries s i b o n ≡ rows b (boundary_of (boundary_rows s i) (observation_rows s (i + b * 40)) (source_records s (i + b * 40 + o * 28) n))
unfolding decode_boundaries boundary_records observation_records rows sum
decoded s i b o n h =
    let z : (k : ℕ) → k ≡ 0 + k = λ k. omega arith in
    boundaries-rows (boundary_rows s i) (observation_rows s (i + b * 40)) (source_records s (i + b * 40 + o * 28) n) b 0 o
    (boundary_rows s i) (boundary_of (boundary_rows s i) (observation_rows s (i + b * 40)) (source_records s (i + b * 40 + o * 28) n))
    (λ k. ap (boundary_rows s i) (z k))
    (λ k. ap (boundary_of (boundary_rows s i) (observation_rows s (i + b * 40)) (source_records s (i + b * 40 + o * 28) n)) (z k))
    (subst (λ (k : ℕ). sum_below (seen_count s i) k ≤ o) (z b) h)
