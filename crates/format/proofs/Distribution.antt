-- Boundaries, with their observations and sources, as three lists of records: told apart and put together again.
use mathlib.Core.Path.{◌≡◌, refl, sym, ◌∙◌, ap, ap₂}
use mathlib.Core.List.{List, [], ◌∷◌, ◌++◌, map, flat_map, append_assoc, map-append, map-map}
use Prim.Native.Nat.{ℕ, zero, suc, ◌+◌, ◌≤◌}
use native.Mathlib.Omega.{arith}
use lib.ListN.{length, take, drop, length-append, length-map, length-drop, take-append-drop}
use lib.Seq.{take_at, drop_at, take-append_seam, drop-append_seam, take-add, take_all, length-take-le}
use Rattle.lists.specs.Rows.{sum, All, none, more}
use Rattle.lists.proofs.Rows.{sum-append}
use Rattle.lists.proofs.Flat.{flat_map-append, length-flat_map}
use Rattle.lists.proofs.Each.{all_take, all_drop}
use Rattle.format.specs.Values.{Observation, Boundary}
use Rattle.format.specs.Encode.{ramp_record, boundary_record, observation_record, observations_of, sources_with, sources_of}
use Rattle.format.specs.Decode.{ramp_of, source_count, observations_with, boundary_with, boundaries_with}
use Rattle.format.specs.declared.records.Source.{Source}
use Rattle.format.specs.declared.records.BoundaryRecord.{BoundaryRecord}
use Rattle.format.specs.declared.records.ObservationRecord.{ObservationRecord}
use Rattle.format.specs.Fits.{SourceFits, ObservationFits, BoundaryFits, BoundaryRecordFits, ObservationRecordFits}

-- The observation counts of rs give all of os, and the source counts all of ss.
pub record AddUp (rs : List BoundaryRecord) (os : List ObservationRecord) (ss : List Source) : Type 0 where
  pub observations : sum (map (λ (r : BoundaryRecord). r.observations) rs) ≡ length os
  pub sources : sum (map (λ (r : BoundaryRecord). r.sources) rs) + source_count os ≡ length ss

-- The sources of observations.
abbrev pub observed : List Observation → List Source
observed os = flat_map (λ (o : Observation). o.sources) os

source-count : (os : List Observation) → source_count (map observation_record os) ≡ length (observed os)
unfolding source_count observation_record
source-count os = ap sum (map-map (λ (o : ObservationRecord). o.sources) observation_record os) ∙ sym (length-flat_map (λ (o : Observation). o.sources) os)

observations-again : (os : List Observation) (ss : List Source) → observations_with (map observation_record os) (observed os ++ ss) ≡ os
unfolding observations_with observation_record flat_map
observations-again [] ss = refl
observations-again (o ∷ os) ss = simp (append_assoc, take-append_seam, drop-append_seam, observations-again os ss)

boundary-again : (b : Boundary) (ss : List Source) → boundary_with (boundary_record b) (map observation_record b.observations) (sources_with b ++ ss) ≡ b
unfolding boundary_with boundary_record sources_with ramp_of ramp_record
boundary-again b ss = simp (append_assoc, take-append_seam, drop-append_seam, observations-again b.observations ss)

-- Boundaries are put together again from their records.
pub boundaries-again : (bs : List Boundary) → boundaries_with (map boundary_record bs) (map observation_record (observations_of bs)) (sources_of bs) ≡ bs
unfolding boundaries_with boundary_record observations_of sources_of sources_with flat_map
boundaries-again [] = refl
boundaries-again (b ∷ bs) =
    let os = map observation_record b.observations in
    let rest = map observation_record (observations_of bs) in
    let e : map observation_record (b.observations ++ observations_of bs) ≡ os ++ rest = map-append observation_record b.observations (observations_of bs) in
    let t : take (length b.observations) (os ++ rest) ≡ os = take_at os rest (length b.observations) (length-map b.observations observation_record) in
    let d : drop (length b.observations) (os ++ rest) ≡ rest = drop_at os rest (length b.observations) (length-map b.observations observation_record) in
    let n : length (sources_with b) ≡ length b.sources + source_count os
    = length-append b.sources (observed b.observations) ∙ ap (λ (k : ℕ). length b.sources + k) (sym (source-count b.observations)) in
    let f : drop (length b.sources + source_count os) (sources_with b ++ sources_of bs) ≡ sources_of bs =
    drop_at (sources_with b) (sources_of bs) (length b.sources + source_count os) n in
    rw (e, t, d, f, boundaries-again bs, boundary-again b (sources_of bs))

-- The own sources and those of the observations are all.
pub own-and-observed : (bs : List Boundary)
    → sum (map (λ (r : BoundaryRecord). r.sources) (map boundary_record bs)) + length (observed (observations_of bs)) ≡ length (sources_of bs)
unfolding boundary_record observations_of sources_of sources_with flat_map sum
own-and-observed [] = refl
own-and-observed (b ∷ bs) =
    let e = own-and-observed bs in
    rw (flat_map-append (λ (o : Observation). o.sources) b.observations (observations_of bs)) (simp length-append (omega arith))

-- The counts in the records of boundaries add up.
pub records-add-up : (bs : List Boundary) → AddUp (map boundary_record bs) (map observation_record (observations_of bs)) (sources_of bs)
unfolding boundary_record observations_of
records-add-up bs = record {
  observations =
      ap sum (map-map (λ (r : BoundaryRecord). r.observations) boundary_record bs)
      ∙ sym (length-flat_map (λ (b : Boundary). b.observations) bs)
      ∙ sym (length-map (observations_of bs) observation_record);
  sources =
      ap (λ (k : ℕ). sum (map (λ (r : BoundaryRecord). r.sources) (map boundary_record bs)) + k) (source-count (observations_of bs)) ∙ own-and-observed bs;
}

count-split : (k : ℕ) (os : List ObservationRecord) → source_count os ≡ source_count (take k os) + source_count (drop k os)
unfolding source_count
count-split k os =
    let f : ObservationRecord → ℕ = λ o. o.sources in
    ap (λ (l : List ObservationRecord). sum (map f l)) (sym (take-append-drop k os))
    ∙ ap sum (map-append f (take k os) (drop k os))
    ∙ sum-append (map f (take k os)) (map f (drop k os))

-- Of lists that add up a boundary takes its share, and the rest adds up for the others.
module _ {r : BoundaryRecord} {rs : List BoundaryRecord} {os : List ObservationRecord} {ss : List Source} (h : AddUp (r ∷ rs) os ss) where
  enough-observations : r.observations ≤ length os
  unfolding sum
  enough-observations = omega (arith, h.observations)

  enough-sources : r.sources + source_count (take r.observations os) ≤ length ss
  unfolding sum
  enough-sources = omega (arith, h.sources, count-split r.observations os)

  others : AddUp rs (drop r.observations os) (drop (r.sources + source_count (take r.observations os)) ss)
  unfolding sum
  others = record {
    observations = rw length-drop (omega (arith, h.observations));
    sources = rw length-drop (omega (arith, h.sources, count-split r.observations os));
  }

observation-records : (os : List ObservationRecord) (ss : List Source) → source_count os ≤ length ss → map observation_record (observations_with os ss) ≡ os
unfolding observations_with observation_record source_count sum
observation-records [] ss h = refl
observation-records (o ∷ os) ss h =
    let l : length (take o.sources ss) ≡ o.sources = length-take-le o.sources ss (omega arith) in
    rw (l, observation-records os (drop o.sources ss) (rw length-drop (omega arith)))

-- Observations take their sources in order.
observed-with : (os : List ObservationRecord) (ss : List Source) → observed (observations_with os ss) ≡ take (source_count os) ss
unfolding observations_with source_count sum flat_map
observed-with [] ss = refl
observed-with (o ∷ os) ss = rw (observed-with os (drop o.sources ss)) (sym (take-add o.sources (source_count os) ss))

-- An observation for each record.
pub length-observations_with : (os : List ObservationRecord) (ss : List Source) → length (observations_with os ss) ≡ length os
unfolding observations_with
length-observations_with [] ss = refl
length-observations_with (o ∷ os) ss = ap suc (length-observations_with os (drop o.sources ss))

boundary-record : (r : BoundaryRecord) (os : List ObservationRecord) (ss : List Source)
    → length os ≡ r.observations → r.sources ≤ length ss → r.ramp.zero ≡ 0 → boundary_record (boundary_with r os ss) ≡ r
unfolding boundary_record boundary_with ramp_record ramp_of
boundary-record r os ss n l z =
    let e : length (take r.sources ss) ≡ r.sources = length-take-le r.sources ss l in
    let f : length (observations_with os (drop r.sources ss)) ≡ r.observations = length-observations_with os (drop r.sources ss) ∙ n in
    λ i. record {
      ends = r.ends;
      bits = r.bits;
      sources = e i;
      observations = f i;
      ramp = record { end = r.ramp.end; lower = r.ramp.lower; upper = r.ramp.upper; zero = sym z i; id = r.ramp.id };
    }

-- Boundaries that are made of records that add up have these boundary records,
pub boundary-records : (rs : List BoundaryRecord) (os : List ObservationRecord) (ss : List Source)
    → AddUp rs os ss → All (λ (r : BoundaryRecord). r.ramp.zero ≡ 0) rs → map boundary_record (boundaries_with rs os ss) ≡ rs
unfolding boundaries_with
boundary-records [] os ss a none = refl
boundary-records (r ∷ rs) os ss a (more p z) =
    ap₂ {B = List BoundaryRecord} {C = List BoundaryRecord} (λ x t. x ∷ t)
    (boundary-record r (take r.observations os) ss (length-take-le r.observations os (enough-observations a)) (omega (arith, enough-sources a)) p)
    (boundary-records rs (drop r.observations os) (drop (r.sources + source_count (take r.observations os)) ss) (others a) z)

-- these observation records,
pub all-observations : (rs : List BoundaryRecord) (os : List ObservationRecord) (ss : List Source) → AddUp rs os ss
    → map observation_record (observations_of (boundaries_with rs os ss)) ≡ os
unfolding boundaries_with observations_of flat_map sum boundary_with
all-observations [] os ss a = take_all 0 os (omega (arith, a.observations))
all-observations (r ∷ rs) os ss a =
    let l : source_count (take r.observations os) ≤ length (drop r.sources ss) = rw length-drop (omega (arith, enough-sources a)) in
    map-append observation_record (observations_with (take r.observations os) (drop r.sources ss)) _
    ∙ ap₂ ◌++◌
    (observation-records (take r.observations os) (drop r.sources ss) l)
    (all-observations rs (drop r.observations os) (drop (r.sources + source_count (take r.observations os)) ss) (others a))
    ∙ take-append-drop r.observations os

-- and these sources.
pub all-sources : (rs : List BoundaryRecord) (os : List ObservationRecord) (ss : List Source) → AddUp rs os ss → sources_of (boundaries_with rs os ss) ≡ ss
unfolding boundaries_with sources_of flat_map sum source_count sources_with boundary_with
all-sources [] os ss a =
    let e : ◌≡◌ {A = List ObservationRecord} [] os = take_all 0 os (omega (arith, a.observations)) in
    take_all 0 ss (omega (arith, a.sources, ap source_count e))
all-sources (r ∷ rs) os ss a =
    let m = r.sources + source_count (take r.observations os) in
    ap₂ ◌++◌
    (ap (λ (t : List Source). take r.sources ss ++ t) (observed-with (take r.observations os) (drop r.sources ss))
    ∙ sym (take-add r.sources (source_count (take r.observations os)) ss))
    (all-sources rs (drop r.observations os) (drop m ss) (others a))
    ∙ take-append-drop m ss

-- What a boundary has from its record alone.
pub map-boundaries_with : {A : Type 0} (f : Boundary → A) (g : BoundaryRecord → A)
    → ((r : BoundaryRecord) (os : List ObservationRecord) (ss : List Source) → f (boundary_with r os ss) ≡ g r)
    → (rs : List BoundaryRecord) (os : List ObservationRecord) (ss : List Source) → map f (boundaries_with rs os ss) ≡ map g rs
unfolding boundaries_with
map-boundaries_with f g e [] os ss = refl
map-boundaries_with f g e (r ∷ rs) os ss =
    ap₂ (λ x t. x ∷ t)
    (e r (take r.observations os) ss)
    (map-boundaries_with f g e rs (drop r.observations os) (drop (r.sources + source_count (take r.observations os)) ss))

-- A boundary for each record.
pub length-boundaries_with : (rs : List BoundaryRecord) (os : List ObservationRecord) (ss : List Source) → length (boundaries_with rs os ss) ≡ length rs
unfolding boundaries_with
length-boundaries_with [] os ss = refl
length-boundaries_with (r ∷ rs) os ss =
    ap suc (length-boundaries_with rs (drop r.observations os) (drop (r.sources + source_count (take r.observations os)) ss))

-- Observations that are made of records that fit are within the limits.
observations-within : {os : List ObservationRecord} {ss : List Source} → All ObservationRecordFits os → All SourceFits ss
    → All ObservationFits (observations_with os ss)
unfolding observations_with
observations-within none k = none
observations-within (more {x} f h) k =
    more (record { ends = f.ends; bits = f.bits; sources = all_take x.sources k }) (observations-within h (all_drop x.sources k))

-- So are the boundaries.
pub boundaries-within : {rs : List BoundaryRecord} {os : List ObservationRecord} {ss : List Source}
    → All BoundaryRecordFits rs → All ObservationRecordFits os → All SourceFits ss → All BoundaryFits (boundaries_with rs os ss)
unfolding boundaries_with boundary_with ramp_of
boundaries-within none h k = none
boundaries-within {os} (more {x} f g) h k =
    more
    (record {
      ends = f.ends;
      bits = f.bits;
      ramp = record { end = f.ramp.end; lower = f.ramp.lower; upper = f.ramp.upper; id = f.ramp.id };
      sources = all_take x.sources k;
      observations = observations-within (all_take x.observations h) (all_drop x.sources k);
    })
    (boundaries-within g (all_drop x.observations h) (all_drop (x.sources + source_count (take x.observations os)) k))
