-- The records are the pairs of each span, the span's place being the owner.
use mathlib.Core.Path.{◌≡◌, sym, ap, subst}
use mathlib.Core.Logic.{◌↔◌, ⊎_elim}
use mathlib.Core.List.{List, [], ◌∷◌, map, Memᴰ}
use Prim.Native.Nat.{ℕ, zero, suc, ◌+◌, ◌≤◌, ◌<◌}
use native.Mathlib.Omega.{arith}
use lib.ListN.{length, get_or, length-map, get_or-map}
use Rattle.order.specs.Pairs.{Pairs, none}
use Rattle.order.proofs.Pairs.{pairs-all, pairs-append, pairs-map}
use Rattle.position.specs.declared.Span.{Span}
use Rattle.graph.specs.Records.{Record}
use Rattle.grid.specs.Cells.{Grid}
use Rattle.areas.specs.Assessments.{RegionPair, record_of, regions_of, owned, assess, records}

module _ (d : List RegionPair) where
  -- the record is a pair of the place that its owner names
  record Own (i : ℕ) (pss : List (List RegionPair)) (r : Record) : Type 0 where
    place : ℕ
    inside : place < length pss
    owner : r.owner ≡ i + place
    pair : Memᴰ (regions_of r) (get_or pss place d)

  owned-own : (i : ℕ) (pss : List (List RegionPair)) {r : Record} → Memᴰ r (owned i pss) → Own i pss r
  unfolding owned
  owned-own i [] m = absurd (mathlib.Core.List.Memᴰ.not-nil m)
  owned-own i (ps ∷ rest) {r} m =
      ⊎_elim
      (λ (k : Memᴰ r (map (record_of i) ps)).
      let w = mathlib.Core.List.Memᴰ.of_map (record_of i) ps k in
      subst (λ (x : Record). Own i (ps ∷ rest) x) w.2 (record { place = 0; inside = omega arith; owner = omega arith; pair = w.1 }))
      (λ (k : Memᴰ r (owned (suc i) rest)). let w = owned-own (suc i) rest k in
      record { place = suc w.place; inside = omega arith; owner = omega arith; pair = w.pair })
      (mathlib.Core.List.Memᴰ.append_cases (map (record_of i) ps) m)

  own-owned : (i : ℕ) (pss : List (List RegionPair)) (k : ℕ) (r : Record) → k < length pss → r.owner ≡ i + k → Memᴰ (regions_of r) (get_or pss k d) →
      Memᴰ r (owned i pss)
  unfolding owned
  own-owned i [] k r l o m = absurd (omega arith)
  own-owned i (ps ∷ rest) zero r l o m =
      let e : r.owner ≡ i = omega arith in
      mathlib.Core.List.Memᴰ.append_left (owned (suc i) rest)
      (subst (λ (k : ℕ). Memᴰ r (map (record_of k) ps)) e (mathlib.Core.List.Memᴰ.map (record_of r.owner) m))
  own-owned i (ps ∷ rest) (suc k) r l o m =
      mathlib.Core.List.Memᴰ.append_right (map (record_of i) ps) (own-owned (suc i) rest k r (omega arith) (omega arith) m)

-- they stand in the order of their owners
owned-rising : (i : ℕ) (pss : List (List RegionPair)) → Pairs (λ (r s : Record). r.owner ≤ s.owner) (owned i pss)
unfolding owned
owned-rising i [] = none
owned-rising i (ps ∷ rest) =
    pairs-append (pairs-map (record_of i) {R = λ p q. i ≤ i} (λ p q l. l) (pairs-all (λ p q. omega arith) ps)) (owned-rising (suc i) rest)
    (λ r s m n.
    let own : r.owner ≡ i = ap (λ (x : Record). x.owner) (sym (mathlib.Core.List.Memᴰ.of_map (record_of i) ps m).2) in
    let later = owned-own [] (suc i) rest n in
    omega (arith, own, later.owner))

pub records-rising : (dirs : List ℕ) (g : Grid) (ss : List Span) → Pairs (λ (r s : Record). r.owner ≤ s.owner) (records dirs g ss)
unfolding records
records-rising dirs g ss = owned-rising 0 (map (λ s. (assess dirs g ss s).pairs) ss)

module _ (dirs : List ℕ) (g : Grid) (ss : List Span) (d : Span) where
  pairs_of : Span → List RegionPair
  pairs_of s = (assess dirs g ss s).pairs

  pub records-iff : (r : Record)
      → Memᴰ r (records dirs g ss) ↔ ((r.owner < length ss) × Memᴰ (regions_of r) (assess dirs g ss (get_or ss r.owner d)).pairs)
  unfolding records pairs_of
  records-iff r = (to, from)
    where
      to : Memᴰ r (records dirs g ss) → (r.owner < length ss) × Memᴰ (regions_of r) (pairs_of (get_or ss r.owner d))
      to m =
          let w = owned-own (pairs_of d) 0 (map pairs_of ss) m in
          let e : w.place ≡ r.owner = omega arith in
          let q = subst (λ (l : List RegionPair). Memᴰ (regions_of r) l) (get_or-map pairs_of ss w.place d) w.pair in
          (omega (arith, length-map ss pairs_of), subst (λ (k : ℕ). Memᴰ (regions_of r) (pairs_of (get_or ss k d))) e q)

      from : (r.owner < length ss) × Memᴰ (regions_of r) (pairs_of (get_or ss r.owner d)) → Memᴰ r (records dirs g ss)
      from (l, m) =
          own-owned (pairs_of d) 0 (map pairs_of ss) r.owner r (omega (arith, length-map ss pairs_of)) (omega arith)
          (subst (λ (x : List RegionPair). Memᴰ (regions_of r) x) (sym (get_or-map pairs_of ss r.owner d)) m)
