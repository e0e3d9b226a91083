-- The edges of the records outside a range, by place; a range made smaller by joining some of its records.
use mathlib.Core.Path.{◌≡◌, sym, ◌∙◌, ap}
use mathlib.Core.Logic.{◌⊎◌, inl, inr, ⊎_elim, by_cases}
use mathlib.Core.Bool.{false, ◌&&◌}
use mathlib.Core.List.Memᴰ
use mathlib.Core.List.{List, [], Memᴰ}
use Prim.Native.Nat.{ℕ, zero, suc, ◌+◌, ◌-◌, ◌≤◌, ◌<◌}
use native.Mathlib.Omega.{arith}
use native.Mathlib.Decide.{dec_lt}
use borrow.Author.Tests.{leb-false, ltb-false, lt-leb, le-ltb}
use lib.Dec.{leb, ltb}
use Rattle.lists.specs.Rows.{at}
use Rattle.order.specs.Pairs.{SameMembers}
use Rattle.order.proofs.Bools.{by-test}
use Rattle.graph.specs.Path.{Edge}
use Rattle.graph.specs.Parts.{component_of}
use Rattle.graph.specs.Records.{record_in, records_in, record_edge}
use Rattle.graph.proofs.Parts.{part-edges}
use Rattle.graph.proofs.Records.{records-length, records-at, edge-remains, remains-edge}
use Rattle.marks_closing.specs.Forest.{RootedForest}
use Rattle.marks_closing.specs.Log.{adding}
use Rattle.marks_closing.specs.Ranges.{stands_within, other_edges}

-- the place is outside the range
abbrev pub Outside : ℕ → ℕ → ℕ → Type 0
Outside from to k = (k < from) ⊎ (to ≤ k)

pub outside-placed : (from to k : ℕ) → Outside from to k → (leb from k && ltb k to) ≡ false
outside-placed from to k o = ⊎_elim (λ l. rw (lt-leb from k l)) (λ l. by-test (leb from k) (λ e. rw (e, le-ltb k to l)) (λ e. rw e)) o

pub placed-outside : (from to k : ℕ) → (leb from k && ltb k to) ≡ false → Outside from to k
placed-outside from to k h = by-test (leb from k) (λ e. inr (ltb-false k to (rw e at h))) (λ e. inl (leb-false from k e))

-- the same edges make the same forest
pub forest-same : {es fs : List Edge} {parents : List ℕ} → SameMembers es fs → RootedForest es parents → RootedForest fs parents
forest-same {es} {fs} {parents} s f = record {
  along = λ i l. sym (same (at parents i)) ∙ (f.along i l ∙ same i);
  one = λ i j l m p q e. f.one i j l m p q (same i ∙ (e ∙ sym (same j)));
}
  where
    same : (c : ℕ) → component_of es c ≡ component_of fs c
    same = part-edges es fs s

module _ (owners lefts rights : List ℕ) where
  module _ (K from to : ℕ) where
    place_rest : (k : ℕ) → k < K → Outside from to k → Memᴰ (record_edge (record_in owners lefts rights k)) (other_edges owners lefts rights K from to)
    place_rest k l o = remains-edge (stands_within from to) (records_in owners lefts rights K) (record {
      place = k;
      inside = omega (arith, records-length owners lefts rights K);
      spared = outside-placed from to k o;
      stands = records-at owners lefts rights K k l;
    })

    rest-place : {e : Edge} → Memᴰ e (other_edges owners lefts rights K from to) → (k : ℕ) × (k < K) × Outside from to k ×
        (record_edge (record_in owners lefts rights k) ≡ e)
    rest-place m =
        let w = edge-remains (stands_within from to) (records_in owners lefts rights K) m in
        let l : w.1.place < K = omega (arith, w.1.inside, records-length owners lefts rights K) in (
          w.1.place,
          l,
          placed-outside from to w.1.place w.1.spared,
          ap record_edge (sym (records-at owners lefts rights K w.1.place l) ∙ w.1.stands) ∙ w.2,
        )

  adding-old : (c d : ℕ) {es : List Edge} {e : Edge} → Memᴰ e es → Memᴰ e (adding lefts rights c d es)
  unfolding adding
  adding-old c zero m = m
  adding-old c (suc d) m = Memᴰ.tail (adding-old c d m)

  adding-new : (c d : ℕ) (es : List Edge) (k : ℕ) → c ≤ k → k < c + d → Memᴰ (record_edge (record_in owners lefts rights k)) (adding lefts rights c d es)
  unfolding adding
  adding-new c zero es k l m = absurd (omega arith)
  adding-new c (suc d) es k l m =
      by_cases (dec_lt k (c + d)) (λ h. Memᴰ.tail (adding-new c d es k l h))
      (λ h. Memᴰ.head (let z : k ≡ c + d = omega arith in ap (λ (i : ℕ). record_edge (record_in owners lefts rights i)) z))

  adding-either : (c d : ℕ) (es : List Edge) {e : Edge} → Memᴰ e (adding lefts rights c d es) → Memᴰ e es ⊎
      ((k : ℕ) × (c ≤ k) × (k < c + d) × (record_edge (record_in owners lefts rights k) ≡ e))
  unfolding adding
  adding-either c zero es m = inl m
  adding-either c (suc d) es (Memᴰ.head h) = inr (c + d, omega arith, omega arith, sym h)
  adding-either c (suc d) es (Memᴰ.tail m) = ⊎_elim inl (λ w. inr (w.0, w.1, omega (arith, w.2), w.3)) (adding-either c d es m)

  -- with the records of c, …, c + d - 1 joined, those of a smaller range are left out
  module _ (K from to c d a b : ℕ) (few : c + d ≤ K)
      (old : (k : ℕ) → Outside from to k → Outside a b k) (new : (k : ℕ) → c ≤ k → k < c + d → Outside a b k)
      (either : (k : ℕ) → Outside a b k → Outside from to k ⊎ ((c ≤ k) × (k < c + d))) where
    rest-smaller : SameMembers (adding lefts rights c d (other_edges owners lefts rights K from to)) (other_edges owners lefts rights K a b)
    rest-smaller e = (
      λ m. ⊎_elim
          (λ n. let w = rest-place K from to n in Memᴰ.cast (sym w.3) (place_rest K a b w.0 w.1 (old w.0 w.2)))
          (λ w. Memᴰ.cast (sym w.3) (place_rest K a b w.0 (omega (arith, w.2)) (new w.0 w.1 w.2)))
          (adding-either c d (other_edges owners lefts rights K from to) m),
      λ m.
          let w = rest-place K a b m in
          Memᴰ.cast (sym w.3)
          (⊎_elim (λ o. adding-old c d (place_rest K from to w.0 w.1 o))
          (λ v. adding-new c d (other_edges owners lefts rights K from to) w.0 v.0 v.1) (either w.0 w.2)),
    )

  module _ {K from m to : ℕ} (lf : from ≤ m) (lm : m ≤ to) (lt : to ≤ K) {parents : List ℕ} where
    -- the second half is joined, and the first is left out
    pub first-half : RootedForest (adding lefts rights m (to - m) (other_edges owners lefts rights K from to)) parents
        → RootedForest (other_edges owners lefts rights K from m) parents
    first-half = forest-same (rest-smaller K from to m (to - m) from m (omega arith)
        (λ k o. ⊎_elim inl (λ h. inr (omega arith)) o) (λ k h g. inr h)
        (λ k o. ⊎_elim (λ h. inl (inl h)) (λ h. by_cases (dec_lt k to) (λ g. inr (h, omega arith)) (λ g. inl (inr (omega arith)))) o))

    -- the first half is joined, and the second is left out
    pub second-half : RootedForest (adding lefts rights from (m - from) (other_edges owners lefts rights K from to)) parents → RootedForest
        (other_edges owners lefts rights K m to) parents
    second-half = forest-same (rest-smaller K from to from (m - from) m to (omega arith)
        (λ k o. ⊎_elim (λ h. inl (omega arith)) inr o) (λ k h g. inl (omega arith))
        (λ k o. ⊎_elim (λ h. by_cases (dec_lt k from) (λ g. inl (inl g)) (λ g. inr (omega arith, omega arith))) (λ h. inl (inr h)) o))

  -- outside all records there is none
  pub rest_all : (K : ℕ) → SameMembers [] (other_edges owners lefts rights K 0 K)
  rest_all K e = (
    λ m. absurd (Memᴰ.not-nil m),
    λ m. let w = rest-place K 0 K m in absurd (⊎_elim (λ l. omega (arith, w.1)) (λ l. omega (arith, w.1)) w.2),
  )
