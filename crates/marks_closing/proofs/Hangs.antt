-- One root put under another that is no lower.
use mathlib.Core.Path.{◌≡◌, sym, ◌∙◌, ap}
use mathlib.Core.Logic.{by_cases, ◌⊎◌, ⊎_elim}
use mathlib.Core.List.{List}
use Prim.Native.Nat.{ℕ, suc, ◌+◌, ◌-◌, ◌≤◌, ◌<◌}
use native.Mathlib.Omega.{arith}
use native.Mathlib.Decide.{ℕ_discrete}
use borrow.Author.Tests.{eq-eqb, ne_eqb}
use lib.ListN.{length, set, length-set}
use lib.Seq.{get_or-set_same, get_or-set_other, set-set, set-get_or}
use Rattle.lists.specs.Rows.{at}
use Rattle.graph.specs.Path.{Edge}
use Rattle.graph.specs.Parts.{component_of}
use Rattle.graph.proofs.Parts.{part-kept, part-ends, AtEnd, part_apart}
use Rattle.marks_closing.specs.Forest.{HeightTrees, Along, RootedForest}
use Rattle.marks_closing.specs.Log.{ForestTables, raised_height, hung, taken_back, undone, LogRoom, SameLog, GrownForest, joining}
use Rattle.marks_closing.proofs.Undoes.{undone-none, undone-last}

-- the new height is over that of the lower, no less than it was and at most one more
record Raised (low high r : ℕ) : Type 0 where
  above : low < r
  kept : high ≤ r
  near : r ≤ high + 1

raised_is : (low high : ℕ) → low ≤ high → Raised low high (raised_height low high)
raised_is low high l =
    by_cases (ℕ_discrete low high) (λ e. rw (eq-eqb low high e) (record { above = omega arith; kept = omega arith; near = omega arith }))
    (λ d. rw (ne_eqb low high d) (let h : low < high = less d in record { above = omega arith; kept = omega arith; near = omega arith }))
  where
    less : (low ≡ high → ⊥) → low < high
    less d = by_cases (ℕ_discrete low high) (λ e. absurd (d e)) (λ e. omega arith)

-- low and high are roots, low is no higher, and the parts of the two are those of the ends
pub record Hanging (s : ForestTables) (low high left right : ℕ) : Type 0 where
  pub low-in : low < length s.parents
  pub high-in : high < length s.parents
  pub low-own : at s.parents low ≡ low
  pub high-own : at s.parents high ≡ high
  pub apart : low ≡ high → ⊥
  pub lower : at s.heights low ≤ at s.heights high
  pub ends : (es : List Edge) → Along es s.parents →
      ((component_of es low ≡ component_of es left) × (component_of es high ≡ component_of es right))
      ⊎ ((component_of es low ≡ component_of es right) × (component_of es high ≡ component_of es left))

module _ {s : ForestTables} {n low high left right : ℕ} (room : LogRoom s n 1) (g : Hanging s low high left right) where
  up-low : at (set s.parents low high) low ≡ high
  up-low = get_or-set_same s.parents low high 0 g.low-in

  up-off : (i : ℕ) → (i ≡ low → ⊥) → at (set s.parents low high) i ≡ at s.parents i
  up-off i d = get_or-set_other s.parents low i high 0 d

  top-is : Raised (at s.heights low) (at s.heights high) (at (set s.heights high (raised_height (at s.heights low) (at s.heights high))) high)
  top-is =
      rw (get_or-set_same s.heights high (raised_height (at s.heights low) (at s.heights high)) 0 (omega (arith, g.high-in, room.trees.sized)))
      (raised_is (at s.heights low) (at s.heights high) g.lower)

  top-off : (i : ℕ) → (i ≡ high → ⊥) → at (set s.heights high (raised_height (at s.heights low) (at s.heights high))) i ≡ at s.heights i
  top-off i d = get_or-set_other s.heights high i (raised_height (at s.heights low) (at s.heights high)) 0 d

  -- no height has fallen
  top_kept : (i : ℕ) → at s.heights i ≤ at (set s.heights high (raised_height (at s.heights low) (at s.heights high))) i
  top_kept i =
      by_cases (ℕ_discrete i high) (λ e. omega (arith, ap (at s.heights) e, ap (at (hung s n low high).heights) e, top-is.kept))
      (λ d. omega (arith, top-off i d))

  below : (i : ℕ) → i < length s.parents → at (set s.parents low high) i < length s.parents
  below i l =
      by_cases (ℕ_discrete i low) (λ e. omega (arith, ap (at (set s.parents low high)) e, up-low, g.high-in))
      (λ d. omega (arith, up-off i d, room.trees.inside i l))

  rising : (i : ℕ) → i < length s.parents → (at (set s.parents low high) i ≡ i → ⊥) →
      at (hung s n low high).heights i < at (hung s n low high).heights (at (set s.parents low high) i)
  rising i l d = by_cases (ℕ_discrete i low) under other
    where
      under : i ≡ low → at (hung s n low high).heights i < at (hung s n low high).heights (at (set s.parents low high) i)
      under e =
          rw (e, up-low) (omega (arith, top-off low g.apart, top-is.above))

      other : (i ≡ low → ⊥) → at (hung s n low high).heights i < at (hung s n low high).heights (at (set s.parents low high) i)
      other o =
          let off : i ≡ high → ⊥ = λ e. d (up-off i o ∙ (ap (at s.parents) e ∙ (g.high-own ∙ sym e))) in
          let rise = room.trees.rising i l (λ e. d (up-off i o ∙ e)) in
          rw (up-off i o) (omega (arith, rise, top-off i off, top_kept (at s.parents i)))

  hung-trees : HeightTrees (hung s n low high).parents (hung s n low high).heights
  hung-trees = record {
    sized = simp length-set room.trees.sized;
    inside = λ i l. simp length-set (below i (simp length-set at l));
    rising = λ i l. rising i (simp length-set at l);
  }

  hung-low : (i : ℕ) → i < length s.parents → at (hung s n low high).heights i ≤ n + 1
  hung-low i l =
      by_cases (ℕ_discrete i high) (λ e. omega (arith, ap (at (hung s n low high).heights) e, top-is.near, room.low high g.high-in))
      (λ d. omega (arith, top-off i d, room.low i l))

  hung-log : SameLog n s (hung s n low high)
  hung-log = record {
    joined-size = simp length-set;
    earlier-size = simp length-set;
    joined_same = λ k l. get_or-set_other s.joined n k low 0 (λ e. omega arith);
    earlier-same = λ k l. get_or-set_other s.earlier n k (at s.heights high) 0 (λ e. omega arith);
  }

  last-joined : at (set s.joined n low) n ≡ low
  last-joined = get_or-set_same s.joined n low 0 (omega (arith, room.joined-room))

  last-earlier : at (set s.earlier n (at s.heights high)) n ≡ at s.heights high
  last-earlier = get_or-set_same s.earlier n (at s.heights high) 0 (omega (arith, room.earlier-room))

  -- one step back
  step : undone (hung s n low high) n (n + 1 - n) ≡ taken_back (hung s n low high) n
  step =
      let count : n + 1 - n ≡ suc 0 = omega arith in
      let place : n + 0 ≡ n = omega arith in
      ap (undone (hung s n low high) n) count ∙ (undone-last (hung s n low high) n 0
      ∙ (ap (λ (i : ℕ). undone (taken_back (hung s n low high) i) n 0) place ∙ undone-none (taken_back (hung s n low high) n) n))

  own-again : set s.parents low low ≡ s.parents
  own-again = ap (set s.parents low) (sym g.low-own) ∙ set-get_or s.parents low 0

  parents-again : (taken_back (hung s n low high) n).parents ≡ s.parents
  parents-again = rw last-joined (set-set s.parents low high low ∙ own-again)

  heights-again : (taken_back (hung s n low high) n).heights ≡ s.heights
  heights-again =
      rw (last-joined, up-low, last-earlier)
      (set-set s.heights high (raised_height (at s.heights low) (at s.heights high)) (at s.heights high) ∙ set-get_or s.heights high 0)

  module _ (es : List Edge) (f : RootedForest es s.parents) where
    joined-ends : component_of (joining left right es) low ≡ component_of (joining left right es) high
    joined-ends =
        ⊎_elim
        (λ w. kept low left w.0 ∙ (across ∙ sym (kept high right w.1)))
        (λ w. kept low right w.0 ∙ (sym across ∙ sym (kept high left w.1)))
        (g.ends es f.along)
      where
        across : component_of (joining left right es) left ≡ component_of (joining left right es) right
        across = part-ends (record { left = left; right = right }) es

        kept : (a b : ℕ) → component_of es a ≡ component_of es b → component_of (joining left right es) a ≡ component_of (joining left right es) b
        kept a b h = part-kept (record { left = left; right = right }) es a b h

    -- a root other than low in the part of an end is high
    at_high : (i : ℕ) → i < length s.parents → (i ≡ low → ⊥) → at s.parents i ≡ i → AtEnd (record { left = left; right = right }) es i → i ≡ high
    at_high i l d own a =
        ⊎_elim (λ w. ⊎_elim (λ e. is-low (e ∙ sym w.0)) (λ e. is-high (e ∙ sym w.1)) a)
        (λ w. ⊎_elim (λ e. is-high (e ∙ sym w.1)) (λ e. is-low (e ∙ sym w.0)) a) (g.ends es f.along)
      where
        is-high : component_of es i ≡ component_of es high → i ≡ high
        is-high e = f.one i high l g.high-in own g.high-own e

        is-low : component_of es i ≡ component_of es low → i ≡ high
        is-low e = absurd (d (f.one i low l g.low-in own g.low-own e))

    hung-along : (i : ℕ) → i < length s.parents
        → component_of (joining left right es) (at (set s.parents low high) i) ≡ component_of (joining left right es) i
    hung-along i l =
        by_cases (ℕ_discrete i low) (λ e. rw (e, up-low) (sym joined-ends))
        (λ d. rw (up-off i d) (part-kept (record { left = left; right = right }) es (at s.parents i) i (f.along i l)))

    hung-one : (i j : ℕ) → i < length s.parents → j < length s.parents → at (set s.parents low high) i ≡ i → at (set s.parents low high) j ≡ j →
        component_of (joining left right es) i ≡ component_of (joining left right es) j → i ≡ j
    hung-one i j l m p q e =
        ⊎_elim (f.one i j l m (own i p) (own j q))
        (λ w. at_high i l (off i p) (own i p) w.0 ∙ sym (at_high j m (off j q) (own j q) w.1))
        (part_apart (record { left = left; right = right }) es i j e)
      where
        off : (k : ℕ) → at (set s.parents low high) k ≡ k → k ≡ low → ⊥
        off k r h = g.apart (sym h ∙ (sym r ∙ (ap (at (set s.parents low high)) h ∙ up-low)))

        own : (k : ℕ) → at (set s.parents low high) k ≡ k → at s.parents k ≡ k
        own k r = sym (up-off k (off k r)) ∙ r

    hung-forest : RootedForest (joining left right es) (hung s n low high).parents
    hung-forest = record {
      along = λ i l. hung-along i (simp length-set at l);
      one = λ i j l m. hung-one i j (simp length-set at l) (simp length-set at m);
    }

  pub hung-grown : {t : ForestTables} → t ≡ hung s n low high → GrownForest (joining left right) 1 s n t (n + 1)
  hung-grown e = rw e (record {
    from = omega arith;
    upto = omega arith;
    size = simp length-set;
    trees = hung-trees;
    low = λ i l. hung-low i (simp length-set at l);
    log = hung-log;
    inside = λ k l m. let z : k ≡ n = omega arith in rw z (rw last-joined (simp length-set g.low-in));
    parents-back = ap (λ (x : ForestTables). x.parents) step ∙ parents-again;
    heights-back = ap (λ (x : ForestTables). x.heights) step ∙ heights-again;
    forest = hung-forest;
  })
