-- The pairs of an assessment: those of the separated steps, in order, each once, between labels in use.
use mathlib.Core.Path.{◌≡◌, sym, ap}
use mathlib.Core.Logic.{◌↔◌}
use mathlib.Core.Bool.{true}
use mathlib.Core.List.Memᴰ
use mathlib.Core.List.{List, map, Memᴰ}
use Prim.Native.Nat.{ℕ, ◌<◌, ◌≤◌, min, max}
use native.Mathlib.Omega.{arith}
use borrow.Author.Tests.{eqb-false, ne_eqb, not-true}
use lib.Dec.{eqb}
use Rattle.order.specs.Lists.{keep}
use Rattle.order.specs.Orders.{TotalOrder}
use Rattle.order.specs.Keys.{by_key, Injective}
use Rattle.order.specs.Pairs.{Distinct, Sorted, SameMembers}
use Rattle.order.proofs.Keep.{keep-mem, mem-keep}
use Rattle.order.proofs.Keys.{key-order}
use Rattle.order.proofs.Once.{once-members, once-sorted, once-distinct}
use Rattle.position.specs.Order.{canonical}
use Rattle.position.specs.declared.Span.{Span}
use Rattle.graph.specs.Path.{Edge}
use Rattle.grid.specs.Cells.{Grid}
use Rattle.grid.proofs.StepList.{steps-among, steps_on}
use Rattle.areas.specs.Cuts.{cut_steps}
use Rattle.areas.specs.Areas.{area_labels, area_count, label_at}
use Rattle.areas.specs.Assessments.{RegionPair, pair_key, is_separated, label_pair, assessment, PairOf, assess}
use Rattle.areas.proofs.Cuts.{cut-steps-iff, cut-steps-same}
use Rattle.areas.proofs.Areas.{labels-by-first-cell, label-at-most, labels-depend-on-the-set}

-- a pair is known by its two labels
pub pair-injective : Injective pair_key
pair-injective p q e =
    let l : p.lower ≡ q.lower = cc in
    let h : p.higher ≡ q.higher = cc in λ i. record { lower = l i; higher = h i }

pub pair-order : TotalOrder (by_key pair_key)
pair-order = key-order pair_key pair-injective

module _ (ls : List ℕ) (es : List Edge) where
  -- the pairs are those of the steps whose ends have different labels
  pub pairs-iff : (p : RegionPair) → Memᴰ p (assessment ls es).pairs ↔ PairOf ls es p
  unfolding assessment
  pairs-iff p = (to, from)
    where
      all : List RegionPair
      all = map (label_pair ls) (keep (is_separated ls) es)

      to : Memᴰ p (assessment ls es).pairs → PairOf ls es p
      to m =
          let w = Memᴰ.of_map (label_pair ls) (keep (is_separated ls) es) ((once-members pair-order all p).0 m) in
          let k = keep-mem (is_separated ls) es w.1 in
          let l = label_at ls w.0.left in
          let r = label_at ls w.0.right in
          record { step = w.0; among = k.0; differ = eqb-false l r (not-true (eqb l r) k.1); labels = w.2 }

      from : PairOf ls es p → Memᴰ p (assessment ls es).pairs
      from w =
          let t : is_separated ls w.step ≡ true = rw (ne_eqb (label_at ls w.step.left) (label_at ls w.step.right) w.differ) in
          (once-members pair-order all p).1 (Memᴰ.cast (sym w.labels) (Memᴰ.map (label_pair ls) (mem-keep (is_separated ls) w.among t)))

  pub pairs-sorted : Sorted (by_key pair_key) (assessment ls es).pairs
  unfolding assessment
  pairs-sorted = once-sorted pair-order (map (label_pair ls) (keep (is_separated ls) es))

  pub pairs-distinct : Distinct (assessment ls es).pairs
  unfolding assessment
  pairs-distinct = once-distinct pair-order (map (label_pair ls) (keep (is_separated ls) es))

-- two different labels in use
lower-higher : {l r n x y : ℕ} → (l ≡ r → ⊥) → 0 < l → 0 < r → l ≤ n → r ≤ n → min l r ≡ x → max l r ≡ y → (0 < x) × (x < y) × (y ≤ n)
lower-higher d a b u v f k = omega arith

module _ (dirs : List ℕ) (g : Grid) where
  -- the labels of a pair are in use, and the lower is the lower
  pub pair-labels : (ss : List Span) (s : Span) (p : RegionPair) → Memᴰ p (assess dirs g ss s).pairs →
      (0 < p.lower) × (p.lower < p.higher) × (p.higher ≤ area_count dirs g ss)
  unfolding assess
  pair-labels ss s p m =
      let w = (pairs-iff (area_labels dirs g ss) (cut_steps dirs g s) p).0 m in
      let e = w.step in
      let c = ((cut-steps-iff dirs g s e).0 w.among).0 in
      let on = steps_on dirs g e c in
      let in_use = (labels-by-first-cell dirs g ss).some in
      lower-higher w.differ (in_use e.left on.0 (steps-among dirs g e c).0) (in_use e.right on.1 (steps-among dirs g e c).1)
      (label-at-most dirs g ss e.left on.0) (label-at-most dirs g ss e.right on.1)
      (ap (λ (q : RegionPair). q.lower) w.labels) (ap (λ (q : RegionPair). q.higher) w.labels)

  -- what an assessment depends on: the set of spans, and the span's ends however listed
  pub assess-same : (ss ts : List Span) → SameMembers (map canonical ss) (map canonical ts) → (s t : Span) → canonical s ≡ canonical t
      → assess dirs g ss s ≡ assess dirs g ts t
  unfolding assess
  assess-same ss ts same s t h = rw (labels-depend-on-the-set dirs g ss ts same, cut-steps-same dirs g s t h)
