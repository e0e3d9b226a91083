-- A range closed from its first boundary on: at each turn the first half of what is left is closed, and then joined.
use mathlib.Core.Path.{◌≡◌, refl, sym, ◌∙◌, ap, subst, subst₂}
use mathlib.Core.List.{List}
use Prim.Native.Nat.{ℕ, ◌+◌, ◌-◌, ◌≤◌, ◌<◌}
use native.Mathlib.Omega.{arith}
use lib.ListN.{length, set}
use Rattle.lists.specs.Rows.{at}
use Rattle.graph.specs.Path.{Edge}
use Rattle.graph.specs.Records.{records_in}
use Rattle.marks_closing.specs.Forest.{HeightTrees, RootedForest}
use Rattle.marks_closing.specs.Log.{ForestTables, undone, Undoable, ForestRestored, GrownForest, adding}
use Rattle.marks_closing.specs.Marks.{bit, MarkedRange}
use Rattle.marks_closing.specs.Ranges.{OwnersSplit, some_parted, other_edges, OpenRange, ClosedRange}
use Rattle.marks_closing.proofs.Undoes.{undone-parents, undone-heights}
use Rattle.marks_closing.proofs.Grows.{log-trans, grown-with, grown-none, grown-trans, grown-undoable}
use Rattle.marks_closing.proofs.Runs.{room-less}
use Rattle.marks_closing.proofs.Halves.{restored-none, restored-back, alike, open-right, marked-halves, done-one}

-- the joins stand as they were
grown-restored : {more : List Edge → List Edge} {d n m : ℕ} {s t u : ForestTables} → GrownForest more d s n t m → ForestRestored m t u
    → GrownForest more d s n u m
grown-restored {n = n} {m} {u = u} g r = record {
  from = g.from;
  upto = g.upto;
  size = ap length r.parents ∙ g.size;
  trees = subst₂ HeightTrees (sym r.parents) (sym r.heights) g.trees;
  low = λ i l. omega (arith, ap (λ (x : List ℕ). at x i) r.heights, g.low i (omega (arith, ap length r.parents)));
  log = log-trans g.from g.log r.log;
  inside = λ i l h. omega (arith, ap length r.parents, r.log.joined_same i h, g.inside i l h);
  parents-back = undone-parents n (m - n) (alike g r) ∙ g.parents-back;
  heights-back = undone-heights n (m - n) (alike g r) ∙ g.heights-back;
  forest = λ es f. subst (RootedForest _) (sym r.parents) (g.forest es f);
}

-- the boundaries before b are marked, and their records, those before a, are joined
pub record Turning (owners lefts rights : List ℕ) (K from to lo hi : ℕ) (s : ForestTables) (n : ℕ) (was : List ℕ) (a b : ℕ) (t : ForestTables) (m : ℕ)
    (is : List ℕ) : Type 0 where
  pub low : lo ≤ b
  pub onward : from ≤ a
  pub opened : OpenRange owners lefts rights K a to b hi t m is
  pub grown : GrownForest (λ es. other_edges owners lefts rights K a to) (a - from) s n t m
  pub marked : MarkedRange (records_in owners lefts rights K) lo b was is

module _ {owners lefts rights : List ℕ} {K from to lo hi n : ℕ} {s : ForestTables} {was : List ℕ}
    (o : OpenRange owners lefts rights K from to lo hi s n was) where
  pub turning-start : Turning owners lefts rights K from to lo hi s n was from lo s n was
  turning-start = record {
    low = omega arith;
    onward = omega arith;
    opened = o;
    grown = grown-none (room-less (omega arith) o.room) (λ es f. o.forest);
    marked = record { size = refl; inside = λ b p q. absurd (omega arith); outside = λ b x. refl };
  }

  module _ {a b m : ℕ} {t : ForestTables} {is : List ℕ} (w : Turning owners lefts rights K from to lo hi s n was a b t m is) where
    -- the joins so far can be taken back
    pub turning-undoable : Undoable t n m
    turning-undoable = grown-undoable (room-less {e = a - from} (omega (arith, w.opened.range.ordered)) o.room) w.grown

    pub turning-back : {u : ForestTables} → u ≡ undone t n (m - n) → ForestRestored n s u
    turning-back e = restored-back w.grown (restored-none m t) e

    pub turning-next : {mid cut k l : ℕ} {x y u v : ForestTables} {then : List ℕ} → OwnersSplit owners a to mid cut → b < mid → mid < hi →
        GrownForest (adding lefts rights cut (to - cut)) (to - cut) t m x k → ClosedRange owners lefts rights K b mid x y k is then → u ≡ undone y m (k - m) →
        GrownForest (adding lefts rights a (cut - a)) (cut - a) u m v l → Turning owners lefts rights K from to lo hi s n was cut mid v l then
    turning-next {mid} {cut} c p q g d e h =
        let taken_back = restored-back g d.restored e in
        let right = open-right w.opened c p q taken_back d.marked h in
        record {
          low = omega (arith, w.low);
          onward = omega (arith, w.onward, c.low);
          opened = right;
          grown = grown-with (omega (arith, w.onward, c.low)) (λ es f. right.forest)
              (grown-trans (grown-restored w.grown taken_back) h);
          marked = marked-halves w.low (omega arith) w.marked d.marked;
        }

    -- one boundary is left
    pub turning-end : hi ≡ b + 1 → {u : ForestTables} {then : List ℕ}
        → then ≡ set is b (bit (some_parted (other_edges owners lefts rights K a to) lefts rights a (to - a))) →
        u ≡ undone t n (m - n) → ClosedRange owners lefts rights K lo hi s u n was then
    turning-end one e q = record {
      restored = turning-back q;
      marked = marked-halves w.low (omega arith) w.marked (done-one w.opened one e).marked;
    }
