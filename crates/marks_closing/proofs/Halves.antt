-- A range closed by its halves, each with the other joined.
use mathlib.Core.Path.{◌≡◌, refl, sym, ◌∙◌, ap, subst, subst₂}
use mathlib.Core.Logic.{inl, inr, ⊎_elim, by_cases}
use mathlib.Core.List.{List}
use Prim.Native.Nat.{ℕ, ◌+◌, ◌-◌, ◌≤◌, ◌<◌}
use native.Mathlib.Omega.{arith}
use native.Mathlib.Decide.{dec_lt}
use lib.ListN.{length, set, length-set}
use lib.Seq.{get_or-set_same, get_or-set_other}
use Rattle.lists.specs.Rows.{at}
use Rattle.graph.specs.Path.{Edge}
use Rattle.graph.specs.Records.{Record, records_in}
use Rattle.graph.specs.Bridges.{mark_of}
use Rattle.graph.specs.Slices.{Graph}
use Rattle.marks_closing.specs.Forest.{HeightTrees, RootedForest}
use Rattle.marks_closing.specs.Log.{ForestTables, undone, LogRoom, Undoable, ForestRestored, GrownForest, adding}
use Rattle.marks_closing.specs.Marks.{bit, MarkedRange}
use Rattle.marks_closing.specs.Ranges.{OwnersSplit, some_parted, other_edges, OwnerRange, ListedRecords, OpenRange, ClosedRange}
use Rattle.marks_closing.proofs.Undoes.{Alike, undone-parents, undone-heights}
use Rattle.marks_closing.proofs.Grows.{log-trans, log-undone, room-grown, grown-undoable}
use Rattle.marks_closing.proofs.Runs.{room-less, graph-less}
use Rattle.marks_closing.proofs.Rest.{first-half, second-half}
use Rattle.marks_closing.proofs.Leaves.{mark-none, mark-one}

pub restored-none : (n : ℕ) (s : ForestTables) → ForestRestored n s s
restored-none n s = record {
  parents = refl;
  heights = refl;
  log = record { joined-size = refl; earlier-size = refl; joined_same = λ k l. refl; earlier-same = λ k l. refl };
}

-- joins, whatever happened in between if it left them as they were, and the joins taken back
module _ {more : List Edge → List Edge} {d n k : ℕ} {s t v : ForestTables} (g : GrownForest more d s n t k) (r : ForestRestored k t v) where
  pub alike : Alike n (k - n) v t
  alike = record {
    parents = r.parents;
    heights = r.heights;
    joined = λ i l m. r.log.joined_same i (omega (arith, g.from));
    earlier = λ i l m. r.log.earlier-same i (omega (arith, g.from));
  }

  as-undone : ForestRestored n s (undone v n (k - n))
  as-undone = record {
    parents = undone-parents n (k - n) alike ∙ g.parents-back;
    heights = undone-heights n (k - n) alike ∙ g.heights-back;
    log = log-trans {m = n} (omega arith) (log-trans g.from g.log r.log) (log-undone v n (k - n));
  }

  pub restored-back : {u : ForestTables} → u ≡ undone v n (k - n) → ForestRestored n s u
  restored-back e = subst (ForestRestored n s) (sym e) as-undone

  -- they can be taken back
  pub restored-undoable : LogRoom s n d → Undoable v n k
  restored-undoable room =
      let w = grown-undoable room g in
      let size : length v.parents ≡ length t.parents = ap length r.parents in
      record {
        below = λ i l. omega (arith, size, ap (λ (x : List ℕ). at x i) r.parents, w.below i (omega (arith, size)));
        sized = ap length r.heights ∙ (w.sized ∙ sym size);
        from = w.from;
        joined-room = omega (arith, w.joined-room, r.log.joined-size);
        earlier-room = omega (arith, w.earlier-room, r.log.earlier-size);
        inside = λ i l m. omega (arith, size, r.log.joined_same i m, w.inside i l m);
      }

pub room-restored : {n d : ℕ} {s t : ForestTables} → ForestRestored n s t → LogRoom s n d → LogRoom t n d
room-restored r m = record {
  trees = subst₂ HeightTrees (sym r.parents) (sym r.heights) m.trees;
  low = λ i l. omega (arith, ap (λ (x : List ℕ). at x i) r.heights, m.low i (omega (arith, ap length r.parents)));
  joined-room = omega (arith, m.joined-room, r.log.joined-size);
  earlier-room = omega (arith, m.earlier-room, r.log.earlier-size);
  few = m.few;
}

-- the two halves of a range
module _ {owners : List ℕ} {K from to lo hi mid m : ℕ} (g : OwnerRange owners K from to lo hi) (s : OwnersSplit owners from to mid m) (low : lo < mid)
    (high : mid < hi) where
  range-left : OwnerRange owners K from m lo mid
  range-left = record {
    ordered = s.low;
    upto = omega (arith, s.high, g.upto);
    some = low;
    top = omega (arith, g.top);
    from-lo = λ k l h. g.from-lo k l (omega (arith, s.high));
    to-hi = s.below;
    first = λ k l p q. g.first k l p (omega arith);
    last = λ k l p q.
        by_cases (dec_lt k m) (λ h. h) (λ h. absurd (let b = s.above k (omega arith) (g.last k l p (omega arith)) in omega arith));
  }

  range-right : OwnerRange owners K m to mid hi
  range-right = record {
    ordered = s.high;
    upto = g.upto;
    some = high;
    top = g.top;
    from-lo = s.above;
    to-hi = λ k l h. g.to-hi k (omega (arith, s.low)) h;
    first = λ k l p q.
        by_cases (dec_lt k m) (λ h. absurd (let b = s.below k (g.first k l (omega arith) q) h in omega arith)) (λ h. omega arith);
    last = λ k l p q. g.last k l (omega arith) q;
  }

listed-size : {owners lefts rights : List ℕ} {K R Q : ℕ} → R ≡ Q → ListedRecords owners lefts rights K R → ListedRecords owners lefts rights K Q
listed-size {owners} {lefts} {rights} {K} e l = subst (ListedRecords owners lefts rights K) e l

module _ {owners lefts rights : List ℕ} {K from to lo hi mid m n : ℕ} {s : ForestTables} {marks : List ℕ}
    (o : OpenRange owners lefts rights K from to lo hi s n marks) (c : OwnersSplit owners from to mid m) (low : lo < mid) (high : mid < hi) where
  -- the second half is joined, and the first is open
  pub open-left : {t : ForestTables} {k : ℕ} → GrownForest (adding lefts rights m (to - m)) (to - m) s n t k
      → OpenRange owners lefts rights K from m lo mid t k marks
  open-left g = record {
    listed = listed-size (sym g.size) o.listed;
    range = range-left o.range c low high;
    room = room-grown {d = to - m} {e = m - from} (room-less (omega (arith, c.low, c.high)) o.room) g;
    forest = first-half owners lefts rights c.low c.high o.range.upto (g.forest (other_edges owners lefts rights K from to) o.forest);
    sized = o.sized;
    unmarked = λ b p q. o.unmarked b p (omega arith);
  }

  -- the first half is joined, and the second is open
  pub open-right : {u t : ForestTables} {k : ℕ} {is : List ℕ} → ForestRestored n s u → MarkedRange (records_in owners lefts rights K) lo mid marks is →
      GrownForest (adding lefts rights from (m - from)) (m - from) u n t k → OpenRange owners lefts rights K m to mid hi t k is
  open-right {u} r w g = record {
    listed = listed-size (sym (g.size ∙ ap length r.parents)) o.listed;
    range = range-right o.range c low high;
    room = room-grown {d = m - from} {e = to - m} (room-less (omega (arith, c.low, c.high)) (room-restored r o.room)) g;
    forest = second-half owners lefts rights c.low c.high o.range.upto
        (g.forest (other_edges owners lefts rights K from to) (subst (RootedForest (other_edges owners lefts rights K from to)) (sym r.parents) o.forest));
    sized = w.size ∙ o.sized;
    unmarked = λ b p q. w.outside b (inr p) ∙ o.unmarked b (omega arith) q;
  }

-- both halves are marked
pub marked-halves : {rs : List Record} {lo mid hi : ℕ} {was then is : List ℕ} → lo ≤ mid → mid ≤ hi → MarkedRange rs lo mid was then →
    MarkedRange rs mid hi then is → MarkedRange rs lo hi was is
marked-halves {mid = mid} l h p q = record {
  size = q.size ∙ p.size;
  inside = λ b f g. by_cases (dec_lt b mid) (λ x. q.outside b (inl x) ∙ p.inside b f x) (λ x. q.inside b (omega arith) g);
  outside = λ b x. q.outside b (⊎_elim (λ y. inl (omega arith)) inr x) ∙ p.outside b (⊎_elim inl (λ y. inr (omega arith)) x);
}

module _ {owners lefts rights : List ℕ} {K from to lo hi n : ℕ} {s : ForestTables} {marks : List ℕ}
    (o : OpenRange owners lefts rights K from to lo hi s n marks) where
  -- no record
  pub done_none : from ≡ to → ClosedRange owners lefts rights K lo hi s s n marks marks
  done_none e = record {
    restored = restored-none n s;
    marked = record {
      size = refl;
      inside = λ b p q. o.unmarked b p q ∙ ap bit (sym (mark-none owners lefts rights o.range e b p q));
      outside = λ b x. refl;
    };
  }

  -- one boundary
  pub done-one : hi ≡ lo + 1 → {is : List ℕ} → is ≡ set marks lo (bit (some_parted (other_edges owners lefts rights K from to) lefts rights from (to - from))) →
      ClosedRange owners lefts rights K lo hi s s n marks is
  done-one one {is} e = record {
    restored = restored-none n s;
    marked = record {
      size = ap length e ∙ length-set marks lo (bit (some_parted (other_edges owners lefts rights K from to) lefts rights from (to - from)));
      inside = λ b p q.
          let z : b ≡ lo = omega arith in
          ap (at is) z ∙ (ap (λ (x : List ℕ). at x lo) e
          ∙ (get_or-set_same marks lo (bit (some_parted (other_edges owners lefts rights K from to) lefts rights from (to - from))) 0
          (omega (arith, o.sized, o.range.some, o.range.top))
          ∙ (ap bit (mark-one owners lefts rights o.range one) ∙ ap (λ (i : ℕ). bit (mark_of (records_in owners lefts rights K) i)) (sym z))));
      outside = λ b x.
          ap (λ (y : List ℕ). at y b) e
          ∙ get_or-set_other marks lo b (bit (some_parted (other_edges owners lefts rights K from to) lefts rights from (to - from))) 0
          (λ z. ⊎_elim (λ y. omega arith) (λ y. omega arith) x);
    };
  }

-- what the joins of each half ask
module _ {owners lefts rights : List ℕ} {K from to lo hi mid m n : ℕ} {s : ForestTables} {marks : List ℕ}
    (o : OpenRange owners lefts rights K from to lo hi s n marks) (c : OwnersSplit owners from to mid m) where
  pub ready-left : {u : ForestTables} → ForestRestored n s u → (from ≤ m) × Graph m (length u.parents) lefts rights × LogRoom u n (m - from)
  ready-left r = (
    c.low,
    graph-less (omega (arith, c.high, o.range.upto)) (listed-size (sym (ap length r.parents)) o.listed).graph,
    room-less (omega (arith, c.high)) (room-restored r o.room),
  )

-- the records from any place of the range on can be joined
pub ready-from : {owners lefts rights : List ℕ} {K from to lo hi n m : ℕ} {s : ForestTables} {marks : List ℕ}
    → OpenRange owners lefts rights K from to lo hi s n marks → from ≤ m → m ≤ to
    → (m ≤ to) × Graph to (length s.parents) lefts rights × LogRoom s n (to - m)
ready-from o h l = (l, graph-less o.range.upto o.listed.graph, room-less (omega arith) o.room)

-- joins can be taken back from any one on
pub undoable-from : {s : ForestTables} {n k m : ℕ} → n ≤ k → k ≤ m → Undoable s n m → Undoable s k m
undoable-from h l u = record {
  below = u.below;
  sized = u.sized;
  from = l;
  joined-room = u.joined-room;
  earlier-room = u.earlier-room;
  inside = λ i a b. u.inside i (omega arith) b;
}
