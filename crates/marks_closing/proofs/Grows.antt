-- Joins one after another.
use mathlib.Core.Path.{◌≡◌, refl, sym, ◌∙◌, ap}
use mathlib.Core.Logic.{inl, inr, ⊎_elim}
use mathlib.Core.List.{List}
use Prim.Native.Nat.{ℕ, ◌+◌, ◌-◌, ◌≤◌, ◌<◌}
use native.Mathlib.Omega.{arith}
use native.Mathlib.Decide.{dec_lt}
use lib.ListN.{length}
use Rattle.lists.specs.Rows.{at}
use Rattle.graph.specs.Path.{Edge}
use Rattle.graph.specs.Parts.{component_of}
use Rattle.graph.proofs.Parts.{part-kept, AtEnd, part_apart}
use Rattle.marks_closing.specs.Forest.{RootedForest, Root}
use Rattle.marks_closing.specs.Log.{ForestTables, undone, hung, LogRoom, Undoable, SameLog, GrownForest, joining}
use Rattle.marks_closing.proofs.Finds.{root-same}
use Rattle.marks_closing.proofs.Hangs.{hung-grown}
use Rattle.marks_closing.proofs.Undoes.{undone-none, undone-add, undone-joined, undone-earlier, Alike, undone-parents, undone-heights}

-- a log that was kept, and kept again
pub log-trans : {n m : ℕ} {s t u : ForestTables} → n ≤ m → SameLog n s t → SameLog m t u → SameLog n s u
log-trans h p q = record {
  joined-size = q.joined-size ∙ p.joined-size;
  earlier-size = q.earlier-size ∙ p.earlier-size;
  joined_same = λ i l. q.joined_same i (omega arith) ∙ p.joined_same i l;
  earlier-same = λ i l. q.earlier-same i (omega arith) ∙ p.earlier-same i l;
}

-- taking joins back leaves it alone
pub log-undone : (s : ForestTables) (n d : ℕ) {m : ℕ} → SameLog m s (undone s n d)
log-undone s n d = record {
  joined-size = ap length (undone-joined s n d);
  earlier-size = ap length (undone-earlier s n d);
  joined_same = λ i l. ap (λ (x : List ℕ). at x i) (undone-joined s n d);
  earlier-same = λ i l. ap (λ (x : List ℕ). at x i) (undone-earlier s n d);
}

-- the same joins, of which something else is known
pub grown-with : {more then : List Edge → List Edge} {d e n m : ℕ} {s t : ForestTables} → d ≡ e
    → ((es : List Edge) → RootedForest es s.parents → RootedForest (then es) t.parents) → GrownForest more d s n t m → GrownForest then e s n t m
grown-with q f g = record {
  from = g.from;
  upto = omega (arith, g.upto);
  size = g.size;
  trees = g.trees;
  low = g.low;
  log = g.log;
  inside = g.inside;
  parents-back = g.parents-back;
  heights-back = g.heights-back;
  forest = f;
}

-- no join
pub grown-none : {s : ForestTables} {n d : ℕ} {more : List Edge → List Edge} → LogRoom s n d →
    ((es : List Edge) → RootedForest es s.parents → RootedForest (more es) s.parents) → GrownForest more d s n s n
grown-none {s} {n} r f = record {
  from = omega arith;
  upto = omega arith;
  size = refl;
  trees = r.trees;
  low = r.low;
  log = record { joined-size = refl; earlier-size = refl; joined_same = λ k l. refl; earlier-same = λ k l. refl };
  inside = λ k l m. absurd (omega arith);
  parents-back = ap (λ (x : ForestTables). x.parents) none;
  heights-back = ap (λ (x : ForestTables). x.heights) none;
  forest = f;
}
  where
    none : undone s n (n - n) ≡ s
    none = let z : n - n ≡ 0 = omega arith in ap (undone s n) z ∙ undone-none s n

-- what has room for more joins has it for the rest of them
pub room-grown : {s t : ForestTables} {n m d e : ℕ} {more : List Edge → List Edge} → LogRoom s n (d + e) → GrownForest more d s n t m → LogRoom t m e
room-grown r g = record {
  trees = g.trees;
  low = g.low;
  joined-room = omega (arith, r.joined-room, g.upto, g.log.joined-size);
  earlier-room = omega (arith, r.earlier-room, g.upto, g.log.earlier-size);
  few = omega (arith, r.few, g.upto);
}

-- and its joins can be taken back
pub grown-undoable : {s t : ForestTables} {n m d : ℕ} {more : List Edge → List Edge} → LogRoom s n d → GrownForest more d s n t m → Undoable t n m
grown-undoable r g = record {
  below = g.trees.inside;
  sized = g.trees.sized;
  from = g.from;
  joined-room = omega (arith, r.joined-room, g.upto, g.log.joined-size);
  earlier-room = omega (arith, r.earlier-room, g.upto, g.log.earlier-size);
  inside = g.inside;
}

module _ {s t u : ForestTables} {n m k d e : ℕ} {more then : List Edge → List Edge} (g : GrownForest more d s n t m) (h : GrownForest then e t m u k) where
  -- the later joins first, and then the earlier
  order : undone u n (k - n) ≡ undone (undone u m (k - m)) n (m - n)
  order =
      let count : k - n ≡ m - n + (k - m) = omega (arith, g.from, h.from) in
      let place : n + (m - n) ≡ m = omega (arith, g.from) in
      ap (undone u n) count ∙ (undone-add u n (m - n) (k - m) ∙ ap (λ (i : ℕ). undone (undone u i (k - m)) n (m - n)) place)

  alike : Alike n (m - n) (undone u m (k - m)) t
  alike = record {
    parents = h.parents-back;
    heights = h.heights-back;
    joined = λ i l j. (log-undone u m (k - m)).joined_same i j ∙ h.log.joined_same i (omega (arith, g.from));
    earlier = λ i l j. (log-undone u m (k - m)).earlier-same i j ∙ h.log.earlier-same i (omega (arith, g.from));
  }

  pub grown-trans : GrownForest (λ es. then (more es)) (d + e) s n u k
  grown-trans = record {
    from = omega (arith, g.from, h.from);
    upto = omega (arith, g.upto, h.upto);
    size = h.size ∙ g.size;
    trees = h.trees;
    low = h.low;
    log = log-trans g.from g.log h.log;
    inside = λ i l j. inside i l j (dec_lt i m);
    parents-back = ap (λ (x : ForestTables). x.parents) order ∙ (undone-parents n (m - n) alike ∙ g.parents-back);
    heights-back = ap (λ (x : ForestTables). x.heights) order ∙ (undone-heights n (m - n) alike ∙ g.heights-back);
    forest = λ es f. h.forest (more es) (g.forest es f);
  }
    where
      inside : (i : ℕ) → n ≤ i → i < k → Dec (i < m) → at u.joined i < length u.parents
      inside i l j (yes b) = omega (arith, h.log.joined_same i b, g.inside i l b, h.size)
      inside i l j (no b) = h.inside i (omega arith) j

-- an edge between two vertices of one part
pub forest-near : (left right : ℕ) {es : List Edge} {parents : List ℕ} → component_of es left ≡ component_of es right → RootedForest es parents → RootedForest
    (joining left right es) parents
forest-near left right {es} {parents} e f = record {
  along = λ i l. part-kept (record { left = left; right = right }) es (at parents i) i (f.along i l);
  one = λ i j l m p q h. f.one i j l m p q (⊎_elim (λ w. w) (λ w. near i w.0 ∙ sym (near j w.1))
      (part_apart (record { left = left; right = right }) es i j h));
}
  where
    near : (i : ℕ) → AtEnd (record { left = left; right = right }) es i → component_of es i ≡ component_of es right
    near i a = ⊎_elim (λ w. w ∙ e) (λ w. w) a

-- the two ends have one root
pub grown-near : {s : ForestTables} {n left right a b : ℕ} → LogRoom s n 1 → Root s.parents left a → Root s.parents right b → a ≡ b → GrownForest
    (joining left right) 1 s n s n
grown-near {left = left} {right = right} r ra rb e = grown-none r (λ es f. forest-near left right (root-same f ra rb e) f)

-- the two ends have two roots, and the one goes under the other
module _ {s : ForestTables} {n left right a b : ℕ} (r : LogRoom s n 1) (ra : Root s.parents left a) (rb : Root s.parents right b) (d : a ≡ b → ⊥) where
  pub grown-left : at s.heights a < at s.heights b → {t : ForestTables} → t ≡ hung s n a b → GrownForest (joining left right) 1 s n t (n + 1)
  grown-left h e = hung-grown r (record {
    low-in = ra.inside;
    high-in = rb.inside;
    low-own = ra.own;
    high-own = rb.own;
    apart = d;
    lower = omega arith;
    ends = λ es l. inl (ra.same es l, rb.same es l);
  }) e

  pub grown-right : (at s.heights a < at s.heights b → ⊥) → {t : ForestTables} → t ≡ hung s n b a → GrownForest (joining left right) 1 s n t (n + 1)
  grown-right h e = hung-grown r (record {
    low-in = rb.inside;
    high-in = ra.inside;
    low-own = rb.own;
    high-own = ra.own;
    apart = λ x. d (sym x);
    lower = omega arith;
    ends = λ es l. inr (rb.same es l, ra.same es l);
  }) e
