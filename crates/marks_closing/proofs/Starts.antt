-- Every region a root, and no record joined: all boundaries are open. Closed as one range, they have their marks.
use mathlib.Core.Path.{◌≡◌, sym, ◌∙◌, ap}
use mathlib.Core.Logic.{by_cases}
use mathlib.Core.List.{List, []}
use Prim.Native.Nat.{ℕ, ◌+◌, ◌-◌, ◌<◌}
use native.Mathlib.Omega.{arith}
use native.Mathlib.Decide.{ℕ_discrete}
use lib.ListN.{length, set, length-set, replicate, length-replicate}
use lib.Seq.{get_or-set_same, get_or-set_other, ext_get_or}
use Rattle.lists.specs.Rows.{at, rows}
use Rattle.lists.proofs.Rows.{length-rows, rows_at, zero-at}
use Rattle.graph.specs.Parts.{component_of}
use Rattle.graph.specs.Records.{Record}
use Rattle.graph.specs.Bridges.{mark_of}
use Rattle.graph.proofs.Parts.{part_none}
use Rattle.graph.specs.Slices.{Owners}
use Rattle.marks_closing.specs.Forest.{HeightTrees, RootedForest}
use Rattle.marks_closing.specs.Log.{ForestTables, forest_tables, LogRoom}
use Rattle.marks_closing.specs.Marks.{bit, choke_marks, MarkedRange}
use Rattle.marks_closing.specs.Ranges.{OwnerRange, ListedRecords, OpenRange, ClearedForest, LentTables}
use Rattle.marks_closing.proofs.Rest.{forest-same, rest_all}

pub cleared-start : {R : ℕ} (parents heights : List ℕ) → length parents ≡ R → length heights ≡ R → ClearedForest R 0 parents heights
cleared-start parents heights p h = record { parents-are = p; heights-are = h; own = λ i l. absurd (omega arith); flat = λ i l. absurd (omega arith) }

-- a list with v at n
set_next : (f : ℕ → ℕ) (l : List ℕ) (n : ℕ) → n < length l → ((i : ℕ) → i < n → at l i ≡ f i) → (i : ℕ) → i < n + 1 → at (set l n (f n)) i ≡ f i
set_next f l n h was i m =
    by_cases (ℕ_discrete i n) (λ e. ap (at (set l n (f n))) e ∙ (get_or-set_same l n (f n) 0 h ∙ ap f (sym e)))
    (λ d. get_or-set_other l n i (f n) 0 d ∙ was i (omega arith))

pub cleared-next : {R n : ℕ} {parents heights : List ℕ} → ClearedForest R n parents heights → n < R
    → ClearedForest R (n + 1) (set parents n n) (set heights n 0)
cleared-next {n = n} {parents} {heights} c l = record {
  parents-are = length-set parents n n ∙ c.parents-are;
  heights-are = length-set heights n 0 ∙ c.heights-are;
  own = set_next (λ i. i) parents n (omega (arith, c.parents-are)) c.own;
  flat = set_next (λ i. 0) heights n (omega (arith, c.heights-are)) c.flat;
}

-- all roots are the parts of no edge
cleared-forest : {R : ℕ} {parents heights : List ℕ} → ClearedForest R R parents heights → RootedForest [] parents
cleared-forest {R} {parents} c = record {
  along = λ i l. ap (component_of []) (c.own i (omega (arith, c.parents-are)));
  one = λ i j l m p q e. sym (part_none i) ∙ (e ∙ part_none j);
}

cleared-trees : {R : ℕ} {parents heights : List ℕ} → ClearedForest R R parents heights → HeightTrees parents heights
cleared-trees {R} c = record {
  sized = c.heights-are ∙ sym c.parents-are;
  inside = λ i l. omega (arith, c.own i (omega (arith, c.parents-are)));
  rising = λ i l d. absurd (d (c.own i (omega (arith, c.parents-are))));
}

module _ {owners lefts rights : List ℕ} {K : ℕ} {parents heights : List ℕ} (s : ForestTables) (o : Owners K owners)
    (g : ListedRecords owners lefts rights K (length s.parents)) (t : LentTables K s)
    (c : ClearedForest (length s.parents) (length s.parents) parents heights) where
  room : LogRoom (forest_tables parents heights s.joined s.earlier) 0 (K - 0)
  room = record {
    trees = cleared-trees c;
    low = λ i l. omega (arith, c.flat i (omega (arith, c.parents-are)));
    joined-room = omega (arith, t.joined-are);
    earlier-room = omega (arith, t.earlier-are);
    few = omega (arith, g.graph.few);
  }

  range : OwnerRange owners K 0 K 0 256
  range = record {
    ordered = omega arith;
    upto = omega arith;
    some = omega arith;
    top = omega arith;
    from-lo = λ k l h. omega arith;
    to-hi = λ k l h. o k h;
    first = λ k l p q. omega arith;
    last = λ k l p q. l;
  }

  pub open-all : (n : ℕ) → n ≡ 256 → OpenRange owners lefts rights K 0 K 0 256 (forest_tables parents heights s.joined s.earlier) 0 (replicate n 0)
  open-all n e = record {
    listed = rw c.parents-are g;
    range = range;
    room = room;
    forest = forest-same (rest_all owners lefts rights K) (cleared-forest c);
    sized = length-replicate {A = ℕ} n 0 ∙ e;
    unmarked = λ b p q. zero-at n b;
  }

-- the marks of all boundaries
pub marks-all : {rs : List Record} {n : ℕ} {was is : List ℕ} → length was ≡ n → MarkedRange rs 0 n was is → is ≡ choke_marks rs n
unfolding choke_marks
marks-all {rs} {n} {was} {is} e m =
    let size : length is ≡ n = m.size ∙ e in
    ext_get_or 0 is (rows n (λ b. bit (mark_of rs b))) (size ∙ sym (length-rows n (λ b. bit (mark_of rs b))))
    (λ i l. m.inside i (omega arith) (omega (arith, size)) ∙ sym (rows_at n (λ b. bit (mark_of rs b)) i 0 (omega (arith, size))))

pub cleared-end : {R n m : ℕ} {parents heights : List ℕ} → n ≡ m → ClearedForest R n parents heights → ClearedForest R m parents heights
cleared-end e c = rw e at c
