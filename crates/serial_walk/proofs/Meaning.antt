-- The walk's notion of a record that parts its regions is that of the definition of a bridge, and right marks are the definition's.
use mathlib.Core.Path.{◌≡◌, refl, sym, ◌∙◌, ap}
use mathlib.Core.Logic.{◌⊎◌, inl, inr}
use mathlib.Core.Bool.{false, cond}
use mathlib.Core.List.{List, [], ◌∷◌, Memᴰ}
use Prim.Native.Nat.{ℕ, suc, ◌<◌}
use native.Mathlib.Omega.{arith}
use borrow.Author.Tests.{eqb-false, ne_eqb}
use lib.ListN.{length}
use Rattle.order.proofs.Bools.{clash, by-test}
use Rattle.lists.specs.Rows.{at, rows}
use Rattle.graph.specs.Path as graph
use Rattle.graph.specs.Records as records
use Rattle.graph.specs.Records.{records_in}
use Rattle.graph.specs.Bridges.{Bridge, is_bridge}
use Rattle.graph.proofs.Records.{records-length, records-at, edge-remains, remains-edge}
use Rattle.graph.proofs.Bridges.{bridge-iff}
use Rattle.serial_walk.specs.Steps.{Connected, here, onward}
use Rattle.serial_walk.specs.Walk.{RecordJoins, forth, back, Without}
use Rattle.serial_walk.specs.Slices.{PartedBy, MarksSound, Between}
use Rattle.serial_walk.specs.Marks.{bridge_marks}
use Rattle.serial_walk.proofs.Steps.{moved}
use Rattle.serial_walk.proofs.Roots.{finished}

-- a list is made of its own values
list-rows : (l : List ℕ) (f : ℕ → ℕ) → ((i : ℕ) → i < length l → at l i ≡ f i) → l ≡ rows (length l) f
unfolding rows
list-rows [] f h = refl
list-rows (x ∷ l) f h =
    let a : x ≡ f 0 = h 0 (omega arith) in
    let b : l ≡ rows (length l) (λ i. f (suc i)) = list-rows l (λ i. f (suc i)) (λ i k. h (suc i) (omega arith)) in
    ap (λ (y : ℕ). y ∷ l) a ∙ ap (λ (t : List ℕ). f 0 ∷ t) b

module _ (K : ℕ) (owners lefts rights : List ℕ) where
  abbrev rs : List records.Record
  rs = records_in owners lefts rights K

  -- the record at a place
  abbrev nth : ℕ → records.Record
  nth = records.record_in owners lefts rights

  -- a path over the other records, in the walk's words and in the definition's
  to-path : (k : ℕ) {a b : ℕ} → Connected (Without K (at lefts) (at rights) k) a b → graph.Path (records.edges (records.without (records.only k) rs)) a b
  to-path k here = graph.here
  to-path k (onward {a} {b} s p) = graph.onward member (joins s.joins) (to-path k p)
    where
      e : records.record_at rs s.by ≡ nth s.by
      e = records-at owners lefts rights K s.by s.below

      member : Memᴰ (records.record_edge (records.record_at rs s.by)) (records.edges (records.without (records.only k) rs))
      member =
          remains-edge (records.only k) rs
          (record {
            place = s.by;
            inside = omega (arith, records-length owners lefts rights K, s.below);
            spared = ne_eqb s.by k s.other;
            stands = refl;
          })

      joins : RecordJoins (at lefts) (at rights) s.by a b → graph.Joins (records.record_edge (records.record_at rs s.by)) a b
      joins (forth p q) = graph.forth (ap (λ (r : records.Record). r.left) e ∙ p) (ap (λ (r : records.Record). r.right) e ∙ q)
      joins (back p q) = graph.back (ap (λ (r : records.Record). r.left) e ∙ p) (ap (λ (r : records.Record). r.right) e ∙ q)

  step_of : (k : ℕ) {a b : ℕ} {e : graph.Edge} → Memᴰ e (records.edges (records.without (records.only k) rs)) → graph.Joins e a b →
      Without K (at lefts) (at rights) k a b
  step_of k {a} {b} {e} m j =
      record { by = v.place; below = below; other = eqb-false v.place k v.spared; joins = joins j }
    where
      w : (r : records.Record) × records.Remains (records.only k) rs r × (records.record_edge r ≡ e)
      w = edge-remains (records.only k) rs m

      v : records.Remains (records.only k) rs w.0
      v = w.1

      below : v.place < K
      below = omega (arith, records-length owners lefts rights K, v.inside)

      same : records.record_edge (nth v.place) ≡ e
      same = ap records.record_edge (sym (records-at owners lefts rights K v.place below) ∙ v.stands) ∙ w.2

      joins : graph.Joins e a b → RecordJoins (at lefts) (at rights) v.place a b
      joins (graph.forth p q) = forth (ap (λ (x : graph.Edge). x.left) same ∙ p) (ap (λ (x : graph.Edge). x.right) same ∙ q)
      joins (graph.back p q) = back (ap (λ (x : graph.Edge). x.left) same ∙ p) (ap (λ (x : graph.Edge). x.right) same ∙ q)

  of-path : (k : ℕ) {a b : ℕ} → graph.Path (records.edges (records.without (records.only k) rs)) a b → Connected (Without K (at lefts) (at rights) k) a b
  of-path k graph.here = here
  of-path k (graph.onward m j p) = onward (step_of k m j) (of-path k p)

  -- a boundary with a record that parts its regions is a bridge
  to-bridge : (b : ℕ) → PartedBy K owners lefts rights b → Bridge rs b
  to-bridge b w =
      let e = records-at owners lefts rights K w.place w.inside in
      record {
        place = w.place;
        inside = omega (arith, records-length owners lefts rights K, w.inside);
        owned = ap (λ (r : records.Record). r.owner) e ∙ w.owned;
        parted = λ p. w.parted (moved (ap (λ (r : records.Record). r.left) e) (ap (λ (r : records.Record). r.right) e) (of-path w.place p));
      }

  of-bridge : (b : ℕ) → Bridge rs b → PartedBy K owners lefts rights b
  of-bridge b w =
      let l : w.place < K = omega (arith, records-length owners lefts rights K, w.inside) in
      let e = records-at owners lefts rights K w.place l in
      record {
        place = w.place;
        inside = l;
        owned = sym (ap (λ (r : records.Record). r.owner) e) ∙ w.owned;
        parted = λ p. w.parted (to-path w.place (moved (sym (ap (λ (r : records.Record). r.left) e)) (sym (ap (λ (r : records.Record). r.right) e)) p));
      }

  -- marks that are right, and leave no bridge out
  pub marks-are : (marks : List ℕ) → MarksSound K owners lefts rights marks → ((b : ℕ) → PartedBy K owners lefts rights b → at marks b ≡ 1) →
      marks ≡ bridge_marks rs (length marks)
  unfolding bridge_marks
  marks-are marks S all = list-rows marks (λ b. cond (is_bridge rs b) 1 0) each
    where
      each : (b : ℕ) → b < length marks → at marks b ≡ cond (is_bridge rs b) 1 0
      each b l = by-test (is_bridge rs b) (λ e. rw e (all b (of-bridge b ((bridge-iff rs b).0 e)))) (λ e. rw e (none e (S b l)))
        where
          none : is_bridge rs b ≡ false → (at marks b ≡ 0) ⊎ ((at marks b ≡ 1) × PartedBy K owners lefts rights b) → at marks b ≡ 0
          none e (inl z) = z
          none e (inr z) = clash ((bridge-iff rs b).1 (to-bridge b z.1)) e

-- the walk is at its end: the marks are those of the definition
pub answered : {K R : ℕ} {owners lefts rights disc stack parents nexts lows marks : List ℕ} {r time : ℕ}
    → Between K R owners lefts rights disc stack parents nexts lows marks r time →
    r ≡ K → (n : ℕ) → length marks ≡ n → marks ≡ bridge_marks (records_in owners lefts rights K) n
answered {K} {R} {owners} {lefts} {rights} {marks = marks} B e n l =
    marks-are K owners lefts rights marks B.sound (finished B e) ∙ ap (bridge_marks (records_in owners lefts rights K)) l
