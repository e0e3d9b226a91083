-- What the forest of all other records says about the mark of one boundary.
use mathlib.Core.Path.{◌≡◌, refl, sym, ◌∙◌, ap, subst₂}
use mathlib.Core.Logic.{inl, inr, ⊎_elim, by_cases}
use mathlib.Core.Bool.{true, false, not, ◌&&◌}
use mathlib.Core.List.{List}
use Prim.Native.Nat.{ℕ, zero, suc, ◌+◌, ◌-◌, ◌≤◌, ◌<◌}
use native.Mathlib.Omega.{arith}
use native.Mathlib.Decide.{dec_lt}
use borrow.Author.Tests.{eqb-false, ne_eqb, not-true}
use lib.Dec.{eqb, leb, ltb}
use lib.ListN.{length}
use Rattle.lists.specs.Rows.{at}
use Rattle.order.proofs.Bools.{is_false, by-test, or_cases, clash}
use Rattle.graph.specs.Path.{Edge, Path}
use Rattle.graph.specs.Parts.{same_part}
use Rattle.graph.specs.Records.{Record, records_in, of_owner, record_at}
use Rattle.graph.specs.Bridges.{Closed, mark_of}
use Rattle.graph.proofs.Parts.{other-part as graph-other}
use Rattle.graph.proofs.Records.{records-length, records-at, without-path}
use Rattle.graph.proofs.Bridges.{mark-iff}
use Rattle.marks_closing.specs.Ranges.{some_parted, stands_within, other_edges, OwnerRange}
use Rattle.marks_closing.proofs.Rest.{outside-placed, placed-outside}
use Rattle.marks_closing.proofs.Runs.{parted-at}

-- some record has its regions in two parts
some-parted : (es : List Edge) (lefts rights : List ℕ) (from d : ℕ) → some_parted es lefts rights from d ≡ true →
    (k : ℕ) × (from ≤ k) × (k < from + d) × (same_part es (at lefts k) (at rights k) ≡ false)
unfolding some_parted
some-parted es lefts rights from zero h = clash h refl
some-parted es lefts rights from (suc d) h =
    ⊎_elim (λ e. let w = some-parted es lefts rights from d e in (w.0, w.1, omega (arith, w.2), w.3))
    (λ e. (from + d, omega arith, omega arith, not-true (same_part es (at lefts (from + d)) (at rights (from + d))) e))
    (or_cases (some_parted es lefts rights from d) (not (same_part es (at lefts (from + d)) (at rights (from + d)))) h)

-- record k of the arrays, in the list of them
module _ (owners lefts rights : List ℕ) (K k : ℕ) (l : k < length (records_in owners lefts rights K)) where
  below : k < K
  below = omega (arith, records-length owners lefts rights K)

  owner_at_lem : (record_at (records_in owners lefts rights K) k).owner ≡ at owners k
  owner_at_lem = ap (λ (r : Record). r.owner) (records-at owners lefts rights K k below)

  left_at : (record_at (records_in owners lefts rights K) k).left ≡ at lefts k
  left_at = ap (λ (r : Record). r.left) (records-at owners lefts rights K k below)

  right-at : (record_at (records_in owners lefts rights K) k).right ≡ at rights k
  right-at = ap (λ (r : Record). r.right) (records-at owners lefts rights K k below)

module _ (owners lefts rights : List ℕ) {K from to lo hi : ℕ} (g : OwnerRange owners K from to lo hi) where
  -- a boundary of the range has its records there
  mine : (k b : ℕ) (l : k < length (records_in owners lefts rights K)) → lo ≤ b → b < hi → (record_at (records_in owners lefts rights K) k).owner ≡ b →
      (from ≤ k) × (k < to)
  mine k b l p q e =
      let o : at owners k ≡ b = sym (owner_at_lem owners lefts rights K k l) ∙ e in
      let inside = below owners lefts rights K k l in
      (g.first k inside (omega arith) (omega arith), g.last k inside (omega arith) (omega arith))

  -- no record, no mark
  pub mark-none : from ≡ to → (b : ℕ) → lo ≤ b → b < hi → mark_of (records_in owners lefts rights K) b ≡ false
  mark-none e b p q = is_false (mark_of (records_in owners lefts rights K) b) (λ m. none ((mark-iff (records_in owners lefts rights K) b).0 m))
    where
      none : Closed (records_in owners lefts rights K) b → ⊥
      none w = let h = mine w.place b w.inside p q w.owned in omega arith

  -- one boundary: what is not the boundary's is outside the range
  module _ (one : hi ≡ lo + 1) where
    outside : (k : ℕ) → k < length (records_in owners lefts rights K) → eqb (record_at (records_in owners lefts rights K) k).owner lo ≡ false →
        (leb from k && ltb k to) ≡ false
    outside k l e = outside-placed from to k (by_cases (dec_lt k from) (λ h. inl h)
        (λ h. by_cases (dec_lt k to) (λ m. absurd (own h m)) (λ m. inr (omega arith))))
      where
        own : (k < from → ⊥) → k < to → ⊥
        own h m =
            eqb-false (record_at (records_in owners lefts rights K) k).owner lo e
            (owner_at_lem owners lefts rights K k l ∙ (let z : at owners k ≡ lo = omega (arith, g.from-lo k (omega arith) m, g.to-hi k (omega arith) m) in z))

    -- and what is outside is not the boundary's
    other : (k : ℕ) → k < length (records_in owners lefts rights K) → (leb from k && ltb k to) ≡ false → eqb
        (record_at (records_in owners lefts rights K) k).owner lo ≡ false
    other k l e = ne_eqb (record_at (records_in owners lefts rights K) k).owner lo (λ q.
        let h = mine k lo l (omega arith) (omega arith) q in
        ⊎_elim (λ a. omega arith) (λ a. omega arith) (placed-outside from to k e))

    closed : some_parted (other_edges owners lefts rights K from to) lefts rights from (to - from) ≡ true → Closed (records_in owners lefts rights K) lo
    closed h =
        let w = some-parted (other_edges owners lefts rights K from to) lefts rights from (to - from) h in
        let k = w.0 in
        let after : k < to = omega (arith, w.2, g.ordered) in
        let l : k < length (records_in owners lefts rights K) = omega (arith, g.upto, records-length owners lefts rights K) in
        record {
          place = k;
          inside = l;
          owned = owner_at_lem owners lefts rights K k l ∙ (let z : at owners k ≡ lo = omega (arith, g.from-lo k w.1 after, g.to-hi k w.1 after) in z);
          parted = λ p.
              (graph-other (other_edges owners lefts rights K from to) (at lefts k) (at rights k)).0 w.3
              (subst₂ (Path (other_edges owners lefts rights K from to)) (left_at owners lefts rights K k l) (right-at owners lefts rights K k l)
              (without-path (of_owner lo) (stands_within from to) (records_in owners lefts rights K) outside p));
        }

    parted : Closed (records_in owners lefts rights K) lo → some_parted (other_edges owners lefts rights K from to) lefts rights from (to - from) ≡ true
    parted w =
        let k = w.place in
        let l = w.inside in
        let h = mine k lo l (omega arith) (omega arith) w.owned in
        parted-at (other_edges owners lefts rights K from to) lefts rights from k h.0
        ((graph-other (other_edges owners lefts rights K from to) (at lefts k) (at rights k)).1
        (λ p. w.parted (without-path (stands_within from to) (of_owner lo) (records_in owners lefts rights K) other
        (subst₂ (Path (other_edges owners lefts rights K from to)) (sym (left_at owners lefts rights K k l)) (sym (right-at owners lefts rights K k l)) p))))
        to h.1

    -- the mark is what the forest says
    pub mark-one : some_parted (other_edges owners lefts rights K from to) lefts rights from (to - from) ≡ mark_of (records_in owners lefts rights K) lo
    mark-one =
        by-test (mark_of (records_in owners lefts rights K) lo) (λ e. parted ((mark-iff (records_in owners lefts rights K) lo).0 e) ∙ sym e)
        (λ e. is_false (some_parted (other_edges owners lefts rights K from to) lefts rights from (to - from))
        (λ h. clash ((mark-iff (records_in owners lefts rights K) lo).1 (closed h)) e) ∙ sym e)
