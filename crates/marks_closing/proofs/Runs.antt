-- Records joined and looked at one after another.
use mathlib.Core.Path.{◌≡◌, refl, sym, ◌∙◌, ap, subst}
use mathlib.Core.Bool.{Bool, true, false, not, ◌||◌}
use mathlib.Core.List.{List}
use Prim.Native.Nat.{ℕ, zero, suc, ◌+◌, ◌-◌, ◌≤◌, ◌<◌}
use native.Mathlib.Omega.{arith}
use mir.Val.{bool_byte}
use borrow.Author.Tests.{eq-eqb, ne_eqb, ltb-true, ltb-false}
use lib.Dec.{ltb}
use lib.ListN.{length, take, drop, get_or}
use Rattle.std.specs.List.Sorted.{IsPartitionedBy, IsPartitionPoint}
use Rattle.std.proofs.lemmas.List.{length-take, length-drop, get_or-take, get_or-drop}
use Rattle.std.proofs.lemmas.List.Sorted.{IsPartitionedBy-ltb, IsNonDecreasingBy-from_default}
use Rattle.lists.specs.Rows.{at}
use Rattle.order.proofs.Bools.{or_right}
use Rattle.graph.specs.Path.{Edge}
use Rattle.graph.specs.Parts.{component_of, same_part}
use Rattle.graph.specs.Slices.{Graph}
use Rattle.marks_closing.specs.Forest.{RootedForest, Root}
use Rattle.marks_closing.specs.Log.{ForestTables, LogRoom, GrownForest, joining, adding}
use Rattle.marks_closing.specs.Marks.{bit}
use Rattle.marks_closing.specs.Ranges.{some_parted, RisingOwners, OwnersSplit}
use Rattle.marks_closing.proofs.Finds.{root-same, same-root}
use Rattle.marks_closing.proofs.Grows.{grown-with, grown-none, grown-trans, room-grown}

-- room for fewer joins
pub room-less : {s : ForestTables} {n d e : ℕ} → e ≤ d → LogRoom s n d → LogRoom s n e
room-less l r = record {
  trees = r.trees;
  low = r.low;
  joined-room = omega (arith, r.joined-room);
  earlier-room = omega (arith, r.earlier-room);
  few = omega (arith, r.few);
}

-- fewer records
pub graph-less : {K k R : ℕ} {lefts rights : List ℕ} → k ≤ K → Graph K R lefts rights → Graph k R lefts rights
graph-less l g = record {
  few = omega (arith, g.few);
  near = g.near;
  lefts-are = omega (arith, g.lefts-are);
  rights-are = omega (arith, g.rights-are);
  left_in = λ i h. g.left_in i (omega arith);
  right-in = λ i h. g.right-in i (omega arith);
}

-- the same edges, under another name
grown-as : {s t : ForestTables} {n m d e : ℕ} {more then : List Edge → List Edge} → d ≡ e → ((es : List Edge) → more es ≡ then es)
    → GrownForest more d s n t m →
    GrownForest then e s n t m
grown-as {t = t} q h g = grown-with q (λ es f. subst (λ (x : List Edge). RootedForest x t.parents) (h es) (g.forest es f)) g

module _ (lefts rights : List ℕ) (from : ℕ) where
  adding-none : (es : List Edge) → adding lefts rights from 0 es ≡ es
  unfolding adding
  adding-none es = refl

  adding-last : (d : ℕ) (es : List Edge) → adding lefts rights from (suc d) es ≡ joining (at lefts (from + d)) (at rights (from + d))
      (adding lefts rights from d es)
  unfolding adding
  adding-last d es = refl

  -- no record yet
  pub adding-start : {s : ForestTables} {n d : ℕ} → LogRoom s n d → GrownForest (adding lefts rights from (from - from)) (from - from) s n s n
  adding-start {s} {n} r =
      let z : 0 ≡ from - from = omega arith in
      grown-as z (λ es. sym (adding-none es) ∙ ap (λ (d : ℕ). adding lefts rights from d es) z)
      (grown-none {more = λ es. es} (room-less {e = 0} (omega arith) r) (λ es f. f))

  -- one record more
  pub adding-next : {k : ℕ} {s t u : ForestTables} {n m j : ℕ} → from ≤ k → GrownForest (adding lefts rights from (k - from)) (k - from) s n t m →
      GrownForest (joining (at lefts k) (at rights k)) 1 t m u j → GrownForest (adding lefts rights from (k + 1 - from)) (k + 1 - from) s n u j
  adding-next {k} l g h =
      let count : k + 1 - from ≡ suc (k - from) = omega arith in
      let place : from + (k - from) ≡ k = omega arith in
      grown-as (omega arith)
      (λ es. sym (ap (λ (d : ℕ). adding lefts rights from d es) count ∙ (adding-last (k - from) es
      ∙ ap (λ (i : ℕ). joining (at lefts i) (at rights i) (adding lefts rights from (k - from) es)) place)))
      (grown-trans g h)

  -- all records
  pub adding-end : {k to : ℕ} {s t : ForestTables} {n m : ℕ} → k ≡ to → GrownForest (adding lefts rights from (k - from)) (k - from) s n t m →
      GrownForest (adding lefts rights from (to - from)) (to - from) s n t m
  adding-end e g = rw e at g

-- there is room for the next
pub adding-room : {k from to : ℕ} {s t : ForestTables} {n m : ℕ} {more : List Edge → List Edge} → from ≤ k → k < to → LogRoom s n (to - from) → GrownForest more
    (k - from) s n t m → LogRoom t m 1
adding-room {k} {from} {to} l h r g = room-grown {d = k - from} {e = 1} (room-less (omega arith) r) g

module _ (es : List Edge) (lefts rights : List ℕ) (from : ℕ) where
  pub parted-none : some_parted es lefts rights from (from - from) ≡ false
  unfolding some_parted
  parted-none = let z : from - from ≡ 0 = omega arith in ap (some_parted es lefts rights from) z

  parted-last : (k : ℕ) → from ≤ k → some_parted es lefts rights from (k + 1 - from) ≡ some_parted es lefts rights from (k - from) || not
      (same_part es (at lefts k) (at rights k))
  unfolding some_parted
  parted-last k l =
      let count : k + 1 - from ≡ suc (k - from) = omega arith in
      let place : from + (k - from) ≡ k = omega arith in
      ap (some_parted es lefts rights from) count
      ∙ ap (λ (i : ℕ). some_parted es lefts rights from (k - from) || not (same_part es (at lefts i) (at rights i))) place

  parted-more : (d e : ℕ) → some_parted es lefts rights from d ≡ true → some_parted es lefts rights from (d + e) ≡ true
  unfolding some_parted
  parted-more d zero h = let z : d + 0 ≡ d = omega arith in ap (some_parted es lefts rights from) z ∙ h
  parted-more d (suc e) h =
      let z : d + suc e ≡ suc (d + e) = omega arith in
      ap (some_parted es lefts rights from) z ∙ rw (parted-more d e h)

  pub parted-end : {k to : ℕ} → k ≡ to → some_parted es lefts rights from (k - from) ≡ false → false ≡ some_parted es lefts rights from (to - from)
  parted-end e h = sym h ∙ ap (λ (i : ℕ). some_parted es lefts rights from (i - from)) e

  -- one record has its regions in two parts
  pub parted-at : (k : ℕ) → from ≤ k → same_part es (at lefts k) (at rights k) ≡ false → (to : ℕ) → k < to → some_parted es lefts rights from (to - from) ≡ true
  parted-at k l d to m =
      let here : some_parted es lefts rights from (k + 1 - from) ≡ true = parted-last k l ∙ or_right (some_parted es lefts rights from (k - from)) (rw d) in
      let count : to - from ≡ k + 1 - from + (to - (k + 1)) = omega arith in
      ap (some_parted es lefts rights from) count ∙ parted-more (k + 1 - from) (to - (k + 1)) here

  module _ {parents : List ℕ} (f : RootedForest es parents) {k a b : ℕ} (l : from ≤ k) (ra : Root parents (at lefts k) a)
      (rb : Root parents (at rights k) b) where
    same-part : a ≡ b → same_part es (at lefts k) (at rights k) ≡ true
    unfolding same_part
    same-part e = eq-eqb (component_of es (at lefts k)) (component_of es (at rights k)) (root-same f ra rb e)

    other-part : (a ≡ b → ⊥) → same_part es (at lefts k) (at rights k) ≡ false
    unfolding same_part
    other-part d = ne_eqb (component_of es (at lefts k)) (component_of es (at rights k)) (λ e. d (same-root f ra rb e))

    -- this record has its regions in one part
    pub parted-next : a ≡ b → some_parted es lefts rights from (k - from) ≡ false → some_parted es lefts rights from (k + 1 - from) ≡ false
    parted-next e h = parted-last k l ∙ rw (h, same-part e)

    -- this one has not
    pub parted-here : (a ≡ b → ⊥) → (to : ℕ) → k < to → true ≡ some_parted es lefts rights from (to - from)
    parted-here d to m = sym (parted-at k l (other-part d) to m)

-- owners from `from` up to `to`, as a slice
module _ (owners : List ℕ) (from to b : ℕ) (h : from ≤ to) (room : to ≤ length owners) where
  part-long : length (take (to - from) (drop from owners)) ≡ to - from
  part-long = omega (arith, length-take (to - from) (drop from owners), length-drop from owners)

  part-at : (k : ℕ) → k < to - from → get_or (take (to - from) (drop from owners)) k 0 ≡ at owners (from + k)
  part-at k l = get_or-take (to - from) (drop from owners) k 0 l ∙ get_or-drop from owners k 0

  -- those below b stand before the others
  pub owners-parted : RisingOwners to owners → IsPartitionedBy (λ y. ltb y b) (take (to - from) (drop from owners))
  owners-parted rise =
      IsPartitionedBy-ltb (λ y. y) _ b
      (IsNonDecreasingBy-from_default (λ y. y) _ 0
      (λ i j l m.
      let before : j < to - from = omega (arith, part-long) in
      omega (arith, part-at i (omega arith), part-at j before, rise (from + i) (from + j) (omega arith) (omega arith))))

  pub owners_split : (i : ℕ) → i ≤ length (take (to - from) (drop from owners))
      → IsPartitionPoint (λ y. ltb y b ≡ true) (λ y. ltb y b ≡ false) (take (to - from) (drop from owners)) i → OwnersSplit owners from to b (from + i)
  owners_split i l p = record {
    low = omega arith;
    high = omega (arith, part-long);
    below = λ k m n. omega (arith, ltb-true _ b (p.0 (k - from) 0 (omega arith) (omega arith)), here k m (omega (arith, part-long)));
    above = λ k m n.
        omega (arith, ltb-false _ b (p.1 (k - from) 0 (omega arith) (omega (arith, part-long))), here k (omega arith) (omega (arith, part-long)));
  }
    where
      here : (k : ℕ) → from ≤ k → k < to → get_or (take (to - from) (drop from owners)) (k - from) 0 ≡ at owners k
      here k m n = part-at (k - from) (omega arith) ∙ ap (at owners) (let z : from + (k - from) ≡ k = omega arith in z)

-- a test as a byte
pub byte-is-bit : (t : Bool) → bool_byte t ≡ bit t
byte-is-bit true = refl
byte-is-bit false = refl

-- a mark, by the test that it is made of
pub marked-bit : {v : ℕ} {t s : Bool} → v ≡ bool_byte t → t ≡ s → v ≡ bit s
marked-bit {s = s} told e = told ∙ (ap bool_byte e ∙ byte-is-bit s)
