-- What is wrong with a block, by its numbers.
use mathlib.Core.Path.{◌≡◌, refl, sym, ◌∙◌, ap, subst}
use mathlib.Core.Bool.{Bool, true, false, not, ◌||◌}
use mathlib.Core.List.{List, [], ◌∷◌}
use mathlib.Core.Option.{none, some}
use Prim.Native.Nat.{ℕ, ◌≤◌}
use borrow.Author.Tests.{ltb-false, le-ltb, eqb-true, eq-eqb, not-false}
use lib.Dec.{ltb, eqb}
use lib.ListN.{length}
use Rattle.order.proofs.Bools.{clash, by-test, or_parts}
use Rattle.format.specs.Bounds.{max_width_bits}
use Rattle.checks.specs.Numbers.{bad_thresholds}
use Rattle.checks.specs.Checks.{first_refusal}
use Rattle.checks.specs.Faults.{width_fault}
use Rattle.checks.proofs.Firsts.{stop, clear}
use Rattle.thresholds.specs.declared.block.Block.{Block}
use Rattle.thresholds.specs.Block.{block_size, block_at, head_fault, sizes_fault, max_cosine_bits, ranges_fault, block_fault, thresholds_check}

-- a test that fails where it must not, and one that can't pass
wrong : (t : Bool) → (t ≡ false → ⊥) → true ≡ t
wrong t h = by-test t (λ e. sym e) (λ e. absurd (h e))

neither : {p q : Bool} → p ≡ false → q ≡ false → p || q ≡ false
neither e f = rw e f

differs : (a b : ℕ) → not (eqb a b) ≡ false → a ≡ b
differs a b e = eqb-true a b (not-false (eqb a b) e)

same : (a b : ℕ) → a ≡ b → not (eqb a b) ≡ false
same a b e = rw (eq-eqb a b e) refl

pub record RightHead (b : Block) : Type 0 where
  pub count : b.count ≡ 8
  pub offset : b.offset ≡ 8

pub record RightSizes (b : Block) : Type 0 where
  pub smallest : 2 ≤ b.smallest
  pub ordered : b.smallest ≤ b.largest
  pub largest : b.largest ≤ 16

pub record RightRanges (b : Block) : Type 0 where
  pub chain : b.chain ≤ max_width_bits
  pub width : b.width ≤ max_width_bits
  pub geometry : b.geometry ≤ max_width_bits
  pub duplicate : b.duplicate ≤ max_width_bits
  pub envelope : b.envelope ≤ max_width_bits
  pub cosine : b.cosine ≤ max_cosine_bits

module _ (b : Block) where
  head-right : head_fault b ≡ false → RightHead b
  head-right e =
      let p = or_parts (not (eqb b.count 8)) (not (eqb b.offset 8)) e in
      record { count = differs _ _ p.0; offset = differs _ _ p.1 }

  pub right-head : RightHead b → false ≡ head_fault b
  right-head r = sym (neither (same _ _ r.count) (same _ _ r.offset))

  pub wrong-head : (RightHead b → ⊥) → true ≡ head_fault b
  wrong-head h = wrong (head_fault b) (λ e. h (head-right e))

  sizes-right : sizes_fault b ≡ false → RightSizes b
  sizes-right e =
      let p = or_parts (ltb b.smallest 2) (ltb b.largest b.smallest || ltb 16 b.largest) e in
      let q = or_parts (ltb b.largest b.smallest) (ltb 16 b.largest) p.1 in
      record { smallest = ltb-false _ _ p.0; ordered = ltb-false _ _ q.0; largest = ltb-false _ _ q.1 }

  pub right-sizes : RightSizes b → false ≡ sizes_fault b
  right-sizes r = sym (neither (le-ltb _ _ r.smallest) (neither (le-ltb _ _ r.ordered) (le-ltb _ _ r.largest)))

  pub wrong-sizes : (RightSizes b → ⊥) → true ≡ sizes_fault b
  wrong-sizes h = wrong (sizes_fault b) (λ e. h (sizes-right e))

  -- the ranges from the sixth on, from the fifth on, and so on
  abbrev sixth : Bool
  sixth = ltb max_cosine_bits b.cosine

  abbrev fifth : Bool
  fifth = width_fault b.envelope || sixth

  abbrev fourth : Bool
  fourth = width_fault b.duplicate || fifth

  abbrev third : Bool
  third = width_fault b.geometry || fourth

  abbrev second : Bool
  second = width_fault b.width || third

  ranges-right : ranges_fault b ≡ false → RightRanges b
  ranges-right e =
      let p = or_parts (width_fault b.chain) second e in
      let q = or_parts (width_fault b.width) third p.1 in
      let r = or_parts (width_fault b.geometry) fourth q.1 in
      let s = or_parts (width_fault b.duplicate) fifth r.1 in
      let t = or_parts (width_fault b.envelope) sixth s.1 in
      record {
        chain = ltb-false _ _ p.0;
        width = ltb-false _ _ q.0;
        geometry = ltb-false _ _ r.0;
        duplicate = ltb-false _ _ s.0;
        envelope = ltb-false _ _ t.0;
        cosine = ltb-false _ _ t.1;
      }

  pub right-ranges : RightRanges b → false ≡ ranges_fault b
  right-ranges r =
      sym (neither (le-ltb _ _ r.chain)
      (neither (le-ltb _ _ r.width)
      (neither (le-ltb _ _ r.geometry)
      (neither (le-ltb _ _ r.duplicate) (neither (le-ltb _ _ r.envelope) (le-ltb _ _ r.cosine))))))

  pub wrong-ranges : (RightRanges b → ⊥) → true ≡ ranges_fault b
  wrong-ranges h = wrong (ranges_fault b) (λ e. h (ranges-right e))

-- All of a block's bytes.
pub record RightBlock (s : List ℕ) : Type 0 where
  pub long : length s ≡ block_size
  pub head : RightHead (block_at s)
  pub sizes : RightSizes (block_at s)
  pub ranges : RightRanges (block_at s)

module _ (s : List ℕ) where
  abbrev numbers : Block
  numbers = block_at s

  pub block-right : block_fault s ≡ false → RightBlock s
  unfolding block_fault
  block-right e =
      let p = or_parts (not (eqb (length s) block_size)) (head_fault numbers || (sizes_fault numbers || ranges_fault numbers)) e in
      let q = or_parts (head_fault numbers) (sizes_fault numbers || ranges_fault numbers) p.1 in
      let r = or_parts (sizes_fault numbers) (ranges_fault numbers) q.1 in
      record {
        long = differs _ _ p.0;
        head = head-right numbers q.0;
        sizes = sizes-right numbers r.0;
        ranges = ranges-right numbers r.1;
      }

  pub right-block : RightBlock s → block_fault s ≡ false
  unfolding block_fault
  right-block r =
      neither (same _ _ r.long)
      (neither (sym (right-head numbers r.head)) (neither (sym (right-sizes numbers r.sizes)) (sym (right-ranges numbers r.ranges))))

  -- the refusal of a block, or none
  pub refused-block : (RightBlock s → ⊥) → some (record { number = bad_thresholds; detail = 0 }) ≡ first_refusal (thresholds_check s ∷ [])
  refused-block h = sym (stop (thresholds_check s) [] (sym (wrong (block_fault s) (λ e. h (block-right e)))))

  pub passed-block : RightBlock s → none ≡ first_refusal (thresholds_check s ∷ [])
  passed-block r = sym (clear (thresholds_check s) (right-block r))

  -- what a test of the numbers that were read said
  module _ {b : Block} (e : b ≡ numbers) where
    pub bad-head : true ≡ head_fault b → RightBlock s → ⊥
    bad-head h r = clash (ap head_fault (sym e) ∙ sym h) (sym (right-head numbers r.head))

    pub bad-sizes : true ≡ sizes_fault b → RightBlock s → ⊥
    bad-sizes h r = clash (ap sizes_fault (sym e) ∙ sym h) (sym (right-sizes numbers r.sizes))

    pub bad-ranges : true ≡ ranges_fault b → RightBlock s → ⊥
    bad-ranges h r = clash (ap ranges_fault (sym e) ∙ sym h) (sym (right-ranges numbers r.ranges))

    pub no-fault : length s ≡ block_size → false ≡ head_fault b → false ≡ sizes_fault b → false ≡ ranges_fault b → RightBlock s
    no-fault l h k r = record {
      long = l;
      head = head-right numbers (ap head_fault (sym e) ∙ sym h);
      sizes = sizes-right numbers (ap sizes_fault (sym e) ∙ sym k);
      ranges = ranges-right numbers (ap ranges_fault (sym e) ∙ sym r);
    }

-- the ranges of the numbers that were read from a block that passed
pub read-ranges : (s : List ℕ) {b : Block} → b ≡ block_at s → block_fault s ≡ false → RightRanges b
read-ranges s e h = subst RightRanges (sym e) (block-right s h).ranges
