-- The theorems about blocks: which are admitted, that their numbers settle their bytes, and the block of source document 000.
use mathlib.Core.Path.{◌≡◌, refl, sym, ◌∙◌, ap, ap₂}
use mathlib.Core.Logic.{◌↔◌}
use mathlib.Core.Bool.{false, not}
use mathlib.Core.List.{List, [], ◌∷◌, ◌++◌, flat_map}
use Prim.Native.Nat.{ℕ, ◌+◌, ◌≤◌, ◌<◌}
use native.Mathlib.Omega.{arith}
use lib.Dec.{T}
use lib.Ieee.{Float, nan, inf, fin, binary64, is_nan, le, of_bits, of_int, to_bits}
use lib.Ieee.Bits.{to_bits-of_bits}
use lib.ListN.{length}
use Rattle.lists.specs.Rows.{rows}
use Rattle.length.specs.Floats.{whole_float, finite_up}
use Rattle.length.proofs.BitOrder.{bits_up, range-iff}
use Rattle.wire.specs.Bytes.{part, number, number_at, bytes, words, u32_at, u64_at, AreBytes}
use Rattle.wire.proofs.Parts.{part_join, part-whole}
use Rattle.format.specs.Bounds.{max_width_bits}
use Rattle.format.proofs.Trip.{number-trip}
use Rattle.format.proofs.RowTrips.{rows_write}
use Rattle.thresholds.specs.Block.{block_at, head_bytes, number_bytes, block_bytes, max_cosine_bits, block_fault, limits_in, numbers000, block000}
use Rattle.thresholds.specs.Admitted.{FromZero, AdmittedBlock, encode_limits, Block000}
use Rattle.thresholds.proofs.Faulty.{RightBlock, block-right, right-block}

pub block-000 : Block000
unfolding limits_in block_fault block_at block000 numbers000 block_bytes head_bytes number_bytes words flat_map bytes number_at number part
block-000 = record { limits = refl; admitted = refl; long = refl }

-- Bits up to those of a whole number are those of the numbers from +0 to it.
module _ (n most : ℕ) (same : of_bits binary64 most ≡ whole_float n) (some : 0x10_0000_0000_0000 ≤ most) (finite : most < 0x7FF0_0000_0000_0000) where
  range-means : (b : ℕ) → b < 0x1_0000_0000_0000_0000 → (b ≤ most) ↔ FromZero n (of_bits binary64 b)
  range-means b wide =
      let r = range-iff most b some finite wide in (
        λ l. let w = r.0 l in record { finite = w.0; most-at = ap (le (of_bits binary64 b)) (sym same) ∙ w.1 },
        λ w. r.1 (w.finite, ap (le (of_bits binary64 b)) same ∙ w.most-at),
      )

largest-length : of_bits binary64 max_width_bits ≡ whole_float 16_384
unfolding of_bits of_int
largest-length = refl

largest-cosine : of_bits binary64 max_cosine_bits ≡ whole_float 1
unfolding of_bits of_int
largest-cosine = refl

length-means : (b : ℕ) → b < 0x1_0000_0000_0000_0000 → (b ≤ max_width_bits) ↔ FromZero 16_384 (of_bits binary64 b)
length-means = range-means 16_384 max_width_bits largest-length (omega arith) (omega arith)

cosine-means : (b : ℕ) → b < 0x1_0000_0000_0000_0000 → (b ≤ max_cosine_bits) ↔ FromZero 1 (of_bits binary64 b)
cosine-means = range-means 1 max_cosine_bits largest-cosine (omega arith) (omega arith)

-- A block passes exactly if it has the length, the two words, and numbers within their ranges.
module _ (s : List ℕ) (a : AreBytes s) where
  wide : length s ≡ 64 → (i : ℕ) → i + 8 ≤ 64 → u64_at s i < 0x1_0000_0000_0000_0000
  wide l i h = (number-trip 8).fits s i a (omega arith)

  passed : RightBlock s → AdmittedBlock s
  unfolding block_at limits_in
  passed r =
      let long : length s ≡ 64 = r.long in
      let w = wide long in
      let g = r.ranges in
      record {
        long = long;
        count = r.head.count;
        offset = r.head.offset;
        limits = record {
          smallest = r.sizes.smallest;
          ordered = r.sizes.ordered;
          largest = r.sizes.largest;
          chain = (length-means (u64_at s 16) (w 16 (omega arith))).0 g.chain;
          width = (length-means (u64_at s 24) (w 24 (omega arith))).0 g.width;
          geometry = (length-means (u64_at s 32) (w 32 (omega arith))).0 g.geometry;
          duplicate = (length-means (u64_at s 40) (w 40 (omega arith))).0 g.duplicate;
          envelope = (length-means (u64_at s 48) (w 48 (omega arith))).0 g.envelope;
          cosine = (cosine-means (u64_at s 56) (w 56 (omega arith))).0 g.cosine;
        };
      }

  passes : AdmittedBlock s → RightBlock s
  unfolding block_at limits_in
  passes m =
      let w = wide m.long in
      let l = m.limits in
      record {
        long = m.long;
        head = record { count = m.count; offset = m.offset };
        sizes = record { smallest = l.smallest; ordered = l.ordered; largest = l.largest };
        ranges = record {
          chain = (length-means (u64_at s 16) (w 16 (omega arith))).1 l.chain;
          width = (length-means (u64_at s 24) (w 24 (omega arith))).1 l.width;
          geometry = (length-means (u64_at s 32) (w 32 (omega arith))).1 l.geometry;
          duplicate = (length-means (u64_at s 40) (w 40 (omega arith))).1 l.duplicate;
          envelope = (length-means (u64_at s 48) (w 48 (omega arith))).1 l.envelope;
          cosine = (cosine-means (u64_at s 56) (w 56 (omega arith))).1 l.cosine;
        };
      }

  pub admitted-iff : (block_fault s ≡ false) ↔ AdmittedBlock s
  admitted-iff = (λ e. passed (block-right s e), λ m. right-block s (passes m))

a-number : (x : Float) → T (finite_up x) → T (not (is_nan x))
unfolding is_nan
a-number nan h = h
a-number (inf t) h = tt
a-number (fin t m e) h = tt

bits_back : (b : ℕ) → b ≤ max_width_bits → to_bits binary64 (of_bits binary64 b) ≡ b
bits_back b l = to_bits-of_bits binary64 b (omega arith) (a-number (of_bits binary64 b) (bits_up b (omega arith)))

-- An admitted block is what its limits are encoded to: nothing else is in it.
pub block-trip : (s : List ℕ) → AreBytes s → block_fault s ≡ false → encode_limits (limits_in s) ≡ s
unfolding encode_limits limits_in block_at words flat_map rows
block-trip s a e =
    let r = block-right s e in
    let g = r.ranges in
    let long : length s ≡ 64 = r.long in
    let head : words (8 ∷ 8 ∷ u32_at s 8 ∷ u32_at s 12 ∷ []) ≡ part s 0 16
    = ap₂ (λ (x y : ℕ). words (x ∷ y ∷ u32_at s 8 ∷ u32_at s 12 ∷ [])) (sym r.head.count) (sym r.head.offset)
    ∙ rows_write (number-trip 4) 4 s 0 a (omega arith) in
    let numbers = rows_write (number-trip 8) 6 s 16 a (omega arith) in
    let chain = bits_back (u64_at s 16) g.chain in
    let width = bits_back (u64_at s 24) g.width in
    let geometry = bits_back (u64_at s 32) g.geometry in
    let duplicate = bits_back (u64_at s 40) g.duplicate in
    let envelope = bits_back (u64_at s 48) g.envelope in
    let cosine = bits_back (u64_at s 56) (let z = g.cosine in omega arith) in
    ap₂ ◌++◌ head (rw (chain, width, geometry, duplicate, envelope, cosine) numbers)
    ∙ (sym (part_join s 0 16 48) ∙ (ap (part s 0) (sym long) ∙ part-whole s))

-- So equal limits are equal blocks.
pub same_block : (s t : List ℕ) → AreBytes s → AreBytes t → block_fault s ≡ false → block_fault t ≡ false → limits_in s ≡ limits_in t → s ≡ t
same_block s t a b e f l = sym (block-trip s a e) ∙ (ap encode_limits l ∙ block-trip t b f)
