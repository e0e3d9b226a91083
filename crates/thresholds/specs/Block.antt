-- A block of thresholds: its bytes, what is refused of it, and the limits that it has. Request 4: "The block is: count 8 and offset 8 as u32,
-- smallest and largest serial group as u32, then six f64 in the order of source document 000 (chain, width, geometry, flat duplicate, flat envelope, cosine)."
use Rattle.std.specs.Prelude.{Bool, not, ◌||◌, ℕ, ltb, eqb, length}
use mathlib.Core.List.{List, [], ◌∷◌, ◌++◌, flat_map}
use Rattle.std.specs.Float.{binary64}
use Rattle.std.specs.Float.Ieee.{of_bits}
use Rattle.wire.specs.Bytes.{u32_at, u64_at, u64_bytes, words}
use Rattle.serial_links.specs.Limits.{Limits}
use Rattle.checks.specs.Numbers.{bad_thresholds}
use Rattle.checks.specs.Checks.{Check, check}
use Rattle.checks.specs.Faults.{width_fault}
use Rattle.thresholds.specs.declared.block.Block.{Block}

-- "a 64-byte block"
abbrev pub block_size : ℕ
block_size = 64

-- The numbers of a block: two u32, two group sizes, and the bits of six f64.
unfoldable pub block_at : List ℕ → Block
block_at s = record {
  count = u32_at s 0;
  offset = u32_at s 4;
  smallest = u32_at s 8;
  largest = u32_at s 12;
  chain = u64_at s 16;
  width = u64_at s 24;
  geometry = u64_at s 32;
  duplicate = u64_at s 40;
  envelope = u64_at s 48;
  cosine = u64_at s 56;
}

-- The same as bytes: the four u32, and the six f64.
unfoldable pub head_bytes : Block → List ℕ
unfolding words
head_bytes b = words (b.count ∷ b.offset ∷ b.smallest ∷ b.largest ∷ [])

unfoldable pub number_bytes : Block → List ℕ
unfolding flat_map
number_bytes b = flat_map u64_bytes (b.chain ∷ b.width ∷ b.geometry ∷ b.duplicate ∷ b.envelope ∷ b.cosine ∷ [])

unfoldable pub block_bytes : Block → List ℕ
unfolding head_bytes number_bytes
block_bytes b = head_bytes b ++ number_bytes b

-- "count 8 and offset 8"
abbrev pub head_fault : Block → Bool
head_fault b = not (eqb b.count 8) || not (eqb b.offset 8)

-- "The group sizes must satisfy 2 ≤ smallest ≤ largest ≤ 16"
abbrev pub sizes_fault : Block → Bool
sizes_fault b = ltb b.smallest 2 || (ltb b.largest b.smallest || ltb 16 b.largest)

-- The bits of the f64 1; those of +0 to it are the numbers up to them.
abbrev pub max_cosine_bits : ℕ
max_cosine_bits = 0x3FF0_0000_0000_0000

-- "The five lengths are +0 to 16,384 and the cosine +0 to 1", by their bits, as 10 has it of a width
abbrev pub ranges_fault : Block → Bool
ranges_fault b =
    width_fault b.chain
    || (width_fault b.width
    || (width_fault b.geometry
    || (width_fault b.duplicate
    || (width_fault b.envelope
    || ltb max_cosine_bits b.cosine))))

-- "A block of another length, header or range"
unfoldable pub block_fault : List ℕ → Bool
unfolding block_at
block_fault s = not (eqb (length s) block_size) || (head_fault (block_at s) || (sizes_fault (block_at s) || ranges_fault (block_at s)))

-- "is declined with 32, before 1"
abbrev pub thresholds_check : List ℕ → Check
thresholds_check s = check (block_fault s) bad_thresholds 0

-- "take the eight fixed numbers from a 64-byte block"
unfoldable pub limits_in : List ℕ → Limits
unfolding block_at
limits_in s =
    let b = block_at s in
    record {
      least_spans = b.smallest;
      most_spans = b.largest;
      chain = of_bits binary64 b.chain;
      width = of_bits binary64 b.width;
      geometry = of_bits binary64 b.geometry;
      duplicate = of_bits binary64 b.duplicate;
      envelope = of_bits binary64 b.envelope;
      cosine = of_bits binary64 b.cosine;
    }

-- "the listing program lends those of source document 000": 3, 4, 384.0, 8.0, 16.0, 128.0, 32.0, 0.9659258262890683
unfoldable pub numbers000 : Block
numbers000 = record {
  count = 8;
  offset = 8;
  smallest = 3;
  largest = 4;
  chain = 0x4078_0000_0000_0000;
  width = 0x4020_0000_0000_0000;
  geometry = 0x4030_0000_0000_0000;
  duplicate = 0x4060_0000_0000_0000;
  envelope = 0x4040_0000_0000_0000;
  cosine = 0x3FEE_E8DD_4748_BF15;
}

unfoldable pub block000 : List ℕ
unfolding block_bytes numbers000
block000 = block_bytes numbers000
