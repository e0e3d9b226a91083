-- The numbers of source document 000 as a block has them.
use mathlib.Core.Path.{◌≡◌, refl, ap}
use mathlib.Core.Bool.{not}
use Prim.Native.Nat.{ℕ}
use lib.Dec.{T}
use lib.Ieee.{Float, binary64, is_nan, of_bits, to_bits}
use Rattle.serial_links.specs.Limits.{Limits, limits000}
use Rattle.serial_links.specs.HeldLimits.{limits_of}
use Rattle.serial_links.specs.declared.limits.Limits.{Limits as LimitsHeld}
use Rattle.thresholds.specs.Block.{numbers000}

-- an f64 with these bits is a number, and has these bits
pub record Bits (x : Float) (b : ℕ) : Type 0 where
  pub number : T (not (is_nan x))
  pub back : to_bits binary64 x ≡ b

bits_of : {x : Float} (b : ℕ) → x ≡ of_bits binary64 b → T (not (is_nan (of_bits binary64 b))) → to_bits binary64 (of_bits binary64 b) ≡ b → Bits x b
bits_of b e n t = rw e (record { number = n; back = t })

module _ {l : LimitsHeld} (e : limits_of l ≡ limits000) where
  pub chain-bits : Bits l.chain 0x4078_0000_0000_0000
  unfolding of_bits to_bits is_nan
  chain-bits = bits_of 0x4078_0000_0000_0000 (ap (λ (x : Limits). x.chain) e) tt refl

  pub width-bits : Bits l.width 0x4020_0000_0000_0000
  unfolding of_bits to_bits is_nan
  width-bits = bits_of 0x4020_0000_0000_0000 (ap (λ (x : Limits). x.width) e) tt refl

  pub geometry-bits : Bits l.geometry 0x4030_0000_0000_0000
  unfolding of_bits to_bits is_nan
  geometry-bits = bits_of 0x4030_0000_0000_0000 (ap (λ (x : Limits). x.geometry) e) tt refl

  pub duplicate-bits : Bits l.duplicate 0x4060_0000_0000_0000
  unfolding of_bits to_bits is_nan
  duplicate-bits = bits_of 0x4060_0000_0000_0000 (ap (λ (x : Limits). x.duplicate) e) tt refl

  pub envelope-bits : Bits l.envelope 0x4040_0000_0000_0000
  unfolding of_bits to_bits is_nan
  envelope-bits = bits_of 0x4040_0000_0000_0000 (ap (λ (x : Limits). x.envelope) e) tt refl

  pub cosine-bits : Bits l.cosine 0x3FEE_E8DD_4748_BF15
  unfolding of_bits to_bits is_nan
  cosine-bits = bits_of 0x3FEE_E8DD_4748_BF15 (ap (λ (x : Limits). x.cosine) e) tt refl

  pub sizes-000 : (l.least_spans ≡ 3) × (l.most_spans ≡ 4)
  sizes-000 = (ap (λ (x : Limits). x.least_spans) e, ap (λ (x : Limits). x.most_spans) e)

  pub all-bits : {count offset : ℕ} → count ≡ 8 → offset ≡ 8
      → record {
        count = count;
        offset = offset;
        smallest = l.least_spans;
        largest = l.most_spans;
        chain = to_bits binary64 l.chain;
        width = to_bits binary64 l.width;
        geometry = to_bits binary64 l.geometry;
        duplicate = to_bits binary64 l.duplicate;
        envelope = to_bits binary64 l.envelope;
        cosine = to_bits binary64 l.cosine;
      } ≡ numbers000
  unfolding numbers000
  all-bits c o =
      rw (
        c,
        o,
        sizes-000.0,
        sizes-000.1,
        chain-bits.back,
        width-bits.back,
        geometry-bits.back,
        duplicate-bits.back,
        envelope-bits.back,
        cosine-bits.back,
      ) refl
