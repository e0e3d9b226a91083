-- What it means that a block is admitted, of its numbers as numbers.
use Rattle.std.specs.Prelude.{◌≡◌, true, false, ℕ, ◌≤◌, T, Float, length}
use mathlib.Core.List.{List, [], ◌∷◌, ◌++◌, flat_map}
use Rattle.std.specs.Float.{binary64}
use Rattle.std.specs.Float.Ieee.{le, to_bits}
use Rattle.length.specs.Floats.{whole_float, finite_up}
use Rattle.wire.specs.Bytes.{u32_at, words, u64_bytes}
use Rattle.serial_links.specs.Limits.{Limits, limits000}
use Rattle.thresholds.specs.Block.{block_fault, limits_in, block000}

-- "+0 to" a whole number: finite, with no sign, which -0 has, and no more than it
pub record FromZero (most : ℕ) (x : Float) : Type 0 where
  pub finite : T (finite_up x)
  pub most-at : le x (whole_float most) ≡ true

pub record AdmittedLimits (l : Limits) : Type 0 where
  -- "The group sizes must satisfy 2 ≤ smallest ≤ largest ≤ 16"
  pub smallest : 2 ≤ l.least_spans
  pub ordered : l.least_spans ≤ l.most_spans
  pub largest : l.most_spans ≤ 16
  -- "The five lengths are +0 to 16,384"
  pub chain : FromZero 16_384 l.chain
  pub width : FromZero 16_384 l.width
  pub geometry : FromZero 16_384 l.geometry
  pub duplicate : FromZero 16_384 l.duplicate
  pub envelope : FromZero 16_384 l.envelope
  -- "and the cosine +0 to 1"
  pub cosine : FromZero 1 l.cosine

-- "A block of another length, header or range is declined with 32": of this length, header and range it is not.
pub record AdmittedBlock (s : List ℕ) : Type 0 where
  pub long : length s ≡ 64
  pub count : u32_at s 0 ≡ 8
  pub offset : u32_at s 4 ≡ 8
  pub limits : AdmittedLimits (limits_in s)

-- The bytes of limits: "count 8 and offset 8 as u32, smallest and largest serial group as u32, then six f64 in the order of source document 000".
unfoldable pub encode_limits : Limits → List ℕ
unfolding words flat_map
encode_limits l =
    words (8 ∷ 8 ∷ l.least_spans ∷ l.most_spans ∷ [])
    ++ flat_map (λ (x : Float). u64_bytes (to_bits binary64 x)) (l.chain ∷ l.width ∷ l.geometry ∷ l.duplicate ∷ l.envelope ∷ l.cosine ∷ [])

-- "the listing program lends those of source document 000": its block has these limits, and is admitted.
pub record Block000 : Type 0 where
  pub limits : limits_in block000 ≡ limits000
  pub admitted : block_fault block000 ≡ false
  pub long : length block000 ≡ 64
