-- A block written field by field, and the limits read from one.
use mathlib.Core.Path.{◌≡◌, refl, ◌∙◌, ap}
use mathlib.Core.List.{List, [], ◌∷◌, ◌++◌}
use Prim.Native.Nat.{ℕ, ◌≤◌}
use native.Mathlib.Omega.{arith}
use lib.Ieee.{Float, binary64, of_bits}
use lib.ListN.{length}
use Rattle.wire.specs.Bytes.{splice, u32_bytes, u64_bytes, words}
use Rattle.format.proofs.Writes.{then-write}
use Rattle.format.proofs.Fields.{fields-long, field-first, field-more}
use Rattle.thresholds.specs.declared.block.Block.{Block}
use Rattle.thresholds.specs.Block.{block_size, block_at, head_bytes, number_bytes, block_bytes, limits_in}

module _ (s : List ℕ) (b : Block) (room : block_size ≤ length s) where
  pub head-written : {t1 t2 t3 t4 : List ℕ} {j1 j2 j3 j4 v1 v2 v3 v4 : ℕ}
      → t1 ≡ splice s j1 (u32_bytes v1) → t2 ≡ splice t1 j2 (u32_bytes v2) → t3 ≡ splice t2 j3 (u32_bytes v3) → t4 ≡ splice t3 j4 (u32_bytes v4)
      → j1 ≡ 0 → j2 ≡ 4 → j3 ≡ 8 → j4 ≡ 12
      → v1 ≡ b.count → v2 ≡ b.offset → v3 ≡ b.smallest → v4 ≡ b.largest
      → t4 ≡ splice s 0 (head_bytes b)
  unfolding head_bytes words
  head-written {v1 = v1} e1 e2 e3 e4 p1 p2 p3 p4 f1 f2 f3 f4 =
      let first = field-first 4 s 0 b.count (e1 ∙ ap (λ (j : ℕ). splice s j (u32_bytes v1)) p1) f1 in
      let second = field-more 4 s 0 (b.count ∷ []) b.offset (omega arith) first e2 p2 f2 in
      let third = field-more 4 s 0 (b.count ∷ b.offset ∷ []) b.smallest (omega arith) second e3 p3 f3 in
      field-more 4 s 0 (b.count ∷ b.offset ∷ b.smallest ∷ []) b.largest (omega arith) third e4 p4 f4

  pub numbers-written : {t1 t2 t3 t4 t5 t6 : List ℕ} {j1 j2 j3 j4 j5 j6 v1 v2 v3 v4 v5 v6 : ℕ}
      → t1 ≡ splice s j1 (u64_bytes v1) → t2 ≡ splice t1 j2 (u64_bytes v2) → t3 ≡ splice t2 j3 (u64_bytes v3) → t4 ≡ splice t3 j4 (u64_bytes v4)
      → t5 ≡ splice t4 j5 (u64_bytes v5) → t6 ≡ splice t5 j6 (u64_bytes v6)
      → j1 ≡ 16 → j2 ≡ 24 → j3 ≡ 32 → j4 ≡ 40 → j5 ≡ 48 → j6 ≡ 56
      → v1 ≡ b.chain → v2 ≡ b.width → v3 ≡ b.geometry → v4 ≡ b.duplicate → v5 ≡ b.envelope → v6 ≡ b.cosine
      → t6 ≡ splice s 16 (number_bytes b)
  unfolding number_bytes
  numbers-written {v1 = v1} e1 e2 e3 e4 e5 e6 p1 p2 p3 p4 p5 p6 f1 f2 f3 f4 f5 f6 =
      let vs : List ℕ = b.chain ∷ b.width ∷ b.geometry ∷ b.duplicate ∷ [] in
      let first = field-first 8 s 16 b.chain (e1 ∙ ap (λ (j : ℕ). splice s j (u64_bytes v1)) p1) f1 in
      let second = field-more 8 s 16 (b.chain ∷ []) b.width (omega arith) first e2 p2 f2 in
      let third = field-more 8 s 16 (b.chain ∷ b.width ∷ []) b.geometry (omega arith) second e3 p3 f3 in
      let fourth = field-more 8 s 16 (b.chain ∷ b.width ∷ b.geometry ∷ []) b.duplicate (omega arith) third e4 p4 f4 in
      let fifth = field-more 8 s 16 vs b.envelope (omega arith) fourth e5 p5 f5 in
      field-more 8 s 16 (vs ++ (b.envelope ∷ [])) b.cosine (omega arith) fifth e6 p6 f6

  head-long : length (head_bytes b) ≡ 16
  unfolding head_bytes words
  head-long = fields-long 4 (b.count ∷ b.offset ∷ b.smallest ∷ b.largest ∷ [])

  -- both parts
  pub block_written : {t u : List ℕ} → t ≡ splice s 0 (head_bytes b) → u ≡ splice t 16 (number_bytes b) → u ≡ splice s 0 (block_bytes b)
  unfolding block_bytes
  block_written p q = then-write s 0 (head_bytes b) (number_bytes b) (omega (arith, head-long)) (omega (arith, head-long)) p q

-- the limits, from the numbers that were read
pub limits-read : (s : List ℕ) {b : Block} {chain width geometry duplicate envelope cosine : Float} → b ≡ block_at s
    → chain ≡ of_bits binary64 b.chain → width ≡ of_bits binary64 b.width → geometry ≡ of_bits binary64 b.geometry
    → duplicate ≡ of_bits binary64 b.duplicate → envelope ≡ of_bits binary64 b.envelope → cosine ≡ of_bits binary64 b.cosine
    → record {
      least_spans = b.smallest;
      most_spans = b.largest;
      chain = chain;
      width = width;
      geometry = geometry;
      duplicate = duplicate;
      envelope = envelope;
      cosine = cosine;
    } ≡ limits_in s
unfolding limits_in
limits-read s e c w g d n o = rw (c, w, g, d, n, o, e) refl
