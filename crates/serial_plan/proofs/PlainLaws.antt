-- The arrays of boundaries with 0 behind them are plain.
use mathlib.Core.Path.{◌≡◌, ap, subst}
use mathlib.Core.List.{List}
use Prim.Native.Nat.{ℕ, zero, suc, ◌+◌, ◌*◌, ◌/◌, ◌%◌, ◌<◌, ◌≤◌}
use native.Mathlib.Omega.{arith}
use borrow.Author.Tests.{ltb-true, ltb-false}
use lib.Dec.{ltb}
use lib.ListN.{length, get_or}
use Rattle.order.proofs.Bools.{by-test}
use Rattle.position.specs.declared.Span.{Span}
use Rattle.areas.specs.Spans.{span_in}
use Rattle.context.specs.Listing.{Item}
use Rattle.serial_groups.specs.Listing.{ends_at}
use Rattle.serial_groups.specs.Tables.{Boundaries}
use Rattle.serial_measures.specs.Judging.{CoordinatesBounded}

module _ {l : List Item} {own bits ramps : List ℕ} (B : Boundaries l own bits ramps) where
  coordinate-of : (i : ℕ) → i < length l → (j : ℕ) → j < 4 → get_or own (4 * i + j) 0 ≤ 8192
  unfolding span_in
  coordinate-of i b zero h =
      let e : (ends_at l i).a.x ≡ get_or own (4 * i) 0 = ap (λ (s : Span). s.a.x) (B.ends i b) in
      let z : 4 * i ≡ 4 * i + 0 = omega arith in
      subst (λ (k : ℕ). get_or own k 0 ≤ 8192) z (omega (arith, e, (B.bounded i b).0.column))
  coordinate-of i b (suc zero) h = let e : (ends_at l i).a.y ≡ get_or own (4 * i + 1) 0 = ap (λ (s : Span). s.a.y) (B.ends i b) in
      omega (arith, e, (B.bounded i b).0.row)
  coordinate-of i b (suc (suc zero)) h = let e : (ends_at l i).b.x ≡ get_or own (4 * i + 2) 0 = ap (λ (s : Span). s.b.x) (B.ends i b) in
      omega (arith, e, (B.bounded i b).1.column)
  coordinate-of i b (suc (suc (suc zero))) h = let e : (ends_at l i).b.y ≡ get_or own (4 * i + 3) 0 = ap (λ (s : Span). s.b.y) (B.ends i b) in
      omega (arith, e, (B.bounded i b).1.row)
  coordinate-of i b (suc (suc (suc (suc j)))) h = absurd (omega arith)

  pub plain-arrays : ((k : ℕ) → 4 * length l ≤ k → get_or own k 0 ≡ 0) → ((k : ℕ) → length l ≤ k → get_or bits k 0 ≡ 0) → CoordinatesBounded own bits
  plain-arrays p q = record {
    coordinate = λ k h.
        by-test (ltb k (4 * length l))
        (λ t.
        let u = ltb-true k (4 * length l) t in
        let e : 4 * (k / 4) + k % 4 ≡ k = omega arith in
        subst (λ (z : ℕ). get_or own z 0 ≤ 8192) e (coordinate-of (k / 4) (omega (arith, u)) (k % 4) (omega arith)))
        (λ t. omega (arith, p k (ltb-false k (4 * length l) t)));
    width = λ i h.
        by-test (ltb i (length l))
        (λ t. let u = ltb-true i (length l) t in omega (arith, B.widths i u, B.fitting i u))
        (λ t. omega (arith, q i (ltb-false i (length l) t)));
  }
