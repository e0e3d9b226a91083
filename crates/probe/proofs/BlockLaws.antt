-- The block of source document 000 at the start of a slice, or not.
use mathlib.Core.Path.{◌≡◌, refl, sym, ◌∙◌, ap}
use mathlib.Core.List.{List, ◌++◌}
use Prim.Native.Nat.{ℕ, ◌+◌, ◌≤◌, ◌<◌}
use native.Mathlib.Omega.{arith}
use borrow.Author.Tests.{lt-ltb, le-ltb}
use lib.ListN.{length, drop}
use Rattle.wire.specs.Bytes.{splice}
use Rattle.thresholds.specs.Block.{block000}
use Rattle.thresholds.proofs.Blocks.{block-000}
use Rattle.probe.specs.Probe.{put_first, length_where_fits}

pub block-kept : (s : List ℕ) → length s < 64 → (0 ≡ length_where_fits s block000) × (s ≡ put_first s block000)
unfolding put_first length_where_fits
block-kept s h =
    let short = lt-ltb (length s) (length block000) (omega (arith, block-000.long)) in
    (rw short refl, rw short refl)

pub block-put : (s : List ℕ) {t : List ℕ} {r : ℕ} → 64 ≤ length s → t ≡ splice s 0 block000 → r ≡ 64
    → (r ≡ length_where_fits s block000) × (t ≡ put_first s block000)
unfolding put_first length_where_fits splice
block-put s h e f =
    let room = le-ltb (length s) (length block000) (omega (arith, block-000.long)) in
    let first : 0 + length block000 ≡ length block000 = omega arith in
    (rw room (f ∙ sym block-000.long), rw room (e ∙ ap (λ (n : ℕ). block000 ++ drop n s) first))
