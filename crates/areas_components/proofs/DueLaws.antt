-- Runs and due steps lead wherever the open steps lead.
use mathlib.Core.Path.{◌≡◌, refl, sym, ◌∙◌, ap, subst}
use mathlib.Core.Logic.{⊎_elim, ◌↔◌, by_cases}
use mathlib.Core.Bool.{Bool, true, false, not, ◌&&◌}
use mathlib.Core.List.Memᴰ
use mathlib.Core.List.{List, ◌++◌, Memᴰ}
use Prim.Native.Nat.{ℕ, zero, suc, ◌+◌, ◌*◌, ◌/◌, ◌%◌, ◌<◌}
use native.Mathlib.Omega.{arith}
use native.Mathlib.Decide.{dec_lt}
use borrow.Author.Tests.{eqb-true}
use lib.Dec.{eqb}
use lib.ListN.{length, get_or, get_or-eq_default}
use Rattle.lists.proofs.Rows.{length-rows, rows_at}
use Rattle.order.proofs.Bools.{clash, by-test, and_parts, and_both}
use Rattle.graph.specs.Path.{Edge, Path}
use Rattle.graph.proofs.Paths.{path-trans, path-sym, path-edge, path-between, path-through, path-more}
use Rattle.grid.specs.Steps.{step_of}
use Rattle.areas.specs.Open.{later, bit_at, bit_of, named}
use Rattle.areas.proofs.Named.{named-names, names-named}
use Rattle.areas_components.specs.Dues.{left_due, below_due, right_due, due_of, byte_in, before_in, due_byte, dues, runs}
use Rattle.areas_components.proofs.StepLaws.{to-right, to-left, to_below, to_last}

-- the bits of a byte of three
bits-three : (x y z : Bool) →
    let b = 2 * bit_of x + 4 * bit_of y + 8 * bit_of z in (bit_at b 0 ≡ false) × (bit_at b 1 ≡ x) × (bit_at b 2 ≡ y) × (bit_at b 3 ≡ z)
bits-three true true true = (refl, refl, refl, refl)
bits-three true true false = (refl, refl, refl, refl)
bits-three true false true = (refl, refl, refl, refl)
bits-three true false false = (refl, refl, refl, refl)
bits-three false true true = (refl, refl, refl, refl)
bits-three false true false = (refl, refl, refl, refl)
bits-three false false true = (refl, refl, refl, refl)
bits-three false false false = (refl, refl, refl, refl)

-- 0 has no bits, so that a bit is one of a cell
no-bit : (k : ℕ) → k < 4 → bit_at 0 k ≡ false
no-bit zero l = refl
no-bit (suc zero) l = refl
no-bit (suc (suc zero)) l = refl
no-bit (suc (suc (suc zero))) l = refl
no-bit (suc (suc (suc (suc k)))) l = absurd (omega arith)

bit-on : (bytes : List ℕ) (i k : ℕ) → k < 4 → bit_at (byte_in bytes i) k ≡ true → i < length bytes
bit-on bytes i k l h =
    by_cases (dec_lt i (length bytes)) (λ m. m)
    (λ m. clash h (ap (λ (x : ℕ). bit_at x k) (get_or-eq_default bytes 0 {n = i} (omega arith)) ∙ no-bit k l))

-- bit 0 alone
pub half-bit : (b : ℕ) → bit_at (b % 2) 0 ≡ bit_at b 0
half-bit b = ap (λ (x : ℕ). eqb x 1) (let z : b % 2 / 1 % 2 ≡ b / 1 % 2 = omega arith in z)

pub half-zero : (b k : ℕ) → k < 4 → bit_at (b % 2) k ≡ true → k ≡ 0
half-zero b zero l h = refl
half-zero b (suc zero) l h = let z = eqb-true (b % 2 / 2 % 2) 1 h in absurd (omega arith)
half-zero b (suc (suc zero)) l h = let z = eqb-true (b % 2 / 4 % 2) 1 h in absurd (omega arith)
half-zero b (suc (suc (suc zero))) l h = let z = eqb-true (b % 2 / 8 % 2) 1 h in absurd (omega arith)
half-zero b (suc (suc (suc (suc k)))) l h = absurd (omega arith)

half-only : (b k : ℕ) → k < 4 → bit_at (b % 2) k ≡ true → bit_at b k ≡ true
half-only b k l h = let z = half-zero b k l h in ap (bit_at b) z ∙ (sym (half-bit b) ∙ (ap (bit_at (b % 2)) (sym z) ∙ h))

module _ (v l e d : ℕ) where
  due-bits : (bit_at (due_of v l e d) 0 ≡ false) × (bit_at (due_of v l e d) 1 ≡ left_due v l e d) × (bit_at (due_of v l e d) 2 ≡ below_due v l e d)
      × (bit_at (due_of v l e d) 3 ≡ right_due v l e d)
  unfolding due_of
  due-bits = bits-three (left_due v l e d) (below_due v l e d) (right_due v l e d)

  -- a due bit is a bit of the open byte
  due-open : (k : ℕ) → k < 4 → bit_at (due_of v l e d) k ≡ true → bit_at v k ≡ true
  due-open zero m h = clash h due-bits.0
  due-open (suc zero) m h = (and_parts (bit_at v 1) _ (and_parts (bit_at v 1 && not (bit_at l 0 && bit_at l 2)) _ (sym due-bits.1 ∙ h)).0).0
  due-open (suc (suc zero)) m h = (and_parts (bit_at v 2) _ (sym due-bits.2 ∙ h)).0
  due-open (suc (suc (suc zero))) m h = (and_parts (bit_at v 3) _ (sym due-bits.3 ∙ h)).0
  due-open (suc (suc (suc (suc k)))) m h = absurd (omega arith)

module _ (width : ℕ) (bytes : List ℕ) where
  -- the due steps and those of the runs
  abbrev pub enough : List Edge
  enough = named width (dues width bytes) ++ named width (runs bytes)

  before-is : (m j : ℕ) → m ≡ suc j → before_in bytes m ≡ byte_in bytes j
  before-is m j e = ap (before_in bytes) e

  due-byte : (i : ℕ) →
      let v = byte_in bytes i in
      let l = before_in bytes i in
      let e = before_in bytes (i + width) in
      let d = byte_in bytes (i + width) in
      let b = due_byte width bytes i in (bit_at b 1 ≡ left_due v l e d) × (bit_at b 2 ≡ below_due v l e d) × (bit_at b 3 ≡ right_due v l e d)
  unfolding due_byte
  due-byte i =
      let q = due-bits (byte_in bytes i) (before_in bytes i) (before_in bytes (i + width)) (byte_in bytes (i + width)) in
      (q.1, q.2, q.3)

  pub due-at : (i : ℕ) → i < length bytes → get_or (dues width bytes) i 0 ≡ due_byte width bytes i
  unfolding dues
  due-at i l = rows_at (length bytes) (due_byte width bytes) i 0 l

  pub run_at : (i : ℕ) → i < length bytes → get_or (runs bytes) i 0 ≡ byte_in bytes i % 2
  unfolding runs
  run_at i l = rows_at (length bytes) (λ i. byte_in bytes i % 2) i 0 l

  pub dues-long : length (dues width bytes) ≡ length bytes
  unfolding dues
  dues-long = length-rows (length bytes) (due_byte width bytes)

  pub runs-long : length (runs bytes) ≡ length bytes
  unfolding runs
  runs-long = length-rows (length bytes) (λ i. byte_in bytes i % 2)

  due-path : (i k : ℕ) → k < 4 → i < length bytes → bit_at (due_byte width bytes i) k ≡ true → Path enough i (i + later width k)
  due-path i k l m h =
      path-edge (step_of i (i + later width k))
      (Memᴰ.append_left (named width (runs bytes)) (names-named width (dues width bytes) (step_of i (i + later width k))
      (record { cell = i; bit = k; below = omega (arith, dues-long); small = l; is_set = ap (λ (x : ℕ). bit_at x k) (due-at i m) ∙ h; edge = refl })))

  run-path : (i : ℕ) → bit_at (byte_in bytes i) 0 ≡ true → Path enough i (i + later width 0)
  run-path i h =
      let m = bit-on bytes i 0 (omega arith) h in
      let is_set = ap (λ (x : ℕ). bit_at x 0) (run_at i m) ∙ (half-bit (byte_in bytes i) ∙ h) in
      path-edge (step_of i (i + later width 0))
      (Memᴰ.append_right (named width (dues width bytes)) (names-named width (runs bytes) (step_of i (i + later width 0))
      (record { cell = i; bit = 0; below = omega (arith, runs-long); small = omega arith; is_set = is_set; edge = refl })))

  next-path : (i : ℕ) → bit_at (byte_in bytes i) 0 ≡ true → Path enough i (i + 1)
  next-path i h = path-between refl (run-path i h) (sym (to-right width i))

  -- the step below: due, or by way of the cell before
  below-path : (i : ℕ) → bit_at (byte_in bytes i) 2 ≡ true → Path enough i (i + later width 2)
  below-path zero h = due-path 0 2 (omega arith) (bit-on bytes 0 2 (omega arith) h) ((due-byte 0).1 ∙ and_both h refl)
  below-path (suc j) h =
      let round = bit_at (byte_in bytes j) 0 && bit_at (byte_in bytes j) 2 in
      by-test (round && bit_at (before_in bytes (suc j + width)) 0) (around (λ k. below-path j k))
      (λ f. due-path (suc j) 2 (omega arith) (bit-on bytes (suc j) 2 (omega arith) h) ((due-byte (suc j)).1 ∙ and_both h (ap not f)))
    where
      around : (bit_at (byte_in bytes j) 2 ≡ true → Path enough j (j + later width 2)) →
          (bit_at (byte_in bytes j) 0 && bit_at (byte_in bytes j) 2) && bit_at (before_in bytes (suc j + width)) 0 ≡ true
          → Path enough (suc j) (suc j + later width 2)
      around down t =
          let q = and_parts (bit_at (byte_in bytes j) 0 && bit_at (byte_in bytes j) 2) _ t in
          let p = and_parts (bit_at (byte_in bytes j) 0) _ q.0 in
          let e : suc j + width ≡ suc (j + later width 2) = omega (arith, to_below width j) in
          let under = next-path (j + later width 2) (ap (λ (x : ℕ). bit_at x 0) (sym (before-is (suc j + width) (j + later width 2) e)) ∙ q.1) in
          let first : suc j ≡ j + 1 = omega arith in
          let last : j + later width 2 + 1 ≡ suc j + later width 2 = omega arith in
          path-between first (path-trans (path-sym (next-path j p.0)) (path-trans (down p.1) under)) last

  module _ (some : 0 < width) where
    -- the one to its left: due, or below the cell before, or before the cell below
    left-path : (i : ℕ) → bit_at (byte_in bytes i) 1 ≡ true → Path enough i (i + later width 1)
    left-path i h =
        by-test (bit_at (before_in bytes i) 0 && bit_at (before_in bytes i) 2) (upper i)
        (λ f. by-test (bit_at (byte_in bytes i) 2 && bit_at (before_in bytes (i + width)) 0) lower
        (λ g. due-path i 1 (omega arith) (bit-on bytes i 1 (omega arith) h) ((due-byte i).0 ∙ and_both (and_both h (ap not f)) (ap not g))))
      where
        upper : (i : ℕ) → bit_at (before_in bytes i) 0 && bit_at (before_in bytes i) 2 ≡ true → Path enough i (i + later width 1)
        upper zero t = clash t refl
        upper (suc j) t =
            let p = and_parts (bit_at (byte_in bytes j) 0) _ t in
            let first : suc j ≡ j + 1 = omega arith in
            let last : j + later width 2 ≡ suc j + later width 1 = omega (arith, to_below width j, to-left width (suc j) some) in
            path-between first (path-trans (path-sym (next-path j p.0)) (below-path j p.1)) last

        lower : bit_at (byte_in bytes i) 2 && bit_at (before_in bytes (i + width)) 0 ≡ true → Path enough i (i + later width 1)
        lower t =
            let p = and_parts (bit_at (byte_in bytes i) 2) _ t in
            let e : i + width ≡ suc (i + later width 1) = omega (arith, to-left width i some) in
            let under = next-path (i + later width 1) (ap (λ (x : ℕ). bit_at x 0) (sym (before-is (i + width) (i + later width 1) e)) ∙ p.1) in
            let last : i + later width 2 ≡ i + later width 1 + 1 = omega (arith, e, to_below width i) in
            path-trans (path-between refl (below-path i p.0) last) (path-sym under)

    -- and the one to its right: due, or after the cell below
    right-path : (i : ℕ) → bit_at (byte_in bytes i) 3 ≡ true → Path enough i (i + later width 3)
    right-path i h =
        by-test (bit_at (byte_in bytes i) 2 && bit_at (byte_in bytes (i + width)) 0) lower
        (λ f. due-path i 3 (omega arith) (bit-on bytes i 3 (omega arith) h) ((due-byte i).2 ∙ and_both h (ap not f)))
      where
        lower : bit_at (byte_in bytes i) 2 && bit_at (byte_in bytes (i + width)) 0 ≡ true → Path enough i (i + later width 3)
        lower t =
            let p = and_parts (bit_at (byte_in bytes i) 2) _ t in
            let last : i + width + 1 ≡ i + later width 3 = to_last width i in
            path-trans (path-between refl (below-path i p.0) (sym (to_below width i))) (path-between refl (next-path (i + width) p.1) last)

    step-path : (i k : ℕ) → k < 4 → bit_at (byte_in bytes i) k ≡ true → Path enough i (i + later width k)
    step-path i zero l h = run-path i h
    step-path i (suc zero) l h = left-path i h
    step-path i (suc (suc zero)) l h = below-path i h
    step-path i (suc (suc (suc zero))) l h = right-path i h
    step-path i (suc (suc (suc (suc k)))) l h = absurd (omega arith)

    edge-path : (e : Edge) → Memᴰ e (named width bytes) → Path enough e.left e.right
    edge-path e m =
        let w = named-names width bytes e m in
        subst (λ (x : Edge). Path enough x.left x.right) w.edge (step-path w.cell w.bit w.small w.is_set)

    -- nothing else
    pub due-leads : (i k : ℕ) → k < 4 → i < length bytes → bit_at (get_or (dues width bytes) i 0) k ≡ true → bit_at (byte_in bytes i) k ≡ true
    unfolding due_byte
    due-leads i k m l h =
        let below = i + width in
        let due = ap (λ (x : ℕ). bit_at x k) (sym (due-at i l)) ∙ h in
        due-open (byte_in bytes i) (before_in bytes i) (before_in bytes below) (byte_in bytes below) k m due

    due-named : (e : Edge) → Memᴰ e (named width (dues width bytes)) → Memᴰ e (named width bytes)
    due-named e m =
        let w = named-names width (dues width bytes) e m in
        let l : w.cell < length bytes = omega (arith, dues-long, w.below) in
        let is_set = due-leads w.cell w.bit w.small l w.is_set in
        names-named width bytes e (record { cell = w.cell; bit = w.bit; below = l; small = w.small; is_set = is_set; edge = w.edge })

    run-named : (e : Edge) → Memᴰ e (named width (runs bytes)) → Memᴰ e (named width bytes)
    run-named e m =
        let w = named-names width (runs bytes) e m in
        let l : w.cell < length bytes = omega (arith, runs-long, w.below) in
        let is_set = half-only (byte_in bytes w.cell) w.bit w.small (ap (λ (x : ℕ). bit_at x w.bit) (sym (run_at w.cell l)) ∙ w.is_set) in
        names-named width bytes e (record { cell = w.cell; bit = w.bit; below = l; small = w.small; is_set = is_set; edge = w.edge })

    pub due-enough : (a b : ℕ) → Path (named width bytes) a b ↔ Path enough a b
    due-enough a b = (
      path-through edge-path,
      path-more (λ e m. ⊎_elim (λ d. due-named e d) (λ r. run-named e r) (Memᴰ.append_cases (named width (dues width bytes)) m)),
    )
