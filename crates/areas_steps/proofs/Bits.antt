-- The bits of a cell's byte: where no step is cut, and with one more span.
use mathlib.Core.Path.{◌≡◌, refl, sym, ◌∙◌, ap}
use mathlib.Core.Bool.{Bool, true, false, not, ◌&&◌, ◌||◌}
use mathlib.Core.List.{List, [], ◌∷◌, ◌++◌}
use Prim.Native.Nat.{ℕ, ◌+◌, ◌*◌, ◌/◌, ◌%◌, ◌≤◌, ◌<◌}
use native.Mathlib.Omega.{arith}
use lib.Dec.{eqb}
use Rattle.std.specs.Int.{from_bool}
use Rattle.order.specs.Lists.{has}
use Rattle.order.proofs.Bools.{is_false, by-test, and_parts}
use Rattle.position.specs.Order.{pos_le}
use Rattle.position.specs.declared.Span.{Span}
use Rattle.graph.specs.Path.{Edge}
use Rattle.grid.specs.Cells.{Grid, Whole}
use Rattle.grid.specs.Steps.{leads_on, neighbour, has_step, step_of}
use Rattle.grid.proofs.Steps.{has-step}
use Rattle.areas.specs.Cuts.{cut_by, is_cut}
use Rattle.areas.specs.Open.{is_open, bit_of, open_byte}
use Rattle.areas.specs.Strip.{InStrip}
use Rattle.areas.proofs.StripCells.{cut-in}
use Rattle.areas.proofs.OpenLabels.{bit-small}

-- a byte of four bits
abbrev pub byte_of : Bool → Bool → Bool → Bool → ℕ
byte_of s t u v = bit_of s + 2 * bit_of t + 4 * bit_of u + 8 * bit_of v

-- and the bits of a byte
pub bits : (b : ℕ) (s t u v : Bool) → b ≡ byte_of s t u v → (b % 2 ≡ bit_of s) × (b / 2 % 2 ≡ bit_of t) × (b / 4 % 2 ≡ bit_of u) × (b / 8 % 2 ≡ bit_of v)
bits b s t u v e = go (bit_of s) (bit_of t) (bit_of u) (bit_of v) (bit-small s) (bit-small t) (bit-small u) (bit-small v) e
  where
    go : (k l m n : ℕ) → k ≤ 1 → l ≤ 1 → m ≤ 1 → n ≤ 1 → b ≡ k + 2 * l + 4 * m + 8 * n → (b % 2 ≡ k) × (b / 2 % 2 ≡ l) × (b / 4 % 2 ≡ m) × (b / 8 % 2 ≡ n)
    go k l m n p q r o f = (omega arith, omega arith, omega arith, omega arith)

pub byte-is : (dirs : List ℕ) (g : Grid) (ss : List Span) (i : ℕ)
    → open_byte dirs g ss i ≡ byte_of (is_open dirs g ss i 0) (is_open dirs g ss i 1) (is_open dirs g ss i 2) (is_open dirs g ss i 3)
unfolding open_byte
byte-is dirs g ss i = refl

pub byte-from : (dirs : List ℕ) (g : Grid) (ss : List Span) (i k l m n : ℕ) → k ≡ bit_of (is_open dirs g ss i 0) → l ≡ bit_of (is_open dirs g ss i 1)
    → m ≡ bit_of (is_open dirs g ss i 2) → n ≡ bit_of (is_open dirs g ss i 3) →
    k + 2 * l + 4 * m + 8 * n ≡ open_byte dirs g ss i
unfolding open_byte
byte-from dirs g ss i k l m n a b c d = omega arith

-- a flag and its bit
pub bit-from : (t : Bool) → from_bool t ≡ bit_of t
bit-from true = refl
bit-from false = refl

bit-set : (b : ℕ) (t : Bool) → b ≡ bit_of t → eqb b 1 ≡ t
bit-set b true e = rw e
bit-set b false e = rw e

-- with no span
and_yes : (s t : Bool) → s && t ≡ s && (t && true)
and_yes true true = refl
and_yes true false = refl
and_yes false t = refl

pub open_none : (dirs : List ℕ) (g : Grid) (i k : ℕ) → has (5 + k) dirs && has_step g i (5 + k) ≡ is_open dirs g [] i k
unfolding is_open is_cut
open_none dirs g i k = and_yes (has (5 + k) dirs) (has_step g i (5 + k))

-- with one more
cut-last : (g : Grid) (ss : List Span) (s : Span) (e : Edge) → is_cut g (ss ++ (s ∷ [])) e ≡ is_cut g ss e || cut_by g s e
unfolding is_cut
cut-last g [] s e = by-test (cut_by g s e) (λ h. rw h) (λ h. rw h)
cut-last g (r ∷ ss) s e = by-test (cut_by g r e) (λ h. rw h) (λ h. rw h (cut-last g ss s e))

regroup : (h t c q : Bool) → h && (t && not (c || q)) ≡ (h && (t && not c)) && not q
regroup true true true q = refl
regroup true true false q = refl
regroup true false c q = refl
regroup false t c q = refl

module _ (dirs : List ℕ) (g : Grid) (ss : List Span) (s : Span) (i k : ℕ) where
  pub open-last : is_open dirs g (ss ++ (s ∷ [])) i k ≡ is_open dirs g ss i k && not (cut_by g s (step_of i (neighbour g i (5 + k))))
  unfolding is_open
  open-last =
      rw (cut-last g ss s (step_of i (neighbour g i (5 + k))))
      (regroup (has (5 + k) dirs) (has_step g i (5 + k)) (is_cut g ss (step_of i (neighbour g i (5 + k)))) (cut_by g s (step_of i (neighbour g i (5 + k)))))

  -- an open step is one
  pub open_step : is_open dirs g ss i k ≡ true → has_step g i (5 + k) ≡ true
  unfolding is_open
  open_step h = (and_parts (has_step g i (5 + k)) (not (is_cut g ss (step_of i (neighbour g i (5 + k)))))
      (and_parts (has (5 + k) dirs) (has_step g i (5 + k) && not (is_cut g ss (step_of i (neighbour g i (5 + k))))) h).1).0

  pub open-leads : is_open dirs g ss i k ≡ true → leads_on g i (5 + k) ≡ true
  open-leads h = (has-step g i (5 + k) (open_step h)).leads

  -- a bit that is kept, or is not
  pub bit-kept : {b v : ℕ} {r : Bool} → b ≡ bit_of (is_open dirs g ss i k)
      → ((eqb b 1 ≡ true → leads_on g i (5 + k) ≡ true) → r ≡ (eqb b 1 && not (cut_by g s (step_of i (neighbour g i (5 + k)))))) → v ≡ from_bool r
      → v ≡ bit_of (is_open dirs g (ss ++ (s ∷ [])) i k)
  bit-kept {b} {v} {r} e h f =
      let q = bit-set b (is_open dirs g ss i k) e in
      let cut = cut_by g s (step_of i (neighbour g i (5 + k))) in
      f ∙ bit-from r ∙ ap bit_of (h (λ z. open-leads (sym q ∙ z)) ∙ ap (λ (t : Bool). t && not cut) q ∙ sym open-last)

  -- a span leaves the cells that are not in its strip as they are
  pub open-off : Whole g → pos_le s.a s.b ≡ true → k < 4 → (InStrip g s i → ⊥) → is_open dirs g (ss ++ (s ∷ [])) i k ≡ is_open dirs g ss i k
  open-off whole o l off =
      open-last ∙ by-test (is_open dirs g ss i k)
      (λ h.
      let n : cut_by g s (step_of i (neighbour g i (5 + k))) ≡ false =
      is_false (cut_by g s (step_of i (neighbour g i (5 + k)))) (λ q. off (cut-in whole s o i k l (open_step h) q)) in
      rw (h, n))
      (λ h. rw h)

pub byte-off : (dirs : List ℕ) (g : Grid) (ss : List Span) (s : Span) (i : ℕ) → Whole g → pos_le s.a s.b ≡ true → (InStrip g s i → ⊥)
    → open_byte dirs g (ss ++ (s ∷ [])) i ≡ open_byte dirs g ss i
unfolding open_byte
byte-off dirs g ss s i whole o off =
    rw (
      open-off dirs g ss s i 0 whole o (omega arith) off,
      open-off dirs g ss s i 1 whole o (omega arith) off,
      open-off dirs g ss s i 2 whole o (omega arith) off,
      open-off dirs g ss s i 3 whole o (omega arith) off,
    )
