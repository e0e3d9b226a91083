-- The pieces that each line and each part of a line is written in.
use mathlib.Core.Path.{◌≡◌, refl, ap, subst}
use mathlib.Core.List.{List, [], ◌∷◌, ◌++◌, append-nil}
use Prim.Native.Nat.{ℕ, suc, ◌+◌, ◌≤◌, ◌<◌, ◌^◌}
use native.Mathlib.Omega.{arith}
use lib.ListN.{length, length-append}
use Rattle.position.specs.declared.Span.{Span}
use Rattle.format.specs.Values.{Ramp}
use Rattle.answer_text.specs.Digits.{digits, hex_digits}
use Rattle.answer_text.specs.Lines.{space, newline, field_text, bits_text, four_fields, ends_text, ramp_text, pair_line, head_text, observation_fields}
use Rattle.answer_text.specs.Lines.{boundary_fields, kept_line, refused_line}
use Rattle.answer_text.specs.Answer.{TextRoom}
use Rattle.answer_text.proofs.Writing.{Left, start}
use Rattle.answer_text.proofs.Spelling.{places-most, length_digits, length-hex_digits}

module _ (out : List ℕ) (at : ℕ) where
  pub field-start : (v : ℕ) → TextRoom (field_text v) out at → Left (field_text v) out at ((space ∷ []) ∷ digits v ∷ []) out at
  unfolding field_text
  field-start v h = start _ (ap (λ (t : List ℕ). space ∷ t) (append-nil (digits v))) h

  pub bits-start : (v : ℕ) → TextRoom (bits_text v) out at → Left (bits_text v) out at ((space ∷ []) ∷ hex_digits v ∷ []) out at
  unfolding bits_text
  bits-start v h = start _ (ap (λ (t : List ℕ). space ∷ t) (append-nil (hex_digits v))) h

  pub four-start : (a b c d : ℕ) → TextRoom (four_fields a b c d) out at
      → Left (four_fields a b c d) out at (field_text a ∷ field_text b ∷ field_text c ∷ field_text d ∷ []) out at
  unfolding four_fields
  four-start a b c d h = start _ (ap (λ (t : List ℕ). field_text a ++ (field_text b ++ (field_text c ++ t))) (append-nil (field_text d))) h

  pub pair-start : (name : List ℕ) (a b : ℕ) → TextRoom (pair_line name a b) out at
      → Left (pair_line name a b) out at (name ∷ field_text a ∷ field_text b ∷ newline ∷ []) out at
  unfolding pair_line
  pair-start name a b h = start _ refl h

  pub head-start : (letter : ℕ) (e : Span) (bits n : ℕ) → TextRoom (head_text letter e bits n) out at
      → Left (head_text letter e bits n) out at ((letter ∷ []) ∷ ends_text e ∷ bits_text bits ∷ field_text n ∷ []) out at
  unfolding head_text
  head-start letter e bits n h = start _ (ap (λ (t : List ℕ). letter ∷ (ends_text e ++ (bits_text bits ++ t))) (append-nil (field_text n))) h

  pub observation-start : (e : Span) (bits n : ℕ) → TextRoom (observation_fields e bits n) out at
      → Left (observation_fields e bits n) out at (head_text 111 e bits n ∷ newline ∷ []) out at
  unfolding observation_fields
  observation-start e bits n h = start _ refl h

  pub boundary_start : (e : Span) (bits n m : ℕ) (r : Ramp) → TextRoom (boundary_fields e bits n m r) out at
      → Left (boundary_fields e bits n m r) out at (head_text 98 e bits n ∷ field_text m ∷ ramp_text r ∷ newline ∷ []) out at
  unfolding boundary_fields
  boundary_start e bits n m r h = start _ refl h

  pub kept-start : (n : ℕ) → TextRoom (kept_line n) out at → Left (kept_line n) out at ((107 ∷ 101 ∷ 112 ∷ 116 ∷ []) ∷ field_text n ∷ newline ∷ []) out at
  unfolding kept_line
  kept-start n h = start _ refl h

-- How long they are at most.
pub length-field : (k v : ℕ) → v < 10 ^ (k + 1) → length (field_text v) ≤ k + 2
unfolding field_text
length-field k v h =
    let e : k + 1 ≡ suc k = omega arith in
    omega (arith, length_digits v, places-most k v (subst (λ (j : ℕ). v < 10 ^ j) e h))

pub word-length : (v : ℕ) → v < 4_294_967_296 → length (field_text v) ≤ 11
word-length v h = length-field 9 v (omega (arith, h))

pub long-length : (v : ℕ) → v < 18_446_744_073_709_551_616 → length (field_text v) ≤ 21
long-length v h = length-field 19 v (omega (arith, h))

pub byte-length : (v : ℕ) → v < 256 → length (field_text v) ≤ 4
byte-length v h = length-field 2 v (omega (arith, h))

pub length-bits : (v : ℕ) → length (bits_text v) ≡ 17
unfolding bits_text
length-bits v = omega (arith, length-hex_digits v)

pub pair-length : (name : List ℕ) (a b : ℕ) → length (pair_line name a b) ≡ length name + length (field_text a) + length (field_text b) + 1
unfolding pair_line
pair-length name a b =
    omega (
      arith,
      length-append name (field_text a ++ (field_text b ++ newline)),
      length-append (field_text a) (field_text b ++ newline),
      length-append (field_text b) newline,
    )

pub refused-length : (n d : ℕ) → n < 4_294_967_296 → d < 18_446_744_073_709_551_616 → length (refused_line n d) ≤ 40
refused-length n d h k = omega (arith, word-length n h, long-length d k, pair-length (114 ∷ 101 ∷ 102 ∷ 117 ∷ 115 ∷ 101 ∷ 100 ∷ []) n d)

pub refused-room : (n d : ℕ) (out : List ℕ) → n < 4_294_967_296 → d < 18_446_744_073_709_551_616 → 40 ≤ length out → TextRoom (refused_line n d) out 0
refused-room n d out h k l = omega (arith, refused-length n d h k)
