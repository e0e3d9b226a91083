-- What is written is what is printed.
use mathlib.Core.Path.{◌≡◌, sym, ◌∙◌, ap, subst}
use mathlib.Core.Bool.{Bool, cond}
use mathlib.Core.List.{List, [], flat_map}
use Prim.Native.Nat.{ℕ, zero, suc, ◌*◌, ◌/◌, ◌≤◌}
use native.Mathlib.Omega.{arith}
use borrow.Author.Tests.{eq-eqb, ne_eqb}
use lib.ListN.{length, take}
use Rattle.wire.specs.Bytes.{part, number, bytes, number_at}
use Rattle.format.specs.Values.{Boundary}
use Rattle.format.specs.Decode.{decode_answer}
use Rattle.format.specs.Encode.{observations_of, sources_of, answer_words, encode_answer}
use Rattle.format.proofs.AnswerTrip.{length-encode_answer}
use Rattle.answer_text.specs.Lines.{answer_lines, refused_line}
use Rattle.answer_text.specs.Answer.{Writes, answer_length, answer_text}
use Rattle.answer_text.proofs.Sizing.{is_whole}
use Rattle.results.specs.Results.{Outcome, left_by}
use Rattle.results.specs.Calls.{reduce_result}
use Rattle.printing.specs.Printed.{printed}
use Rattle.chokes.proofs.DemandOne.{demand-one}
use Rattle.chokes.proofs.DemandTwo.{demand-two}

-- The bytes of a number stand for at most that number.
number-most : (n v : ℕ) → number (bytes n v) ≤ v
unfolding number bytes
number-most zero v = omega arith
number-most (suc n) v = omega (arith, number-most n (v / 256))

-- So an answer's counts give it no more than its length.
counts-most : (bs : List Boundary) → answer_length (encode_answer bs) ≤ length (encode_answer bs)
unfolding encode_answer answer_words flat_map number_at part bytes
counts-most bs = omega (
  arith,
  number-most 4 (length bs),
  number-most 4 (length (observations_of bs)),
  number-most 4 (length (sources_of bs)),
  length-encode_answer bs,
)

-- An answer is listed whole, where there is room.
listed : (bs : List Boundary) (out : List ℕ) → length (encode_answer bs) * 3 ≤ length out
    → answer_text (encode_answer bs) (length out) ≡ answer_lines (decode_answer (encode_answer bs))
unfolding answer_text
listed bs out h = ap (λ (b : Bool). cond b (answer_lines (decode_answer (encode_answer bs))) [])
    (is_whole (encode_answer bs) out (counts-most bs) (omega (arith, counts-most bs, h)))

-- The result that Reduce gave.
module _ (job block work answer : List ℕ) {number detail : ℕ} {work' answer' : List ℕ}
    (e : left_by number detail work' answer' ≡ reduce_result job block work answer) where
  pub refused-text : (number ≡ 0 → ⊥) → refused_line number detail ≡ printed (reduce_result job block work answer)
  unfolding printed
  refused-text h =
      ap (λ (b : Bool). cond b (answer_lines (decode_answer (take detail answer'))) (refused_line number detail)) (sym (ne_eqb number 0 h))
      ∙ ap printed e

  -- Work and answer, as Reduce left them.
  pub left_by_lem : (work' ≡ (reduce_result job block work answer).work) × (answer' ≡ (reduce_result job block work answer).out)
  left_by_lem = (ap (λ (o : Outcome). o.work) e, ap (λ (o : Outcome). o.out) e)

  -- Where the number is 0, demands 1 and 2 say what was written: an answer, whose length is the detail, and which the slice has room for.
  module _ (h : number ≡ 0) where
    zero-given : (reduce_result job block work answer).number ≡ 0
    zero-given = ap (λ (o : Outcome). o.number) (sym e) ∙ h

    kept : List Boundary
    kept = (demand-two.reduce job block work answer zero-given).kept

    first-bytes : take detail answer' ≡ encode_answer kept
    unfolding kept
    first-bytes = ap (λ (o : Outcome). take o.detail o.out) e ∙ (demand-two.reduce job block work answer zero-given).bytes

    detail-is : detail ≡ length (encode_answer kept)
    unfolding kept
    detail-is = ap (λ (o : Outcome). o.detail) e ∙ (demand-two.reduce job block work answer zero-given).detail

    pub detail-fits : detail ≤ length answer
    detail-fits =
        let d = ap (λ (o : Outcome). o.detail) e in
        let s = (demand-one.reduce job block work answer).success zero-given in
        omega (arith, d, s.0, s.1)

    pub listed-text : (out : List ℕ) → 3 * length answer ≤ length out
        → answer_text (take detail answer') (length out) ≡ printed (reduce_result job block work answer)
    unfolding printed
    listed-text out room =
        ap (λ (l : List ℕ). answer_text l (length out)) first-bytes
        ∙ listed kept out (omega (arith, detail-is, detail-fits, room))
        ∙ ap (λ (l : List ℕ). answer_lines (decode_answer l)) (sym first-bytes)
        ∙ ap (λ (b : Bool). cond b (answer_lines (decode_answer (take detail answer'))) (refused_line number detail)) (sym (eq-eqb number 0 h))
        ∙ ap printed e

-- A text that was written, under another name.
pub same_text : {text other out : List ℕ} {at : ℕ} {after : List ℕ} {r : ℕ} → text ≡ other → Writes text out at after r → Writes other out at after r
same_text {text} {other} {out} {at} {after} {r} e w = subst (λ (t : List ℕ). Writes t out at after r) e w
