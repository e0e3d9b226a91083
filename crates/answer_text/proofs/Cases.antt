-- The corridor's answer_text; and the answer_text of an answer that was encoded.
use mathlib.Core.Path.{◌≡◌, refl, ◌∙◌, ap}
use mathlib.Core.Bool.{Bool, cond}
use mathlib.Core.List.{List, [], flat_map}
use Prim.Native.Nat.{ℕ, ◌*◌, ◌≤◌}
use native.Mathlib.Omega.{arith}
use lib.ListN.{length, get_or}
use Rattle.lists.specs.Rows.{rows, sum}
use Rattle.wire.specs.Bytes.{words, part, number, bytes, number_at, u32_at}
use Rattle.format.specs.Values.{Boundary}
use Rattle.format.specs.Encode.{observations_of, sources_of, answer_words, encode_answer}
use Rattle.format.specs.Fits.{AnswerFits}
use Rattle.format.specs.Records.{position_at, span_at, source_at, ramp_at, boundary_at, observation_at}
use Rattle.format.specs.Decode.{boundary_records, observation_records, source_records, observations_with, boundary_with, boundaries_with, source_count}
use Rattle.format.specs.Decode.{decode_boundaries, decode_answer, ramp_of}
use Rattle.format.specs.Corridor.{upright, corridor_observation, corridor_answer}
use Rattle.format.proofs.AnswerTrip.{length-encode_answer, answer-words, decode_answer-encode_answer}
use Rattle.answer_text.specs.Digits.{glyph, last_digits, digit_count_from, digit_count, digits, hex_digits}
use Rattle.answer_text.specs.Lines.{field_text, bits_text, four_fields, pair_line, source_lines, head_text, observation_fields, observation_line}
use Rattle.answer_text.specs.Lines.{observation_text}
use Rattle.answer_text.specs.Lines.{observation_texts, boundary_fields, boundary_line, boundary_text, boundary_texts, kept_line, answer_lines}
use Rattle.answer_text.specs.Answer.{answer_length, answer_whole, answer_text}
use Rattle.answer_text.specs.Corridor.{corridor_text}
use Rattle.answer_text.proofs.Sizing.{is_whole}

-- "Here it prints": the corridor's answer, in a slice of three times its length.
pub corridor-listing : answer_text corridor_answer 456 ≡ corridor_text
unfolding answer_text answer_whole corridor_answer upright corridor_observation corridor_text words decode_answer decode_boundaries boundaries_with
    boundary_with
    observations_with source_count boundary_records observation_records source_records ramp_of position_at span_at source_at ramp_at boundary_at
    observation_at number_at
    part number bytes rows sum flat_map glyph last_digits digit_count_from digit_count digits hex_digits field_text bits_text four_fields pair_line
    source_lines head_text
    observation_fields observation_line observation_text observation_texts boundary_fields boundary_line boundary_text boundary_texts kept_line answer_lines
corridor-listing = refl

module _ (bs : List Boundary) (f : AnswerFits bs) where
  word : (k : ℕ) → get_or (rows 6 (λ i. u32_at (encode_answer bs) (i * 4))) k 0 ≡ get_or
      (answer_words (length bs) (length (observations_of bs)) (length (sources_of bs))) k 0
  word k = ap (λ (l : List ℕ). get_or l k 0) (answer-words bs f)

  same_length : answer_length (encode_answer bs) ≡ length (encode_answer bs)
  unfolding rows answer_words
  same_length = omega (arith, word 0, word 1, word 2, length-encode_answer bs)

  -- An answer that was encoded is listed as its boundaries, where there is room.
  pub listing-encoded : (out : List ℕ) → length (encode_answer bs) * 3 ≤ length out → answer_text (encode_answer bs) (length out) ≡ answer_lines bs
  unfolding answer_text
  listing-encoded out h =
      ap (λ (b : Bool). cond b (answer_lines (decode_answer (encode_answer bs))) [])
      (is_whole (encode_answer bs) out (omega (arith, same_length)) (omega (arith, same_length, h)))
      ∙ ap answer_lines (decode_answer-encode_answer bs f)
