-- Answers: bytes from boundaries and back.
use mathlib.Core.Path.{◌≡◌, refl, ◌∙◌, ap}
use mathlib.Core.List.{List, [], ◌∷◌, flat_map}
use Prim.Native.Nat.{ℕ, ◌+◌, ◌*◌}
use native.Mathlib.Omega.{arith}
use lib.ListN.{length, get_or, length-append}
use Rattle.lists.specs.Rows.{rows, All, none, more}
use Rattle.lists.proofs.Flat.{length-pieces}
use Rattle.wire.specs.Bytes.{u32_at, u32_bytes}
use Rattle.wire.proofs.Numbers.{length-bytes}
use Rattle.format.specs.Sizes.{answer_header_size, boundary_size, observation_size, source_size}
use Rattle.format.specs.Values.{Boundary}
use Rattle.format.specs.Encode.{observations_of, sources_of, encode_boundaries, answer_words, encode_answer}
use Rattle.format.specs.Decode.{decode_boundaries, decode_answer}
use Rattle.format.specs.Fits.{IsWord, AnswerFits}
use Rattle.format.proofs.Sections.{part-here, drop_here, part-last}
use Rattle.format.proofs.Trip.{number-trip}
use Rattle.format.proofs.RowTrips.{rows-read}
use Rattle.format.proofs.BoundaryTrips.{length-encode_boundaries, boundaries-read}

pub header-length : (b o n : ℕ) → length (flat_map u32_bytes (answer_words b o n)) ≡ answer_header_size
unfolding answer_words
header-length b o n = length-pieces 4 u32_bytes (length-bytes 4) (answer_words b o n)

-- An answer is as long as its header and its records.
pub length-encode_answer : (bs : List Boundary) → length (encode_answer bs)
    ≡ answer_header_size + length bs * boundary_size + length (observations_of bs) * observation_size + length (sources_of bs) * source_size
unfolding encode_answer
length-encode_answer bs = simp (length-append, header-length, length-encode_boundaries) (omega arith)

six-fit : {a b c d e f : ℕ} → IsWord a → IsWord b → IsWord c → IsWord d → IsWord e → IsWord f → All IsWord (a ∷ b ∷ c ∷ d ∷ e ∷ f ∷ [])
six-fit a b c d e f = more a (more b (more c (more d (more e (more f none)))))

module _ (bs : List Boundary) (f : AnswerFits bs) where
  words-fit : All IsWord (answer_words (length bs) (length (observations_of bs)) (length (sources_of bs)))
  unfolding answer_words
  words-fit = six-fit (omega arith) (omega arith) (omega arith) (omega arith) (omega arith) (omega arith)

  -- The six words of an answer are read back.
  pub answer-words : rows 6 (λ k. u32_at (encode_answer bs) (k * 4)) ≡ answer_words (length bs) (length (observations_of bs)) (length (sources_of bs))
  unfolding encode_answer answer_words rows
  answer-words =
      let ws = answer_words (length bs) (length (observations_of bs)) (length (sources_of bs)) in
      rows-read (number-trip 4) words-fit 6 refl (encode_answer bs) 0
      (part-here (encode_answer bs) 0 24 (flat_map u32_bytes ws) _ (header-length (length bs) (length (observations_of bs)) (length (sources_of bs))) refl)

  -- An answer's last word is its length.
  pub answer-total : u32_at (encode_answer bs) 20 ≡ length (encode_answer bs)
  unfolding rows answer_words
  answer-total = ap (λ (l : List ℕ). get_or l 5 0) answer-words ∙ omega (arith, length-encode_answer bs)

  -- An answer that was written is read back.
  pub decode_answer-encode_answer : decode_answer (encode_answer bs) ≡ bs
  unfolding decode_answer rows answer_words encode_answer
  decode_answer-encode_answer =
      let s = encode_answer bs in
      let ws = answer_words (length bs) (length (observations_of bs)) (length (sources_of bs)) in
      let word : (k : ℕ) → get_or (rows 6 (λ k. u32_at s (k * 4))) k 0 ≡ get_or ws k 0 = λ k. ap (λ (l : List ℕ). get_or l k 0) answer-words in
      let e : decode_answer s ≡ decode_boundaries s answer_header_size (length bs) (length (observations_of bs)) (length (sources_of bs))
      = λ k. decode_boundaries s answer_header_size (word 0 k) (word 1 k) (word 2 k) in
      e
      ∙ boundaries-read s answer_header_size bs f.boundaries (omega arith) (omega arith)
      (part-last s answer_header_size _ (encode_boundaries bs) (length-encode_boundaries bs)
      (drop_here s 0 24 (flat_map u32_bytes ws) (encode_boundaries bs) (header-length (length bs) (length (observations_of bs)) (length (sources_of bs)))
      refl))
