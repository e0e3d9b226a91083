-- Lengths and bytes of a whole answer.
use mathlib.Core.Path.{◌≡◌, sym, ◌∙◌, ap}
use mathlib.Core.List.{List, ◌++◌, flat_map, append_assoc}
use Prim.Native.Nat.{ℕ, ◌+◌, ◌*◌, ◌≤◌, ◌<◌}
use native.Mathlib.Omega.{arith}
use lib.ListN.{length, get_or, length-append}
use Rattle.wire.specs.Bytes.{splice, u32_bytes}
use Rattle.lists.proofs.Flat.{length-pieces}
use Rattle.format.specs.Values.{Boundary}
use Rattle.format.specs.Records.{source_bytes}
use Rattle.format.specs.Encode.{answer_words, encode_answer, observations_of, sources_of}
use Rattle.format.proofs.RecordTrips.{source-trip}
use Rattle.format.proofs.AnswerTrip.{length-encode_answer, header-length}
use Rattle.answer_sources.specs.Laying.{sum_below, elements}
use Rattle.answer_sources.specs.Placed.{boundary_rows}
use Rattle.answer_sources.specs.Gathered.{Gathered}
use Rattle.answer_encoding.specs.Pieces.{pieces, kept_piece, place_piece, group_piece, cited_total, written_bytes}
use Rattle.answer_encoding.specs.Answered.{Answered, Writable}
use Rattle.answer_encoding.proofs.Loops.{kept-long, places-long}
use Rattle.answer_encoding.proofs.GatheredBytes.{seen-sum, own-sum, sources-sum, source-bytes, answer-bytes}
use Rattle.format.proofs.Writes.{then-write}

module _ {s : List ℕ} {at from count : ℕ} {kept owns seens owned seen first second third starts counts keys : List ℕ}
    (w : Writable s at from count kept owns seens owned seen first second third starts counts keys) where
  pub count-few : count ≤ 256
  count-few = omega (arith, w.gathered.few, w.many, w.limit)

  pub seen_few : sum_below (elements seens) count ≤ 1280
  seen_few = omega (arith, ap (sum_below (elements seens)) w.many, seen-sum w.gathered, w.gathered.seen-room)

  pub own-few : sum_below (elements owns) count ≤ 4096
  own-few = omega (arith, ap (sum_below (elements owns)) w.many, own-sum w.gathered, w.gathered.own_room)

  pub record-in : (k : ℕ) → k < count → at + (get_or kept k 0 + 1) * 40 ≤ length s
  record-in k h = omega (arith, w.gathered.place_in k (omega (arith, w.many)), w.inside)

  pub own-inside : (q : ℕ) → q < sum_below (elements owns) count → from + (get_or owned q 0 + 1) * 8 ≤ length s
  own-inside q h = w.gathered.own-inside q (omega (arith, ap (sum_below (elements owns)) w.many, own-sum w.gathered))

  abbrev all : List ℕ
  all = written_bytes s at from count kept owns seens owned seen first second third starts counts keys

  module _ {o own c : ℕ} (eo : o ≡ sum_below (elements seens) count) (ew : own ≡ sum_below (elements owns) count)
      (ec : c ≡ cited_total seen starts counts keys o) where
    observation-count : o ≡ length (observations_of w.ks)
    observation-count = eo ∙ ap (sum_below (elements seens)) (sym w.many) ∙ seen-sum w.gathered

    source-total : own + c ≡ length (sources_of w.ks)
    source-total =
        let a = ap (sum_below (elements owns)) w.many in
        let b = ap (cited_total seen starts counts keys) observation-count in
        omega (arith, sources-sum w.gathered)

    pub answer-long : length all ≡ 24 + count * 40 + o * 28 + (own + c) * 8
    answer-long = ap length (answer-bytes w.gathered count w.many) ∙ omega (arith, length-encode_answer w.ks, source-total, observation-count, w.many)

    pub sources-long : length (pieces count (group_piece s from owns seens owned seen starts counts keys)) ≡ (own + c) * 8
    sources-long =
        let a : pieces count (group_piece s from owns seens owned seen starts counts keys) ≡ flat_map source_bytes (sources_of w.ks)
        = ap (λ (n : ℕ). pieces n (group_piece s from owns seens owned seen starts counts keys)) (sym w.many) ∙ source-bytes w.gathered in
        ap length a ∙ length-pieces 8 source_bytes source-trip.size (sources_of w.ks) ∙ ap (λ (n : ℕ). n * 8) (sym source-total)

    words_same : own + c ≡ sum_below (elements owns) count + cited_total seen starts counts keys (sum_below (elements seens) count)
    words_same = let b = ap (cited_total seen starts counts keys) eo in omega arith

    pub all-written : (t0 : List ℕ) {t1 t2 t3 t4 : List ℕ} → 24 + count * 40 + o * 28 + (own + c) * 8 ≤ length t0
        → t1 ≡ splice t0 0 (flat_map u32_bytes (answer_words count o (own + c)))
        → t2 ≡ splice t1 24 (pieces count (kept_piece (boundary_rows s at) kept owns seens))
        → t3 ≡ splice t2 (24 + count * 40) (pieces o (λ q. place_piece first second third starts counts keys (get_or seen q 0)))
        → t4 ≡ splice t3 (24 + count * 40 + o * 28) (pieces count (group_piece s from owns seens owned seen starts counts keys)) → t4 ≡ splice t0 0 all
    unfolding written_bytes
    all-written t0 h p q r u =
        let b1 = flat_map u32_bytes (answer_words count o (own + c)) in
        let b2 = pieces count (kept_piece (boundary_rows s at) kept owns seens) in
        let b3 = pieces o (λ k. place_piece first second third starts counts keys (get_or seen k 0)) in
        let b4 = pieces count (group_piece s from owns seens owned seen starts counts keys) in
        let n1 : length b1 ≡ 24 = header-length count o (own + c) in
        let n2 : length b2 ≡ count * 40 = kept-long (boundary_rows s at) kept owns seens count in
        let n3 : length b3 ≡ o * 28 = places-long first second third starts counts keys seen o in
        let m2 = length-append b1 b2 in
        let m3 = length-append (b1 ++ b2) b3 in
        let x2 = then-write t0 0 b1 b2 (omega arith) (omega arith) p q in
        let x3 = then-write t0 0 (b1 ++ b2) b3 (omega arith) (omega arith) x2 r in
        let x4 = then-write t0 0 ((b1 ++ b2) ++ b3) b4 (omega arith) (omega arith) x3 u in
        let y : ((b1 ++ b2) ++ b3) ++ b4 ≡ b1 ++ (b2 ++ (b3 ++ b4)) = simp append_assoc in
        x4
        ∙ ap (splice t0 0) y
        ∙ ap (splice t0 0) (λ i. flat_map u32_bytes (answer_words count (eo i) (words_same i))
        ++ (b2 ++ (pieces (eo i) (λ k. place_piece first second third starts counts keys (get_or seen k 0)) ++ b4)))

    -- The answer of any boundaries that were gathered so.
    module _ {total : ℕ} (t : total ≡ 24 + count * 40 + o * 28 + (own + c) * 8) {n : ℕ} {ks : List Boundary} (e : length ks ≡ count)
        (g : Gathered s at from n ks kept owns seens owned seen first second third starts counts keys) where
      same : all ≡ encode_answer ks
      same = answer-bytes g count e

      pub short-answer : {before after : List ℕ} → length before < total → after ≡ before → Answered (encode_answer ks) before after total
      short-answer h f = record {
        long = omega (arith, answer-long, ap length same);
        written = λ l. absurd (omega (arith, answer-long, ap length same));
        unwritten = λ l. f;
      }

      pub full-answer : {before after : List ℕ} → total ≤ length before → after ≡ splice before 0 all → Answered (encode_answer ks) before after total
      full-answer {before} h f = record {
        long = omega (arith, answer-long, ap length same);
        written = λ l. f ∙ ap (splice before 0) same;
        unwritten = λ l. absurd (omega (arith, answer-long, ap length same));
      }
