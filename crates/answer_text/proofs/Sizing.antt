-- A answer_text is at most three times as long as its answer; and the answers that are listed.
use mathlib.Core.Path.{◌≡◌, refl, sym, ◌∙◌, ap, subst}
use mathlib.Core.Bool.{Bool, true, false, cond, ◌&&◌}
use mathlib.Core.List.{List, [], ◌∷◌, ◌++◌, flat_map, append-nil}
use Prim.Native.Nat.{ℕ, ◌+◌, ◌*◌, ◌≤◌, ◌<◌}
use native.Mathlib.Omega.{arith}
use borrow.Author.Tests.{le-leb, lt-leb}
use lib.Dec.{leb}
use lib.ListN.{length, take, drop, length-append, length-take, length-drop}
use lib.Seq.{drop-drop}
use Rattle.lists.specs.Rows.{sum, All, more}
use Rattle.lists.proofs.Rows.{length-rows}
use Rattle.position.specs.declared.Span.{Span}
use Rattle.wire.specs.Bytes.{AreBytes, u32_at}
use Rattle.wire.proofs.Parts.{splice-none}
use Rattle.format.specs.Values.{Ramp, Boundary}
use Rattle.format.specs.Fits.{SourceFits, SpanEncodable, RampFits, ObservationFits, BoundaryFits}
use Rattle.format.specs.Records.{boundary_at, observation_at, source_at}
use Rattle.format.specs.Decode.{boundary_records, observation_records, source_records, observations_with, boundary_with, boundaries_with, source_count}
use Rattle.format.specs.Decode.{decode_boundaries, decode_answer}
use Rattle.format.specs.declared.records.BoundaryRecord.{BoundaryRecord}
use Rattle.format.specs.declared.records.ObservationRecord.{ObservationRecord}
use Rattle.format.specs.declared.records.Source.{Source}
use Rattle.format.proofs.Distribution.{length-observations_with, length-boundaries_with}
use Rattle.format.proofs.BoundaryTrips.{decoded-within}
use Rattle.answer_text.specs.Lines.{newline, field_text, bits_text, four_fields, ends_text, ramp_text, source_line, source_lines, head_text}
use Rattle.answer_text.specs.Lines.{observation_fields, observation_line, observation_text, observation_texts, boundary_fields, boundary_line, boundary_text}
use Rattle.answer_text.specs.Lines.{boundary_texts, kept_line, answer_lines}
use Rattle.answer_text.specs.Answer.{Writes, answer_length, answer_whole, answer_text}
use Rattle.answer_text.proofs.Writing.{Left, start}
use Rattle.answer_text.proofs.Pieces.{word-length, byte-length, length-bits, pair-length}

four-most : (a b c d : ℕ)
    → length (four_fields a b c d) ≡ length (field_text a) + length (field_text b) + length (field_text c) + length (field_text d)
unfolding four_fields
four-most a b c d =
    omega (
      arith,
      length-append (field_text a) (field_text b ++ (field_text c ++ field_text d)),
      length-append (field_text b) (field_text c ++ field_text d),
      length-append (field_text c) (field_text d),
    )

ends-most : (e : Span) → SpanEncodable e → length (ends_text e) ≤ 44
ends-most e f =
    omega (
      arith,
      four-most e.a.x e.a.y e.b.x e.b.y,
      word-length e.a.x f.a.x,
      word-length e.a.y f.a.y,
      word-length e.b.x f.b.x,
      word-length e.b.y f.b.y,
    )

ramp-most : (r : Ramp) → RampFits r → length (ramp_text r) ≤ 23
ramp-most r f =
    omega (
      arith,
      four-most r.end r.lower r.upper r.id,
      byte-length r.end f.end,
      byte-length r.lower f.lower,
      byte-length r.upper f.upper,
      word-length r.id f.id,
    )

source-most : (s : Source) → SourceFits s → length (source_line s) ≤ 24
source-most s f = omega (arith, pair-length (115 ∷ []) s.from s.to, word-length s.from f.from, word-length s.to f.to)

sources-most : (ss : List Source) → All SourceFits ss → length (source_lines ss) ≤ length ss * 24
unfolding source_lines flat_map
sources-most [] h = omega arith
sources-most (s ∷ ss) (more p h) = omega (arith, length-append (source_line s) (source_lines ss), source-most s p, sources-most ss h)

head-most : (letter : ℕ) (e : Span) (bits n : ℕ) → SpanEncodable e → n < 4_294_967_296 → length (head_text letter e bits n) ≤ 73
unfolding head_text
head-most letter e bits n f h =
    omega (
      arith,
      length-append (ends_text e) (bits_text bits ++ field_text n),
      length-append (bits_text bits) (field_text n),
      ends-most e f,
      length-bits bits,
      word-length n h,
    )

observation-most : (e : Span) (bits n : ℕ) → SpanEncodable e → n < 4_294_967_296 → length (observation_fields e bits n) ≤ 74
unfolding observation_fields
observation-most e bits n f h = omega (arith, length-append (head_text 111 e bits n) newline, head-most 111 e bits n f h)

boundary-most : (e : Span) (bits n m : ℕ) (r : Ramp) → SpanEncodable e → n < 4_294_967_296 → m < 4_294_967_296 → RampFits r
    → length (boundary_fields e bits n m r) ≤ 108
unfolding boundary_fields
boundary-most e bits n m r f h k g =
    omega (
      arith,
      length-append (head_text 98 e bits n) (field_text m ++ (ramp_text r ++ newline)),
      length-append (field_text m) (ramp_text r ++ newline),
      length-append (ramp_text r) newline,
      head-most 98 e bits n f h,
      word-length m k,
      ramp-most r g,
    )

kept-most : (n : ℕ) → n < 4_294_967_296 → length (kept_line n) ≤ 16
unfolding kept_line
kept-most n h = omega (arith, length-append (field_text n) newline, word-length n h)

parts : {A : Type 0} (k : ℕ) (l : List A) → length (take k l) + length (drop k l) ≡ length l
parts k l = omega (arith, length-take k l, length-drop k l)

observations-most : (os : List ObservationRecord) (ss : List Source) → All ObservationFits (observations_with os ss) → length ss < 4_294_967_296
    → length (observation_texts (observations_with os ss)) + length (drop (source_count os) ss) * 24 ≤ length os * 84 + length ss * 24
unfolding observation_texts observations_with observation_text observation_line source_count sum flat_map
observations-most [] ss h k = omega arith
observations-most (o ∷ os) ss (more p h) k =
    let t = take o.sources ss in
    let d = drop o.sources ss in
    omega (
      arith,
      parts o.sources ss,
      length-append (observation_fields o.ends o.bits (length t) ++ source_lines t) (observation_texts (observations_with os d)),
      length-append (observation_fields o.ends o.bits (length t)) (source_lines t),
      observation-most o.ends o.bits (length t) p.ends (omega (arith, parts o.sources ss)),
      sources-most t p.sources,
      ap length (drop-drop (source_count os) o.sources ss),
      observations-most os d h (omega (arith, parts o.sources ss)),
    )

boundaries-most : (bs : List BoundaryRecord) (os : List ObservationRecord) (ss : List Source) → All BoundaryFits (boundaries_with bs os ss)
    → length os < 4_294_967_296 → length ss < 4_294_967_296
    → length (boundary_texts (boundaries_with bs os ss)) ≤ length bs * 120 + length os * 84 + length ss * 24
unfolding boundary_texts boundaries_with boundary_with boundary_text boundary_line flat_map
boundaries-most [] os ss h i j = omega arith
boundaries-most (r ∷ rs) os ss (more p h) i j =
    let t = take r.sources ss in
    let d = drop r.sources ss in
    let seen = take r.observations os in
    let line = boundary_line (boundary_with r seen ss) in
    let lines = observation_texts (observations_with seen d) in
    let others = drop (r.sources + source_count seen) ss in
    omega (
      arith,
      parts r.sources ss,
      parts r.observations os,
      length-append (line ++ (source_lines t ++ lines)) (boundary_texts (boundaries_with rs (drop r.observations os) others)),
      length-append line (source_lines t ++ lines),
      length-append (source_lines t) lines,
      boundary-most r.ends r.bits (length t) (length (observations_with seen d)) (boundary_with r seen ss).ramp p.ends
          (omega (arith, parts r.sources ss)) (omega (arith, length-observations_with seen d, parts r.observations os)) p.ramp,
      sources-most t p.sources,
      observations-most seen d p.observations (omega (arith, parts r.sources ss)),
      ap length (drop-drop (source_count seen) r.sources ss),
      boundaries-most rs (drop r.observations os) others h (omega (arith, parts r.observations os))
          (omega (arith, parts (r.sources + source_count seen) ss)),
    )

and-false : (b : Bool) → b && false ≡ false
and-false true = refl
and-false false = refl

unlisted : (s out : List ℕ) → answer_whole s (length out) ≡ false → Writes (answer_text s (length out)) out 0 out 0
unfolding answer_text
unlisted s out e =
    subst (λ (b : Bool). Writes (cond b (answer_lines (decode_answer s)) []) out 0 out 0) (sym e) (record { is = sym (splice-none out 0); end = refl })

module _ (s out : List ℕ) where
  pub no_header : length s < 24 → Writes (answer_text s (length out)) out 0 out 0
  unfolding answer_whole
  no_header h = unlisted s out (ap (λ (b : Bool). b && (leb (answer_length s) (length s) && leb (answer_length s * 3) (length out))) (lt-leb 24 (length s) h))

  pub no-records : length s < answer_length s → Writes (answer_text s (length out)) out 0 out 0
  unfolding answer_whole
  no-records h = unlisted s out
      (ap (λ (b : Bool). leb 24 (length s) && (b && leb (answer_length s * 3) (length out))) (lt-leb (answer_length s) (length s) h)
      ∙ and-false (leb 24 (length s)))

  pub no_room : length out < answer_length s * 3 → Writes (answer_text s (length out)) out 0 out 0
  unfolding answer_whole
  no_room h =
      unlisted s out (ap (λ (b : Bool). leb 24 (length s) && (leb (answer_length s) (length s) && b)) (lt-leb (answer_length s * 3) (length out) h)
      ∙ ap (λ (b : Bool). leb 24 (length s) && b) (and-false (leb (answer_length s) (length s)))
      ∙ and-false (leb 24 (length s)))

  pub is_whole : answer_length s ≤ length s → answer_length s * 3 ≤ length out → answer_whole s (length out) ≡ true
  unfolding answer_whole
  is_whole h k =
      ap (λ (b : Bool). b && (leb (answer_length s) (length s) && leb (answer_length s * 3) (length out))) (le-leb 24 (length s) (omega arith))
      ∙ ap (λ (b : Bool). b && leb (answer_length s * 3) (length out)) (le-leb (answer_length s) (length s) h)
      ∙ le-leb (answer_length s * 3) (length out) k

  -- The three counts as they were read.
  module _ (a : AreBytes s) (b o n : ℕ) (e : b ≡ u32_at s 0) (f : o ≡ u32_at s 4) (g : n ≡ u32_at s 8)
      (bw : b < 4_294_967_296) (ow : o < 4_294_967_296) (nw : n < 4_294_967_296) (h : 24 + b * 40 + o * 28 + n * 8 ≤ length s)
      (k : (24 + b * 40 + o * 28 + n * 8) * 3 ≤ length out) where
    abbrev pub records : List Boundary
    records = decode_boundaries s 24 b o n

    decoded : decode_answer s ≡ records
    unfolding decode_answer
    decoded = ap (λ (i : ℕ). decode_boundaries s 24 i (u32_at s 4) (u32_at s 8)) (sym e) ∙ ap (λ (i : ℕ). decode_boundaries s 24 b i (u32_at s 8)) (sym f)
        ∙ ap (λ (i : ℕ). decode_boundaries s 24 b o i) (sym g)

    is-listing : answer_text s (length out) ≡ answer_lines records
    unfolding answer_text
    is-listing = ap (λ (c : Bool). cond c (answer_lines (decode_answer s)) []) (is_whole (omega (arith, h, e, f, g)) (omega (arith, k, e, f, g)))
        ∙ ap answer_lines decoded

    count : length records ≡ b
    unfolding decode_boundaries boundary_records
    count = length-boundaries_with (boundary_records s 24 b) (observation_records s (24 + b * 40) o) (source_records s (24 + b * 40 + o * 28) n)
        ∙ length-rows b (λ i. boundary_at s (24 + i * 40))

    most : length (boundary_texts records) ≤ b * 120 + o * 84 + n * 24
    unfolding decode_boundaries boundary_records observation_records source_records
    most =
        let lb = length-rows b (λ i. boundary_at s (24 + i * 40)) in
        let lo = length-rows o (λ i. observation_at s (24 + b * 40 + i * 28)) in
        let ln = length-rows n (λ i. source_at s (24 + b * 40 + o * 28 + i * 8)) in
        omega (
          arith,
          lb,
          lo,
          ln,
          boundaries-most (boundary_records s 24 b) (observation_records s (24 + b * 40) o) (source_records s (24 + b * 40 + o * 28) n)
              (decoded-within s 24 b o n a (omega arith)) (omega (arith, lo)) (omega (arith, ln)),
        )

    pub listing_start : (v : ℕ) → v ≡ b
        → Left (answer_text s (length out)) out 0
        (kept_line v ∷ boundary_texts
        (boundaries_with (boundary_records s 24 b) (observation_records s (24 + b * 40) o) (source_records s (24 + b * 40 + o * 28) n))
        ∷ []) out 0
    unfolding answer_lines decode_boundaries
    listing_start v c =
        let q : kept_line v ++ boundary_texts records ≡ answer_text s (length out) = ap (λ (i : ℕ). kept_line i ++ boundary_texts records) (c ∙ sym count)
        ∙ sym is-listing in
        start _ (ap (λ (t : List ℕ). kept_line v ++ t) (append-nil (boundary_texts records)) ∙ q)
        (omega (arith, ap length q, length-append (kept_line v) (boundary_texts records), kept-most v (omega (arith, c, bw)), most))
