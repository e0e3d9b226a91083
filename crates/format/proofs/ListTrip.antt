-- Span lists: bytes from spans and back.
use mathlib.Core.Path.{◌≡◌, ◌∙◌, ap}
use mathlib.Core.List.{List}
use Prim.Native.Nat.{ℕ, ◌+◌, ◌*◌, ◌/◌, ◌%◌}
use native.Mathlib.Nat.{zero-add}
use native.Mathlib.Omega.{arith}
use lib.ListN.{length}
use Rattle.lists.specs.Rows.{rows, All}
use Rattle.lists.proofs.Rows.{length-rows}
use Rattle.lists.proofs.Flat.{length-pieces}
use Rattle.wire.specs.Bytes.{part, AreBytes}
use Rattle.wire.proofs.Parts.{part-whole}
use Rattle.position.specs.declared.Span.{Span}
use Rattle.format.specs.Sizes.{span_size}
use Rattle.format.specs.Records.{span_at, span_bytes}
use Rattle.format.specs.Encode.{encode_list}
use Rattle.format.specs.Decode.{decode_list}
use Rattle.format.specs.Fits.{SpanEncodable}
use Rattle.format.proofs.RecordTrips.{span-trip}
use Rattle.format.proofs.RowTrips.{rows-read, rows_write}

-- A span list has sixteen bytes a span.
pub length-encode_list : (ss : List Span) → length (encode_list ss) ≡ length ss * span_size
unfolding encode_list
length-encode_list ss = length-pieces span_size span_bytes span-trip.size ss

-- A span for each sixteen bytes.
pub length-decode_list : (l : List ℕ) → length (decode_list l) ≡ length l / span_size
unfolding decode_list
length-decode_list l = length-rows (length l / span_size) (λ k. span_at l (k * span_size))

-- The spans read from place 0.
from_start : (l : List ℕ) → decode_list l ≡ rows (length l / span_size) (λ k. span_at l (0 + k * span_size))
unfolding decode_list
from_start l = simp zero-add

-- Spans that were written are read back.
pub decode_list-encode_list : (ss : List Span) → All SpanEncodable ss → decode_list (encode_list ss) ≡ ss
unfolding encode_list
decode_list-encode_list ss h =
    let l : length (encode_list ss) ≡ length ss * span_size = length-encode_list ss in
    let m : length (encode_list ss) / span_size * span_size ≡ length (encode_list ss) = omega arith in
    from_start (encode_list ss)
    ∙ rows-read span-trip h (length (encode_list ss) / span_size) (omega arith) (encode_list ss) 0
    (ap (part (encode_list ss) 0) m ∙ part-whole (encode_list ss))

-- A list of whole spans that was read is written as it stood.
pub encode_list-decode_list : (l : List ℕ) → AreBytes l → length l % span_size ≡ 0 → encode_list (decode_list l) ≡ l
unfolding encode_list
encode_list-decode_list l h m =
    let n : length l / span_size * span_size ≡ length l = omega arith in
    ap encode_list (from_start l)
    ∙ rows_write span-trip (length l / span_size) l 0 h (omega arith)
    ∙ ap (part l 0) n
    ∙ part-whole l
