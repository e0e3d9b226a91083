-- Each record's fields written side by side are the record.
use mathlib.Core.Path.{◌≡◌, ◌∙◌, ap}
use mathlib.Core.List.{List, [], ◌++◌, append_assoc, append-nil, flat_map}
use Prim.Native.Nat.{ℕ, ◌+◌, ◌*◌, ◌/◌, ◌%◌, ◌≤◌}
use native.Mathlib.Omega.{arith}
use lib.ListN.{length, length-append}
use Rattle.wire.specs.Bytes.{splice, u32_bytes, u64_bytes}
use Rattle.wire.proofs.Numbers.{length-bytes}
use Rattle.position.specs.Order.{canonical}
use Rattle.format.specs.Records.{span_bytes, source_bytes, ramp_bytes, boundary_bytes}
use Rattle.format.specs.Decode.{ramp_of}
use Rattle.format.specs.Encode.{ramp_record, answer_words}
use Rattle.format.specs.declared.records.BoundaryRecord.{BoundaryRecord}
use Rattle.format.proofs.RecordTrips.{span-trip}
use Rattle.answer_encoding.specs.Pieces.{key_source, kept_record}
use Rattle.format.proofs.Writes.{then-write}

pub source-written : (s : List ℕ) (i v : ℕ) {x y : ℕ} {t u : List ℕ} → i + 8 ≤ length s → x ≡ v / 0x1_0000_0000 → y ≡ v % 0x1_0000_0000
    → t ≡ splice s i (u32_bytes x) → u ≡ splice t (i + 4) (u32_bytes y) → u ≡ splice s i (source_bytes (key_source v))
unfolding source_bytes key_source
source-written s i v {x} {y} h e f a b =
    let n = length-bytes 4 x in
    then-write s i (u32_bytes x) (u32_bytes y) (omega arith) (omega arith) a b
    ∙ ap (λ (z : ℕ). splice s i (u32_bytes z ++ u32_bytes y)) e
    ∙ ap (λ (z : ℕ). splice s i (u32_bytes (v / 0x1_0000_0000) ++ u32_bytes z)) f

pub boundary-written : (s : List ℕ) (i : ℕ) (x : BoundaryRecord) (own seen : ℕ) {t u v w y : List ℕ} → i + 40 ≤ length s
    → t ≡ splice s i (span_bytes (canonical x.ends)) → u ≡ splice t (i + 16) (u64_bytes x.bits) → v ≡ splice u (i + 24) (u32_bytes own)
    → w ≡ splice v (i + 28) (u32_bytes seen)
    → y ≡ splice w (i + 32) (ramp_bytes (ramp_record (ramp_of x.ramp))) → y ≡ splice s i (boundary_bytes (kept_record x own seen))
unfolding boundary_bytes kept_record
boundary-written s i x own seen h a b c d e =
    let p1 = span_bytes (canonical x.ends) in
    let p2 = u64_bytes x.bits in
    let p3 = u32_bytes own in
    let p4 = u32_bytes seen in
    let p5 = ramp_bytes (ramp_record (ramp_of x.ramp)) in
    let n1 : length p1 ≡ 16 = span-trip.size (canonical x.ends) in
    let n2 : length p2 ≡ 8 = length-bytes 8 x.bits in
    let n3 : length p3 ≡ 4 = length-bytes 4 own in
    let n4 : length p4 ≡ 4 = length-bytes 4 seen in
    let m2 = length-append p1 p2 in
    let m3 = length-append (p1 ++ p2) p3 in
    let m4 = length-append ((p1 ++ p2) ++ p3) p4 in
    let z2 = then-write s i p1 p2 (omega arith) (omega arith) a b in
    let z3 = then-write s i (p1 ++ p2) p3 (omega arith) (omega arith) z2 c in
    let z4 = then-write s i ((p1 ++ p2) ++ p3) p4 (omega arith) (omega arith) z3 d in
    let z5 = then-write s i (((p1 ++ p2) ++ p3) ++ p4) p5 (omega arith) (omega arith) z4 e in
    let q : (((p1 ++ p2) ++ p3) ++ p4) ++ p5 ≡ p1 ++ (p2 ++ (p3 ++ (p4 ++ p5))) = simp append_assoc in
    z5 ∙ ap (splice s i) q

pub header-written : (s : List ℕ) (b o n : ℕ) {t u v w x y : List ℕ} → 24 ≤ length s
    → t ≡ splice s 0 (u32_bytes b) → u ≡ splice t 4 (u32_bytes o) → v ≡ splice u 8 (u32_bytes n) → w ≡ splice v 12 (u32_bytes (24 + b * 40))
    → x ≡ splice w 16 (u32_bytes (24 + b * 40 + o * 28))
    → y ≡ splice x 20 (u32_bytes (24 + b * 40 + o * 28 + n * 8)) → y ≡ splice s 0 (flat_map u32_bytes (answer_words b o n))
unfolding answer_words flat_map
header-written s b o n h p1 p2 p3 p4 p5 p6 =
    let w1 = u32_bytes b in
    let w2 = u32_bytes o in
    let w3 = u32_bytes n in
    let w4 = u32_bytes (24 + b * 40) in
    let w5 = u32_bytes (24 + b * 40 + o * 28) in
    let w6 = u32_bytes (24 + b * 40 + o * 28 + n * 8) in
    let n1 : length w1 ≡ 4 = length-bytes 4 b in
    let n2 : length w2 ≡ 4 = length-bytes 4 o in
    let n3 : length w3 ≡ 4 = length-bytes 4 n in
    let n4 : length w4 ≡ 4 = length-bytes 4 (24 + b * 40) in
    let n5 : length w5 ≡ 4 = length-bytes 4 (24 + b * 40 + o * 28) in
    let m2 = length-append w1 w2 in
    let m3 = length-append (w1 ++ w2) w3 in
    let m4 = length-append ((w1 ++ w2) ++ w3) w4 in
    let m5 = length-append (((w1 ++ w2) ++ w3) ++ w4) w5 in
    let z2 = then-write s 0 w1 w2 (omega arith) (omega arith) p1 p2 in
    let z3 = then-write s 0 (w1 ++ w2) w3 (omega arith) (omega arith) z2 p3 in
    let z4 = then-write s 0 ((w1 ++ w2) ++ w3) w4 (omega arith) (omega arith) z3 p4 in
    let z5 = then-write s 0 (((w1 ++ w2) ++ w3) ++ w4) w5 (omega arith) (omega arith) z4 p5 in
    let z6 = then-write s 0 ((((w1 ++ w2) ++ w3) ++ w4) ++ w5) w6 (omega arith) (omega arith) z5 p6 in
    let q : ((((w1 ++ w2) ++ w3) ++ w4) ++ w5) ++ w6 ≡ w1 ++ (w2 ++ (w3 ++ (w4 ++ (w5 ++ (w6 ++ []))))) = simp (append_assoc, append-nil) in
    z6 ∙ ap (splice s 0) q
