-- Fields written side by side are the record.
use mathlib.Core.Path.{◌≡◌, ◌∙◌, ap}
use mathlib.Core.List.{List, [], ◌∷◌, ◌++◌, append_assoc}
use Prim.Native.Nat.{ℕ, suc, ◌+◌, ◌≤◌}
use native.Mathlib.Omega.{arith}
use lib.ListN.{length, set, take, drop, length-append}
use lib.Seq.{sets-eq}
use Rattle.wire.specs.Bytes.{splice, u32_bytes, u64_bytes}
use Rattle.wire.proofs.Parts.{splice-splice}
use Rattle.wire.proofs.Numbers.{length-bytes}
use Rattle.position.specs.declared.Span.{Span}
use Rattle.format.specs.Records.{position_bytes, span_bytes, ramp_bytes, observation_bytes, observation_words}
use Rattle.format.specs.Decode.{ramp_of}
use Rattle.format.specs.Encode.{ramp_record}
use Rattle.format.specs.declared.records.RampRecord.{RampRecord}
use Rattle.format.proofs.RecordTrips.{span-trip}

pub then-write : (s : List ℕ) (i : ℕ) (bs cs : List ℕ) {t u : List ℕ} {j : ℕ} → i + length bs ≤ length s → j ≡ i + length bs → t ≡ splice s i bs
    → u ≡ splice t j cs → u ≡ splice s i (bs ++ cs)
then-write s i bs cs {t} {u} {j} h e f g = g ∙ ap (λ (l : List ℕ). splice l j cs) f ∙ ap (λ (k : ℕ). splice (splice s i bs) k cs) e ∙ splice-splice s i bs h cs

pub span-written : (s : List ℕ) (i : ℕ) (e : Span) {t u v w : List ℕ} → i + 16 ≤ length s
    → t ≡ splice s i (u32_bytes e.a.x) → u ≡ splice t (i + 4) (u32_bytes e.a.y) → v ≡ splice u (i + 8) (u32_bytes e.b.x)
    → w ≡ splice v (i + 12) (u32_bytes e.b.y)
    → w ≡ splice s i (span_bytes e)
unfolding span_bytes position_bytes
span-written s i e h a b c d =
    let n1 = length-bytes 4 e.a.x in
    let n2 = length-bytes 4 e.a.y in
    let n3 = length-bytes 4 e.b.x in
    let m2 = length-append (u32_bytes e.a.x) (u32_bytes e.a.y) in
    let m3 = length-append (u32_bytes e.a.x ++ u32_bytes e.a.y) (u32_bytes e.b.x) in
    let x = then-write s i (u32_bytes e.a.x) (u32_bytes e.a.y) (omega arith) (omega arith) a b in
    let y = then-write s i ((u32_bytes e.a.x) ++ (u32_bytes e.a.y)) (u32_bytes e.b.x) (omega arith) (omega arith) x c in
    let z = then-write s i (((u32_bytes e.a.x) ++ (u32_bytes e.a.y)) ++ (u32_bytes e.b.x)) (u32_bytes e.b.y) (omega arith) (omega arith) y d in
    z ∙ ap (splice s i) (append_assoc (u32_bytes e.a.x ++ u32_bytes e.a.y) (u32_bytes e.b.x) (u32_bytes e.b.y))

pub observation-written : (s : List ℕ) (i : ℕ) (e : Span) (bits n : ℕ) {t u v : List ℕ} → i + 28 ≤ length s
    → t ≡ splice s i (span_bytes e) → u ≡ splice t (i + 16) (u64_bytes bits) → v ≡ splice u (i + 24) (u32_bytes n)
    → v ≡ splice s i (observation_bytes (observation_words e bits n))
unfolding observation_bytes observation_words
observation-written s i e bits n h a b c =
    let n1 = span-trip.size e in
    let n2 = length-bytes 8 bits in
    let m2 = length-append (span_bytes e) (u64_bytes bits) in
    let x = then-write s i (span_bytes e) (u64_bytes bits) (omega arith) (omega arith) a b in
    let y = then-write s i (span_bytes e ++ u64_bytes bits) (u32_bytes n) (omega arith) (omega arith) x c in
    y ∙ ap (splice s i) (append_assoc (span_bytes e) (u64_bytes bits) (u32_bytes n))

four-set : (s : List ℕ) (i a b c d : ℕ) → i + 4 ≤ length s → set (set (set (set s i a) (i + 1) b) (i + 2) c) (i + 3) d ≡ splice s i (a ∷ b ∷ c ∷ d ∷ [])
unfolding splice
four-set s i a b c d h =
    let e1 : i + 1 ≡ suc i = omega arith in
    let e2 : i + 2 ≡ suc (suc i) = omega arith in
    let e3 : i + 3 ≡ suc (suc (suc i)) = omega arith in
    rw (e1, e2, e3) (sets-eq (a ∷ b ∷ c ∷ d ∷ []) s i h ∙ append_assoc (take i s) (a ∷ b ∷ c ∷ d ∷ []) (drop (i + 4) s))

pub ramp-written : (s : List ℕ) (i : ℕ) (r : RampRecord) {t u : List ℕ} → i + 8 ≤ length s
    → t ≡ set (set (set (set s i r.end) (i + 1) r.lower) (i + 2) r.upper) (i + 3) 0 → u ≡ splice t (i + 4) (u32_bytes r.id)
    → u ≡ splice s i (ramp_bytes (ramp_record (ramp_of r)))
unfolding ramp_bytes ramp_record ramp_of
ramp-written s i r h a b =
    then-write s i (r.end ∷ r.lower ∷ r.upper ∷ 0 ∷ []) (u32_bytes r.id) (omega arith) (omega arith)
    (a ∙ four-set s i r.end r.lower r.upper 0 (omega arith)) b
