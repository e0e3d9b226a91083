-- A kept boundary's own sources: written from the job place by place, then sorted where they stand.
use mathlib.Core.Path.{◌≡◌, sym, ◌∙◌, ap, ap₂}
use mathlib.Core.List.{List, ◌++◌, flat_map}
use Prim.Native.Nat.{ℕ, ◌+◌, ◌*◌, ◌≤◌}
use native.Mathlib.Omega.{arith}
use lib.ListN.{length, get_or, take}
use Rattle.wire.specs.Bytes.{AreBytes, part, splice, u64_at, u64_bytes}
use Rattle.wire.proofs.Parts.{splice-same, splice-before, drop-splice, length-splice}
use Rattle.lists.specs.Rows.{All, rows}
use Rattle.lists.proofs.Rows.{length-rows, rows_at}
use Rattle.lists.proofs.Each.{all-rows}
use Rattle.lists.proofs.Flat.{length-pieces}
use Rattle.order.specs.Keys.{by_key, sort_by}
use Rattle.order.proofs.Merge.{sort-length}
use Rattle.format.specs.Records.{source_at, source_bytes}
use Rattle.format.specs.Decode.{source_records}
use Rattle.format.specs.Fits.{SourceFits}
use Rattle.format.specs.declared.records.Source.{Source}
use Rattle.format.proofs.Trip.{number-trip}
use Rattle.format.proofs.RecordTrips.{source-trip}
use Rattle.format.proofs.RowTrips.{rows-read}
use Rattle.serial_merging.specs.Keys.{source_key}
use Rattle.answer_sorting.specs.Parts.{SortedPart, placed_sources}
use Rattle.answer_sorting.proofs.Told.{sorted-part-is}
use Rattle.answer_encoding.specs.Pieces.{pieces, own_piece}
use Rattle.answer_encoding.specs.Answered.{OwnPieceRoom}
use Rattle.answer_encoding.proofs.Writing.{length-even}
use Rattle.answer_encoding.proofs.Flats.{pieces-flat}

-- What is written over, as long, might not have been written.
splice-over : (s : List ℕ) (i : ℕ) (bs cs : List ℕ) → i + length bs ≤ length s → length cs ≡ length bs → splice (splice s i bs) i cs ≡ splice s i cs
unfolding splice part
splice-over s i bs cs fits e =
    let low : take i (splice s i bs) ≡ take i s = splice-before s i bs fits 0 i (omega arith) in
    let high = drop-splice s i bs fits (i + length cs) (omega arith) in
    ap₂ (λ (x y : List ℕ). x ++ (cs ++ y)) low high

module _ (s : List ℕ) (from : ℕ) (owned : List ℕ) (a : ℕ) where
  -- The source at place k of those from a on.
  abbrev pub own_at : ℕ → Source
  own_at k = source_at s (from + get_or owned (a + k) 0 * 8)

  abbrev pub own_bytes : ℕ → List ℕ
  own_bytes k = source_bytes (own_at k)

  -- Eight bytes of the job, moved as one number.
  pub own-moved : (k : ℕ) {p v : ℕ} → AreBytes s → from + (get_or owned (a + k) 0 + 1) * 8 ≤ length s → p ≡ get_or owned (a + k) 0
      → v ≡ u64_at s (from + p * 8) → u64_bytes v ≡ own_bytes k
  own-moved k {p} b h e f =
      let i = from + get_or owned (a + k) 0 * 8 in
      ap u64_bytes (f ∙ ap (λ (q : ℕ). u64_at s (from + q * 8)) e)
      ∙ (number-trip 8).write s i b (omega arith)
      ∙ sym (source-trip.write s i b (omega arith))

  pub moved-flat : (n : ℕ) → pieces n own_bytes ≡ flat_map source_bytes (placed_sources s from owned a n)
  moved-flat n =
      pieces-flat source_bytes (rows n own_at) (own_at 0) own_bytes n (sym (length-rows n own_at))
      (λ k h. ap source_bytes (sym (rows_at n own_at k (own_at 0) (omega (arith, length-rows n own_at)))))

  pub pieces-long : (n : ℕ) → length (pieces n own_bytes) ≡ n * 8
  pieces-long n = length-even 8 n own_bytes (λ k. source-trip.size (own_at k))

  moved-long : (n : ℕ) → length (flat_map source_bytes (placed_sources s from owned a n)) ≡ n * 8
  moved-long n = sym (ap length (moved-flat n)) ∙ pieces-long n

  pub own-long : (n : ℕ) → length (own_piece s from owned a n) ≡ n * 8
  unfolding own_piece
  own-long n =
      length-pieces 8 source_bytes source-trip.size (sort_by source_key (rows n own_at))
      ∙ ap (λ (k : ℕ). k * 8) (sort-length (by_key source_key) (rows n own_at) ∙ length-rows n own_at)

-- Equal numbers, the same part.
pub sorted-at : {t u : List ℕ} {i j m n : ℕ} → SortedPart t u i m → i ≡ j → m ≡ n → SortedPart t u j n
sorted-at g e f = rw (sym e, sym f) g

-- Sorted where they were written, they are the sorted ones written.
module _ {s : List ℕ} {from : ℕ} {owned : List ℕ} {a n to : ℕ} {t u v : List ℕ} (r : OwnPieceRoom s from owned a n to t) (b : AreBytes s) (c : AreBytes v)
    (w : u ≡ splice t to (flat_map source_bytes (placed_sources s from owned a n))) (g : SortedPart u v to n) where
  abbrev those : List Source
  those = placed_sources s from owned a n

  own-fit : All SourceFits those
  own-fit = all-rows n (own_at s from owned a) (λ k h. source-trip.fits s (from + get_or owned (a + k) 0 * 8) b (omega (arith, r.inside k h)))

  fits : to + length (flat_map source_bytes those) ≤ length t
  fits = omega (arith, moved-long s from owned a n, r.room)

  there : source_records u to n ≡ those
  unfolding source_records
  there =
      let long = moved-long s from owned a n in
      rows-read source-trip own-fit n (length-rows n (own_at s from owned a)) u to
      (ap (λ (k : ℕ). part u to k) (sym long)
      ∙ ap (λ (l : List ℕ). part l to (length (flat_map source_bytes those))) w
      ∙ splice-same t to (flat_map source_bytes those) fits)

  pub own-sorted : v ≡ splice t to (own_piece s from owned a n)
  unfolding own_piece
  own-sorted =
      let room : to + n * 8 ≤ length u = omega (arith, ap length w, length-splice t to (flat_map source_bytes those) fits, r.room) in
      sorted-part-is g c room
      ∙ ap (λ (l : List Source). splice u to (flat_map source_bytes (sort_by source_key l))) there
      ∙ ap (λ (l : List ℕ). splice l to (own_piece s from owned a n)) w
      ∙ splice-over t to (flat_map source_bytes those) (own_piece s from owned a n) fits (own-long s from owned a n ∙ sym (moved-long s from owned a n))
