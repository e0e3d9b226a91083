-- Sources read part by part.
use mathlib.Core.Path.{◌≡◌, refl, sym, ◌∙◌, ap, subst}
use mathlib.Core.Logic.{◌≢◌, by_cases, ⊎_elim}
use mathlib.Core.List.{List, [], ◌∷◌, ◌++◌}
use Prim.Native.Nat.{ℕ, suc, ◌+◌, ◌*◌, ◌≤◌, ◌<◌}
use native.Mathlib.Decide.{ℕ_discrete}
use native.Mathlib.Numerals.{add-one}
use native.Mathlib.Omega.{arith}
use lib.ListN.{length, get_or, set}
use Rattle.lists.specs.Rows.{rows}
use Rattle.lists.proofs.Rows.{map_rows, rows_last, length-rows}
use Rattle.wire.specs.Bytes.{part, splice}
use Rattle.wire.proofs.Parts.{splice-none, set-splice, length-splice, splice-same, splice-before, splice-after, splice-splice}
use Rattle.format.specs.Records.{source_at}
use Rattle.format.specs.Decode.{source_records}
use Rattle.format.specs.declared.records.Source.{Source}
use Rattle.order.specs.Keys.{pack}
use Rattle.answer_sources.specs.Packed.{source_pack, packed}
use Rattle.answer_sources.specs.Squeezed.{part_of, KeysRoom, KeysRead}

packed-rows : (s : List ℕ) (at n : ℕ) → packed (source_records s at n) ≡ rows n (λ k. source_pack (source_at s (at + k * 8)))
unfolding packed source_records
packed-rows s at n = map_rows source_pack n (λ k. source_at s (at + k * 8))

-- The numbers of n sources are n.
packed-count : (s : List ℕ) (at n : ℕ) → length (packed (source_records s at n)) ≡ n
packed-count s at n = ap length (packed-rows s at n) ∙ length-rows n (λ k. source_pack (source_at s (at + k * 8)))

-- The numbers of the n sources from place a on.
abbrev pub numbers_of : List ℕ → ℕ → ℕ → ℕ → List ℕ
numbers_of s from a n = packed (source_records s (from + a * 8) n)

-- One source more of a part.
module _ (s : List ℕ) (from a : ℕ) (keys₀ : List ℕ) where
  abbrev numbers : ℕ → List ℕ
  numbers = numbers_of s from a

  pub part-start : keys₀ ≡ splice keys₀ a (numbers 0)
  unfolding packed source_records rows
  part-start = sym (splice-none keys₀ a)

  numbers-next : (i : ℕ) → numbers i ++ (source_pack (source_at s (from + a * 8 + i * 8)) ∷ []) ≡ numbers (i + 1)
  numbers-next i =
      ap (λ (l : List ℕ). l ++ (source_pack (source_at s (from + a * 8 + i * 8)) ∷ [])) (packed-rows s (from + a * 8) i)
      ∙ sym (rows_last i (λ j. source_pack (source_at s (from + a * 8 + j * 8))))
      ∙ sym (packed-rows s (from + a * 8) (suc i))
      ∙ ap numbers (sym (add-one i))

  pub part-next : (i : ℕ) {v p q : ℕ} {keys : List ℕ} (r : Source) → keys ≡ splice keys₀ a (numbers i) → a + i < length keys₀
      → q ≡ a + i → p ≡ from + (a + i) * 8 → r ≡ source_at s p → v ≡ pack r.from r.to → set keys q v ≡ splice keys₀ a (numbers (i + 1))
  unfolding source_pack
  part-next i {v} {p} {q} {keys} r e h at-q at_p f g =
      let many = packed-count s (from + a * 8) i in
      let room : a + length (numbers i) ≤ length keys₀ = omega (arith, many) in
      let here : q ≡ a + length (numbers i) = omega (arith, many, at-q) in
      let long = length-splice keys₀ a (numbers i) room in
      let place : p ≡ from + a * 8 + i * 8 = omega (arith, at_p) in
      let is : v ≡ source_pack (source_at s (from + a * 8 + i * 8)) = g ∙ ap source_pack (f ∙ ap (source_at s) place) in
      ap (λ (l : List ℕ). set l q v) e
      ∙ set-splice (splice keys₀ a (numbers i)) q v (omega (arith, long, at-q))
      ∙ ap (λ (k : ℕ). splice (splice keys₀ a (numbers i)) k (v ∷ [])) here
      ∙ splice-splice keys₀ a (numbers i) room (v ∷ [])
      ∙ ap (λ (z : ℕ). splice keys₀ a (numbers i ++ (z ∷ []))) is
      ∙ ap (splice keys₀ a) (numbers-next i)

  pub part_end : (i n : ℕ) {keys : List ℕ} → keys ≡ splice keys₀ a (numbers i) → i ≤ n → n ≤ i → keys ≡ splice keys₀ a (numbers n)
  part_end i n e h l = e ∙ ap (λ (k : ℕ). splice keys₀ a (numbers k)) (let f : i ≡ n = omega arith in f)

pub keys-start : (s : List ℕ) (from : ℕ) (starts counts keys : List ℕ) → KeysRead s from 0 starts counts keys keys
keys-start s from starts counts keys = record { long = refl; there = λ q h. absurd (omega arith) }

-- The part of one place more.
module _ {s : List ℕ} {from n i : ℕ} {before keys starts counts : List ℕ} (room : KeysRoom s from n before starts counts)
    (k : KeysRead s from i starts counts before keys) {a c : ℕ} (x : a ≡ get_or starts i 0) (y : c ≡ get_or counts i 0) where
  pub part-fits : a + c ≤ length keys
  part-fits = omega (arith, x, y, room.clear.ends i, room.keys-room, k.long)

  pub part-inside : from + (a + c) * 8 ≤ length s
  part-inside = omega (arith, x, y, room.clear.ends i, room.sources-in)

  more-long : length (numbers_of s from a c) ≡ c
  more-long = packed-count s (from + a * 8) c

  more_room : a + length (numbers_of s from a c) ≤ length keys
  more_room = omega (arith, part-fits, more-long)

  module _ {keys' : List ℕ} (e : keys' ≡ splice keys a (numbers_of s from a c)) where
    other : (q : ℕ) → q ≢ i → part_of keys' starts counts q ≡ part_of keys starts counts q
    other q d =
        ap (λ (l : List ℕ). part_of l starts counts q) e
        ∙ ⊎_elim
        (λ h. splice-before keys a (numbers_of s from a c) more_room (get_or starts q 0) (get_or counts q 0) (omega (arith, h, x)))
        (λ h. splice-after keys a (numbers_of s from a c) more_room (get_or starts q 0) (get_or counts q 0) (omega (arith, h, x, y, more-long)))
        (room.clear.apart q i d)

    this : part_of keys' starts counts i ≡ packed (source_records s (from + get_or starts i 0 * 8) (get_or counts i 0))
    this =
        (λ z. part (e z) (sym x z) (sym (more-long ∙ y) z))
        ∙ splice-same keys a (numbers_of s from a c) more_room
        ∙ (λ z. packed (source_records s (from + x z * 8) (y z)))

    pub keys-next : KeysRead s from (i + 1) starts counts before keys'
    keys-next = record {
      long = ap length e ∙ (length-splice keys a (numbers_of s from a c) more_room ∙ k.long);
      there = λ q h. by_cases (ℕ_discrete q i) (λ d. rw d this) (λ d. other q d ∙ k.there q (omega arith));
    }

pub keys-end : {s : List ℕ} {from i n : ℕ} {starts counts before keys : List ℕ} → KeysRead s from i starts counts before keys → i ≤ n → n ≤ i
    → KeysRead s from n starts counts before keys
keys-end {s} {from} {i} {n} {starts} {counts} {before} {keys} a h l =
    let e : i ≡ n = omega arith in subst (λ (z : ℕ). KeysRead s from z starts counts before keys) e a
