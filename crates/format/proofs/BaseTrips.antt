-- Bases from bytes and back, with the anchor that means 'none'.
use mathlib.Core.Path.{◌≡◌, refl, sym, ◌∙◌, ap, subst}
use mathlib.Core.Bool.{Bool, true, false, cond, ◌&&◌}
use mathlib.Core.List.{List, map, flat_map, map-map}
use mathlib.Core.Option.{Option, none, some}
use Prim.Native.Nat.{ℕ, ◌+◌, ◌*◌, ◌≤◌}
use native.Mathlib.Omega.{arith}
use borrow.Author.Tests.{eqb-true, eqb-false}
use lib.Dec.{eqb}
use lib.ListN.{length, length-map}
use Rattle.lists.specs.Rows.{All}
use Rattle.lists.proofs.Flat.{flat_map-map, length-pieces}
use Rattle.lists.proofs.Each.{all_map, all-implies, map-id}
use Rattle.wire.specs.Bytes.{part, AreBytes}
use Rattle.position.specs.declared.WalkPosition.{WalkPosition}
use Rattle.format.specs.Sizes.{no_anchor, base_size}
use Rattle.format.specs.Values.{Base}
use Rattle.format.specs.Records.{base_bytes}
use Rattle.format.specs.Encode.{anchor_record, base_record}
use Rattle.format.specs.Decode.{anchor_of, base_of, base_records}
use Rattle.format.specs.declared.records.BaseRecord.{BaseRecord}
use Rattle.format.specs.Fits.{IsWord, BaseRecordFits, AnchorFits, BaseFits}
use Rattle.format.proofs.RecordTrips.{base-trip}
use Rattle.format.proofs.RowTrips.{rows-read, rows_write, rows_fit}

anchor-there : (p : WalkPosition) → AnchorFits p → anchor_of p ≡ some p
unfolding anchor_of
anchor-there p f = go (eqb p.x no_anchor) (eqb p.y no_anchor) refl refl
  where
    go : (t u : Bool) → eqb p.x no_anchor ≡ t → eqb p.y no_anchor ≡ u → cond (t && u) none (some p) ≡ some p
    go true true e h = absurd (f.there (eqb-true p.x no_anchor e) (eqb-true p.y no_anchor h))
    go true false e h = refl
    go false true e h = refl
    go false false e h = refl

anchor-again : (a : Option WalkPosition) → ((p : WalkPosition) → a ≡ some p → AnchorFits p) → anchor_of (anchor_record a) ≡ a
unfolding anchor_record anchor_of
anchor-again none f = refl
anchor-again (some p) f = anchor-there p (f p refl)

-- A base that fits is given back by its record.
base-again : (b : Base) → BaseFits b → base_of (base_record b) ≡ b
unfolding base_of base_record
base-again b f = let e = anchor-again b.anchor f.anchor in λ i. record { id = b.id; anchor = e i }

anchor-record : (p : WalkPosition) → anchor_record (anchor_of p) ≡ p
unfolding anchor_record anchor_of
anchor-record p = go (eqb p.x no_anchor) (eqb p.y no_anchor) refl refl
  where
    go : (t u : Bool) → eqb p.x no_anchor ≡ t → eqb p.y no_anchor ≡ u → anchor_record (cond (t && u) none (some p)) ≡ p
    go true true e h =
        let x = eqb-true p.x no_anchor e in
        let y = eqb-true p.y no_anchor h in
        λ i. record { x = sym x i; y = sym y i }
    go true false e h = refl
    go false true e h = refl
    go false false e h = refl

-- Every record is given back by its base.
base-record : (r : BaseRecord) → base_record (base_of r) ≡ r
unfolding base_of base_record
base-record r = let e = anchor-record r.anchor in λ i. record { id = r.id; anchor = e i }

anchor-fits : (a : Option WalkPosition) → ((p : WalkPosition) → a ≡ some p → AnchorFits p) → IsWord (anchor_record a).x × IsWord (anchor_record a).y
unfolding anchor_record
anchor-fits none f = omega arith
anchor-fits (some p) f = ((f p refl).x, (f p refl).y)

record-fits : (b : Base) → BaseFits b → BaseRecordFits (base_record b)
unfolding base_record
record-fits b f = let h = anchor-fits b.anchor f.anchor in record { id = f.id; x = h.0; y = h.1 }

anchor-within : (q : WalkPosition) → IsWord q.x → IsWord q.y → (p : WalkPosition) → anchor_of q ≡ some p → AnchorFits p
unfolding anchor_of
anchor-within q f g p = go (eqb q.x no_anchor) (eqb q.y no_anchor) refl refl
  where
    found : (q.x ≡ no_anchor → q.y ≡ no_anchor → ⊥) → some q ≡ some p → AnchorFits p
    found n h = let e : q ≡ p = cc in subst AnchorFits e (record { x = f; y = g; there = n })

    go : (t u : Bool) → eqb q.x no_anchor ≡ t → eqb q.y no_anchor ≡ u → cond (t && u) none (some q) ≡ some p → AnchorFits p
    go true true d e h = let z : ◌≡◌ {A = ℕ} 0 1 = cc in absurd (omega arith)
    go true false d e h = found (λ x y. eqb-false q.y no_anchor e y) h
    go false true d e h = found (λ x y. eqb-false q.x no_anchor d x) h
    go false false d e h = found (λ x y. eqb-false q.x no_anchor d x) h

base-within : (r : BaseRecord) → BaseRecordFits r → BaseFits (base_of r)
unfolding base_of
base-within r f = record { id = f.id; anchor = anchor-within r.anchor f.x f.y }

-- The bytes of bases side by side.
abbrev pub base_section : List Base → List ℕ
base_section bs = flat_map (λ (b : Base). base_bytes (base_record b)) bs

-- Twelve bytes a base.
pub length-base_section : (bs : List Base) → length (base_section bs) ≡ length bs * base_size
length-base_section bs = length-pieces base_size (λ b. base_bytes (base_record b)) (λ b. base-trip.size (base_record b)) bs

-- Where the bytes of bases stand, the bases are read.
pub bases-read : (s : List ℕ) (i : ℕ) (bs : List Base) → All BaseFits bs
    → part s i (length bs * base_size) ≡ base_section bs → map base_of (base_records s i (length bs)) ≡ bs
unfolding base_records
bases-read s i bs h e =
    ap (map base_of) (rows-read base-trip (all_map base_record (all-implies record-fits h)) (length bs) (length-map bs base_record) s i
    (e ∙ sym (flat_map-map base_bytes base_record bs)))
    ∙ map-map base_of base_record bs
    ∙ map-id (λ b. base_of (base_record b)) (all-implies base-again h)

module _ (s : List ℕ) (i n : ℕ) (h : AreBytes s) (l : i + n * base_size ≤ length s) where
  -- The bytes of bases that are read are those that stand there.
  pub bases-write : base_section (map base_of (base_records s i n)) ≡ part s i (n * base_size)
  unfolding base_records
  bases-write =
      let e : base_section (map base_of (base_records s i n)) ≡ flat_map base_bytes (base_records s i n) = simp (flat_map-map, base-record) in
      e ∙ rows_write base-trip n s i h l

  -- Bases that are read are within the limits.
  pub bases-within : All BaseFits (map base_of (base_records s i n))
  unfolding base_records
  bases-within = all_map base_of (all-implies base-within (rows_fit base-trip n s i h l))
