-- The bytes written from what was gathered are those of the boundaries.
use mathlib.Core.Path.{◌≡◌, refl, sym, ◌∙◌, ap, subst}
use mathlib.Core.Bool.{Bool, true, false, cond}
use mathlib.Core.List.{List, ◌++◌, map, flat_map, map-map}
use Prim.Native.Nat.{ℕ, ◌+◌, ◌-◌, ◌/◌, ◌%◌, ◌<◌}
use native.Mathlib.Omega.{arith}
use borrow.Author.Tests.{ltb-true, ltb-false, lt-ltb, le-ltb}
use lib.Dec.{ltb}
use lib.ListN.{length, get_or, length-map, get_or-map}
use lib.Seq.{get_or-take}
use Rattle.wire.specs.Bytes.{u32_bytes}
use Rattle.wire.proofs.Parts.{part_at}
use Rattle.lists.specs.Rows.{All, sum}
use Rattle.lists.proofs.Each.{all-at}
use Rattle.lists.proofs.Flat.{flat_map-append, length-flat_map}
use Rattle.order.specs.Keys.{pack}
use Rattle.length.specs.Total.{total_key}
use Rattle.position.specs.declared.Span.{Span}
use Rattle.format.specs.Values.{Observation, Boundary}
use Rattle.format.specs.Records.{source_bytes, boundary_bytes, observation_bytes}
use Rattle.format.specs.Encode.{ramp_record, boundary_record, observation_record, observations_of, sources_with, sources_of, encode_boundaries, encode_answer}
use Rattle.format.specs.Encode.{answer_words}
use Rattle.format.specs.Fits.{SourceFits}
use Rattle.format.specs.declared.records.Source.{Source}
use Rattle.format.specs.declared.records.BoundaryRecord.{BoundaryRecord}
use Rattle.format.proofs.Distribution.{observed, own-and-observed}
use Rattle.serial_merging.specs.Kept.{no_boundary}
use Rattle.serial_merging.specs.Sources.{own_sources}
use Rattle.serial_merging.proofs.Lists.{flat-gather}
use Rattle.answer_sources.specs.Laying.{sum_below, elements}
use Rattle.answer_sources.specs.Packed.{source_pack, packed}
use Rattle.format.specs.Records.{observation_words}
use Rattle.answer_sources.specs.Placed.{boundary_rows, HoldsObservation}
use Rattle.answer_sources.specs.Gathered.{no_observation, Gathered}
use Rattle.answer_encoding.specs.Pieces.{pieces, key_source, key_span, key_bits, kept_record, kept_piece, key_piece, run_from, run_length, place_run}
use Rattle.answer_encoding.specs.Pieces.{place_piece, runs_from, own_piece, group_piece, cited_total, written_bytes}
use Rattle.answer_encoding.proofs.Flats.{pieces-flat, flat-flat, below-sum, flat-at, flat-within}
use Rattle.answer_encoding.proofs.Lengths.{part-short}

-- Packed numbers are told apart again.
key-source : (s : Source) → SourceFits s → key_source (source_pack s) ≡ s
unfolding key_source source_pack
key-source s f =
    let a : pack s.from s.to / 0x1_0000_0000 ≡ s.from = omega (arith, f.to) in
    let b : pack s.from s.to % 0x1_0000_0000 ≡ s.to = omega (arith, f.to) in
    λ k. record { from = a k; to = b k }

key-span : (e : Span) {v w : ℕ} → v ≡ pack e.a.x e.a.y → w ≡ pack e.b.x e.b.y → e.a.y < 0x1_0000_0000 → e.b.y < 0x1_0000_0000
    → key_span v w ≡ e
unfolding key_span
key-span e {v} {w} f g h i =
    let a : v / 0x1_0000_0000 ≡ e.a.x = omega arith in
    let b : v % 0x1_0000_0000 ≡ e.a.y = omega arith in
    let c : w / 0x1_0000_0000 ≡ e.b.x = omega arith in
    let d : w % 0x1_0000_0000 ≡ e.b.y = omega arith in
    λ k. record { a = record { x = a k; y = b k }; b = record { x = c k; y = d k } }

abbrev half : ℕ
half = 0x8000_0000_0000_0000

abbrev full : ℕ
full = 0x1_0000_0000_0000_0000

key-bits : (b : ℕ) → key_bits (total_key b) ≡ b
unfolding key_bits total_key
key-bits b = go (ltb b half) (ltb b full) refl refl
  where
    undo : ℕ → ℕ
    undo v = cond (ltb v half) (0xFFFF_FFFF_FFFF_FFFF - v) (cond (ltb v full) (v - half) v)

    go : (p q : Bool) → ltb b half ≡ p → ltb b full ≡ q → undo (cond p (b + half) (cond q (0xFFFF_FFFF_FFFF_FFFF - b) b)) ≡ b
    go true q e f = let h = ltb-true b half e in rw (le-ltb (b + half) half (omega arith), lt-ltb (b + half) full (omega arith)) (omega arith)
    go false true e f = let h = ltb-false b half e in let i = ltb-true b full f in rw (lt-ltb (0xFFFF_FFFF_FFFF_FFFF - b) half (omega arith)) (omega arith)
    go false false e f = let i = ltb-false b full f in rw (le-ltb b half (omega arith), le-ltb b full (omega arith))

abbrev no_source : Source
no_source = record { from = 0; to = 0 }

-- The numbers of sources are their bytes.
keys-flat : (keys : List ℕ) (from n : ℕ) (ss : List Source) → All SourceFits ss → n ≡ length ss
    → ((i : ℕ) → i < length ss → get_or keys (from + i) 0 ≡ get_or (packed ss) i 0) → run_from keys from n ≡ flat_map source_bytes ss
unfolding key_piece packed source_pack
keys-flat keys from n ss f e h =
    pieces-flat source_bytes ss no_source (λ i. key_piece keys (from + i)) n e
    (λ i l. ap (λ (v : ℕ). source_bytes (key_source v)) (h i l ∙ get_or-map source_pack ss i no_source)
    ∙ ap source_bytes (key-source (get_or ss i no_source) (all-at ss i no_source f l)))

module _ {first second third starts counts keys : List ℕ} {p : ℕ} {o : Observation} (h : HoldsObservation first second third starts counts keys p o) where
  pub run-count : run_length starts counts keys p ≡ length o.sources
  unfolding packed
  run-count = ap length h.run ∙ length-map o.sources source_pack

  pub place-bytes : place_piece first second third starts counts keys p ≡ observation_bytes (observation_record o)
  unfolding place_piece observation_words observation_record
  place-bytes =
      let a : key_span (get_or first p 0) (get_or second p 0) ≡ o.ends =
      key-span o.ends h.key.first-is h.key.second_is h.key.first_fits h.key.second_fits in
      let b : key_bits (get_or third p 0) ≡ o.bits = ap key_bits h.key.third-is ∙ key-bits o.bits in
      ap observation_bytes (λ k. record { ends = a k; bits = b k; sources = run-count k })

  pub run-bytes : place_run starts counts keys p ≡ flat_map source_bytes o.sources
  unfolding place_run
  run-bytes =
      let s = part-short keys (get_or starts p 0) (get_or counts p 0) in
      keys-flat keys (get_or starts p 0) (run_length starts counts keys p) o.sources h.fits run-count
      (λ i l. sym (part_at keys (get_or starts p 0) (get_or counts p 0) i (omega (arith, s.0, run-count))) ∙ ap (λ (t : List ℕ). get_or t i 0) h.run)

module _ {s : List ℕ} {at from n : ℕ} {ks : List Boundary} {kept owns seens owned seen first second third starts counts keys : List ℕ}
    (g : Gathered s at from n ks kept owns seens owned seen first second third starts counts keys) where
  abbrev os : List Observation
  os = observations_of ks

  own_at : (k : ℕ) → k < length ks → elements owns k ≡ length (get_or ks k no_boundary).sources
  own_at k h = g.own-count k h

  seen_at : (k : ℕ) → k < length ks → elements seens k ≡ length (get_or ks k no_boundary).observations
  seen_at k h = g.seen-count k h

  pub seen-sum : sum_below (elements seens) (length ks) ≡ length os
  unfolding observations_of
  seen-sum = below-sum (λ (b : Boundary). length b.observations) ks no_boundary (elements seens) seen_at
      ∙ sym (length-flat_map (λ (b : Boundary). b.observations) ks)

  own-flat : own_sources ks ≡ flat_map (λ (b : Boundary). b.sources) ks
  unfolding own_sources
  own-flat = sym (flat-gather (λ (b : Boundary). b.sources) ks)

  pub own-sum : sum_below (elements owns) (length ks) ≡ length (own_sources ks)
  own-sum = below-sum (λ (b : Boundary). length b.sources) ks no_boundary (elements owns) own_at
      ∙ sym (ap length own-flat ∙ length-flat_map (λ (b : Boundary). b.sources) ks)

  -- The places of observations.
  seen-holds : (q : ℕ) → q < length os → HoldsObservation first second third starts counts keys (get_or seen q 0) (get_or os q no_observation)
  seen-holds q h = subst (λ (p : ℕ). HoldsObservation first second third starts counts keys p (get_or os q no_observation)) (get_or-take (length os) seen q 0 h)
      (g.seen-there.each q h)

  pub cited-sum : cited_total seen starts counts keys (length os) ≡ length (observed os)
  cited-sum = below-sum (λ (o : Observation). length o.sources) os no_observation (λ q. run_length starts counts keys (get_or seen q 0))
      (λ q h. run-count (seen-holds q h)) ∙ sym (length-flat_map (λ (o : Observation). o.sources) os)

  pub sources-sum : sum_below (elements owns) (length ks) + cited_total seen starts counts keys (length os) ≡ length (sources_of ks)
  unfolding boundary_record
  sources-sum =
      let a : sum (map (λ (r : BoundaryRecord). r.sources) (map boundary_record ks)) ≡ sum_below (elements owns) (length ks)
      = ap sum (map-map (λ (r : BoundaryRecord). r.sources) boundary_record ks)
      ∙ sym (below-sum (λ (b : Boundary). length b.sources) ks no_boundary (elements owns) own_at) in
      omega (arith, a, cited-sum, own-and-observed ks)

  -- The three sections.
  kept-bytes : pieces (length ks) (kept_piece (boundary_rows s at) kept owns seens) ≡ flat_map (λ (b : Boundary). boundary_bytes (boundary_record b)) ks
  unfolding kept_piece kept_record boundary_record
  kept-bytes =
      pieces-flat (λ (b : Boundary). boundary_bytes (boundary_record b)) ks no_boundary (kept_piece (boundary_rows s at) kept owns seens) (length ks) refl
      (λ k h.
      let e = sym (g.ends-are k h) in
      let w = sym (g.bits_are k h) in
      let r = sym (ap ramp_record (g.ramp-is k h)) in
      let c = g.own-count k h in
      let o = g.seen-count k h in
      ap boundary_bytes (λ i. record { ends = e i; bits = w i; sources = c i; observations = o i; ramp = r i }))

  seen_bytes : pieces (length os) (λ q. place_piece first second third starts counts keys (get_or seen q 0)) ≡ flat_map
      (λ (o : Observation). observation_bytes (observation_record o)) os
  seen_bytes =
      pieces-flat (λ (o : Observation). observation_bytes (observation_record o)) os no_observation
      (λ q. place_piece first second third starts counts keys (get_or seen q 0)) (length os) refl
      (λ q h. place-bytes (seen-holds q h))

  module _ (k : ℕ) (h : k < length ks) where
    abbrev here : Boundary
    here = get_or ks k no_boundary

    seen-run : (i : ℕ) → i < length here.observations
        → place_run starts counts keys (get_or seen (sum_below (elements seens) k + i) 0)
        ≡ flat_map source_bytes (get_or here.observations i no_observation).sources
    unfolding observations_of
    seen-run i l =
        let j = sum_below (elements seens) k + i in
        let w = flat-within (λ (b : Boundary). b.observations) ks no_boundary (elements seens) k h seen_at in
        run-bytes (seen-holds j (omega arith))
        ∙ ap (λ (o : Observation). flat_map source_bytes o.sources)
        (flat-at (λ (b : Boundary). b.observations) ks no_boundary (elements seens) k h seen_at i no_observation l)

    group-bytes : group_piece s from owns seens owned seen starts counts keys k ≡ flat_map source_bytes (sources_with here)
    unfolding group_piece own_piece sources_with
    group-bytes =
        ap (λ (t : List ℕ). t ++ runs_from seen starts counts keys (sum_below (elements seens) k) (get_or seens k 0))
        (ap (flat_map source_bytes) (g.own-there k h))
        ∙ ap (λ (t : List ℕ). flat_map source_bytes here.sources ++ t)
        (pieces-flat (λ (o : Observation). flat_map source_bytes o.sources) here.observations no_observation
        (λ i. place_run starts counts keys (get_or seen (sum_below (elements seens) k + i) 0)) (get_or seens k 0) (seen_at k h) seen-run
        ∙ sym (flat-flat source_bytes (λ (o : Observation). o.sources) here.observations))
        ∙ sym (flat_map-append source_bytes here.sources (flat_map (λ (o : Observation). o.sources) here.observations))

  pub source-bytes : pieces (length ks) (group_piece s from owns seens owned seen starts counts keys) ≡ flat_map source_bytes (sources_of ks)
  unfolding sources_of
  source-bytes =
      pieces-flat (λ (b : Boundary). flat_map source_bytes (sources_with b)) ks no_boundary (group_piece s from owns seens owned seen starts counts keys)
      (length ks) refl group-bytes
      ∙ sym (flat-flat source_bytes sources_with ks)

  -- All bytes.
  pub answer-bytes : (count : ℕ) → length ks ≡ count
      → written_bytes s at from count kept owns seens owned seen first second third starts counts keys ≡ encode_answer ks
  unfolding written_bytes encode_answer encode_boundaries
  answer-bytes count e =
      ap (λ (n : ℕ). written_bytes s at from n kept owns seens owned seen first second third starts counts keys) (sym e)
      ∙ ap
      (λ (m : ℕ).
      flat_map u32_bytes (answer_words (length ks) m (sum_below (elements owns) (length ks) + cited_total seen starts counts keys m))
      ++ (pieces (length ks) (kept_piece (boundary_rows s at) kept owns seens)
      ++ (pieces m (λ q. place_piece first second third starts counts keys (get_or seen q 0))
      ++ pieces (length ks) (group_piece s from owns seens owned seen starts counts keys))))
      seen-sum
      ∙ (λ i. flat_map u32_bytes (answer_words (length ks) (length os) (sources-sum i)) ++ (kept-bytes i ++ (seen_bytes i ++ source-bytes i)))
