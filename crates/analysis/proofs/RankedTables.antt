-- The arrays by rank are the listing of a job that passed its checks.
use mathlib.Core.Path.{◌≡◌, refl, sym, ◌∙◌, ap, subst}
use mathlib.Core.Bool.{Bool, true}
use mathlib.Core.List.{List, map, map-map}
use Prim.Native.Nat.{ℕ, ◌+◌, ◌*◌, ◌/◌, ◌<◌, ◌≤◌}
use native.Mathlib.Nat.{zero-add}
use native.Mathlib.Omega.{arith}
use lib.ListN.{length, get_or, length-map, get_or-map}
use Rattle.lists.proofs.Rows.{rows_at, rows_same, map_rows}
use Rattle.order.specs.Sorting.{sort}
use Rattle.order.specs.Lists.{up_from}
use Rattle.order.proofs.Members.{map-ext}
use Rattle.position.specs.Order.{canonical}
use Rattle.position.specs.declared.Span.{Span}
use Rattle.position.proofs.Order.{canonical-again}
use Rattle.wire.specs.Bytes.{u64_at, splice}
use Rattle.format.specs.Sizes.{boundary_size, span_size}
use Rattle.format.specs.Records.{span_at, ramp_at, boundary_at}
use Rattle.format.specs.Header.{counts_at}
use Rattle.format.specs.Decode.{decode, decode_list, job_with, decode_boundaries, boundary_records, boundary_with, ramp_of}
use Rattle.format.specs.Values.{Boundary}
use Rattle.format.specs.declared.records.Source.{Source}
use Rattle.format.specs.declared.records.BoundaryRecord.{BoundaryRecord}
use Rattle.format.specs.declared.records.ObservationRecord.{ObservationRecord}
use Rattle.format.proofs.Distribution.{map-boundaries_with}
use Rattle.format.proofs.BoundaryTrips.{decoded-ends}
use Rattle.format.proofs.ListTrip.{length-decode_list}
use Rattle.grid.specs.Cells.{Grid}
use Rattle.areas.specs.Areas.{area_labels, area_count}
use Rattle.areas.specs.Assessments.{records}
use Rattle.position.specs.Bounds.{Bounded}
use Rattle.areas.specs.Spans.{span_in, spans_in, SpansFit}
use Rattle.areas.proofs.Areas.{labels-depend-on-the-set, count-depends-on-the-set}
use Rattle.areas.proofs.Listed.{eq-same, records-same}
use Rattle.context.specs.Listing.{Item}
use Rattle.serial_groups.specs.Listing as Rank
use Rattle.serial_groups.specs.Tables.{Boundaries}
use Rattle.serial_merging.specs.Copies.{canon}
use Rattle.serial_merging.specs.Kept.{no_boundary}
use Rattle.serial_merging.specs.Follows.{places_of}
use Rattle.serial_merging.specs.Runs.{canon_item}
use Rattle.serial_ranks.specs.Tables.{Records, KeysOf, SpansOf, WidthsOf, RampsOf, Identity}
use Rattle.places.specs.Orders.{by_two}
use Rattle.results.specs.Rules.{listing_of}
use Rattle.results.specs.Results.{own_ends}
use Rattle.analysis.proofs.Ranked.{by_rows, ByRank, place-below, rank_below, order-ranked, listed-length, listed_at, labels-ranked, records-ranked}
use Rattle.analysis.proofs.Checked.{canonical-on-map, on-map-bounded, canonical-span-fits, boundaries_at, Checked, ListChecked}

-- what a boundary has from its record alone
module _ (s : List ℕ) where
  field_of : {A : Type 0} (f : Boundary → A) (g : BoundaryRecord → A)
      → ((r : BoundaryRecord) (os : List ObservationRecord) (ss : List Source) → f (boundary_with r os ss) ≡ g r)
      → (k : ℕ) → k < (counts_at s 0).boundaries → f (get_or (decode s).boundaries k no_boundary) ≡ g (boundary_at s (boundaries_at s + k * boundary_size))
  unfolding decode job_with decode_boundaries boundary_records
  field_of {A} f g e k h =
      let c = counts_at s 0 in
      sym (get_or-map f (decode s).boundaries k no_boundary)
      ∙ (ap (λ (l : List A). get_or l k (f no_boundary))
      (map-boundaries_with f g e (boundary_records s (boundaries_at s) c.boundaries) _ _
      ∙ map_rows g c.boundaries (λ i. boundary_at s (boundaries_at s + i * boundary_size)))
      ∙ rows_at c.boundaries (λ i. g (boundary_at s (boundaries_at s + i * boundary_size))) k (f no_boundary) h)

  pub ends_of_lem : (k : ℕ) → k < (counts_at s 0).boundaries
      → (get_or (decode s).boundaries k no_boundary).ends ≡ span_at s (boundaries_at s + k * boundary_size)
  unfolding boundary_with boundary_at
  ends_of_lem k h = field_of (λ (b : Boundary). b.ends) (λ (r : BoundaryRecord). r.ends) (λ r os ss. refl) k h

  pub bits_of : (k : ℕ) → k < (counts_at s 0).boundaries
      → (get_or (decode s).boundaries k no_boundary).bits ≡ u64_at s (boundaries_at s + k * boundary_size + 16)
  unfolding boundary_with boundary_at
  bits_of k h = field_of (λ (b : Boundary). b.bits) (λ (r : BoundaryRecord). r.bits) (λ r os ss. refl) k h

  pub ramp-of : (k : ℕ) → k < (counts_at s 0).boundaries
      → (get_or (decode s).boundaries k no_boundary).ramp.end ≡ get_or s (boundaries_at s + k * boundary_size + 32) 0
  unfolding boundary_with boundary_at ramp_of ramp_at
  ramp-of k h = field_of (λ (b : Boundary). b.ramp.end) (λ (r : BoundaryRecord). r.ramp.end) (λ r os ss. refl) k h

-- the spans of a list
pub list_at : (t : List ℕ) (k : ℕ) → k < length t / span_size → get_or (decode_list t) k Rank.no_span ≡ span_at t (k * span_size)
unfolding decode_list
list_at t k h = rows_at (length t / span_size) (λ i. span_at t (i * span_size)) k Rank.no_span h

-- the ranks that sorting by the packed ends gives
module _ {distinct : Bool} {s : List ℕ} (c : Checked distinct s) where
  pub ranks-of : (first second : List ℕ) → KeysOf s (boundaries_at s) boundary_size (counts_at s 0).boundaries first second → (old : List ℕ)
      → (counts_at s 0).boundaries ≤ length old
      → ByRank (decode s).boundaries (splice old 0 (sort (by_two first second) (up_from 0 (counts_at s 0).boundaries)))
  ranks-of first second =
      subst (λ (n : ℕ). KeysOf s (boundaries_at s) boundary_size n first second → (old : List ℕ) → n ≤ length old
      → ByRank (decode s).boundaries (splice old 0 (sort (by_two first second) (up_from 0 n))))
      c.count (λ keys. order-ranked s (boundaries_at s) (decode s).boundaries first second keys c.fits
      (λ k h. ends_of_lem s k (let e = c.count in omega arith)))

-- ranks of a job's boundaries
module _ {distinct : Bool} {s : List ℕ} (c : Checked distinct s) {order : List ℕ} (r : ByRank (decode s).boundaries order) where
  abbrev n : ℕ
  n = (counts_at s 0).boundaries

  abbrev place : ℕ → ℕ
  place i = get_or (places_of (decode s).boundaries) i 0

  inside : {i : ℕ} → i < n → i < length (decode s).boundaries
  inside {i} h = let e = c.count in omega arith

  place_in : (i : ℕ) → i < n → place i < n
  place_in i h = let e = c.count in let w = place-below (decode s).boundaries i (inside h) in omega arith

  pub order-in : (i : ℕ) → i < n → get_or order i 0 < n
  order-in i h = let e = c.count in let w = rank_below (decode s).boundaries r i (inside h) in omega arith

  -- what filling the arrays asks
  pub job-records : Records s (boundaries_at s) boundary_size order n
  job-records = record { few = c.allowed.boundaries; least = omega arith; most = omega arith; inside = c.inside; named = order-in }

  same_place : (i : ℕ) → i < n → place i ≡ get_or order i 0
  same_place i h = sym (r.each i (inside h))

  -- the boundaries' own ends, as Reduce takes them for spans
  pub own-ends-ranked : (ends : List ℕ) → SpansOf s (boundaries_at s) boundary_size order n ends → (i : ℕ) → i < n
      → span_in ends i ≡ canonical (get_or (own_ends (decode s)) (get_or order i 0) Rank.no_span)
  own-ends-ranked ends t i h =
      t.each i h ∙ ap canonical
      (sym (get_or-map (λ (b : Boundary). b.ends) (decode s).boundaries (get_or order i 0) no_boundary ∙ ends_of_lem s (get_or order i 0) (order-in i h)))

  -- the spans of a list, as Reduce by list takes them
  pub list-ends-ranked : (t : List ℕ) → length t / span_size ≡ n → (ends : List ℕ) → SpansOf t 0 span_size order n ends → (i : ℕ) → i < n
      → span_in ends i ≡ canonical (get_or (decode_list t) (get_or order i 0) Rank.no_span)
  list-ends-ranked t e ends o i h =
      let w = order-in i h in
      o.each i h ∙ (ap (λ (k : ℕ). canonical (span_at t k)) (zero-add (get_or order i 0 * span_size))
      ∙ ap canonical (sym (list_at t (get_or order i 0) (omega arith))))

  -- they fit the map
  pub own-ends-fit : distinct ≡ true → (ends : List ℕ) → SpansOf s (boundaries_at s) boundary_size order n ends
      → SpansFit (counts_at s 0).width (counts_at s 0).height ends n
  own-ends-fit d ends t = record {
    each = λ i h. rw (t.each i h)
        (canonical-span-fits (counts_at s 0).width (counts_at s 0).height (span_at s (boundaries_at s + get_or order i 0 * boundary_size))
        (c.on (get_or order i 0) (order-in i h)) (c.apart d (get_or order i 0) (order-in i h)));
  }

  module _ (ss : List Span) (e : length (decode s).boundaries ≡ length ss) where
    abbrev l : List Item
    l = listing_of (decode s) ss

    pub listed-count : length l ≡ n
    listed-count = listed-length (decode s) ss e ∙ c.count

    listed_in : {i : ℕ} → i < length l → i < n
    listed_in {i} h = let f = listed-count in omega arith

    own_at : (i : ℕ) → i < n → Rank.ends_at l i ≡ canonical (span_at s (boundaries_at s + get_or order i 0 * boundary_size))
    unfolding canon_item canon
    own_at i h =
        ap (λ (x : Item). x.boundary.ends) (listed_at (decode s) ss e i (inside h))
        ∙ (ap canonical (ends_of_lem s (place i) (place_in i h)) ∙ ap (λ (k : ℕ). canonical (span_at s (boundaries_at s + k * boundary_size))) (same_place i h))

    bits-at : (i : ℕ) → i < n → Rank.bits_at l i ≡ u64_at s (boundaries_at s + get_or order i 0 * boundary_size + 16)
    unfolding canon_item canon
    bits-at i h =
        ap (λ (x : Item). x.boundary.bits) (listed_at (decode s) ss e i (inside h))
        ∙ (bits_of s (place i) (place_in i h) ∙ ap (λ (k : ℕ). u64_at s (boundaries_at s + k * boundary_size + 16)) (same_place i h))

    ramp-at : (i : ℕ) → i < n → (get_or l i Rank.no_item).boundary.ramp.end ≡ get_or s (boundaries_at s + get_or order i 0 * boundary_size + 32) 0
    unfolding canon_item canon
    ramp-at i h =
        ap (λ (x : Item). x.boundary.ramp.end) (listed_at (decode s) ss e i (inside h))
        ∙ (ramp-of s (place i) (place_in i h) ∙ ap (λ (k : ℕ). get_or s (boundaries_at s + k * boundary_size + 32) 0) (same_place i h))

    bounded_at : (i : ℕ) → i < n → Bounded (Rank.ends_at l i).a × Bounded (Rank.ends_at l i).b
    bounded_at i h =
        let w = (counts_at s 0).width in
        let v = (counts_at s 0).height in
        let b = span_at s (boundaries_at s + get_or order i 0 * boundary_size) in
        rw (own_at i h) (on-map-bounded w v (canonical b) (canonical-on-map w v b (c.on (get_or order i 0) (order-in i h))) c.allowed.width
        c.allowed.height)

    -- own ends, width bits and ramp ends of the listing
    pub boundaries-ranked : {own bits ramps : List ℕ} → SpansOf s (boundaries_at s) boundary_size order n own → WidthsOf s (boundaries_at s) order n bits
        → RampsOf s (boundaries_at s) order n ramps → Boundaries l own bits ramps
    boundaries-ranked o w t = record {
      few = let f = listed-count in let m = c.allowed.boundaries in omega arith;
      ends = λ i h. own_at i (listed_in h) ∙ sym (o.each i (listed_in h));
      bounded = λ i h. bounded_at i (listed_in h);
      widths = λ i h. bits-at i (listed_in h) ∙ sym (w.each i (listed_in h));
      fitting = λ i h. rw (bits-at i (listed_in h)) (c.widths (get_or order i 0) (order-in i (listed_in h)));
      ramp-ends = λ i h. ramp-at i (listed_in h) ∙ sym (t.each i (listed_in h));
    }

    -- an array of the spans by rank holds the listing's spans
    pub spans-ranked : (ends : List ℕ) → ((i : ℕ) → i < n → span_in ends i ≡ canonical (get_or ss (get_or order i 0) Rank.no_span))
        → Rank.spans_of l ≡ spans_in ends n
    unfolding spans_in canon_item
    spans-ranked ends t =
        by_rows (Rank.spans_of l) n (span_in ends) Rank.no_span (length-map l (λ (x : Item). x.span) ∙ listed-count)
        (λ i h. get_or-map (λ (x : Item). x.span) l i Rank.no_item
        ∙ (ap (λ (x : Item). x.span) (listed_at (decode s) ss e i (inside h))
        ∙ (ap (λ (k : ℕ). canonical (get_or ss k Rank.no_span)) (same_place i h) ∙ sym (t i h))))

    -- so labels and the number of region pairs are those of the array's spans
    pub labels_in_lem : (dirs : List ℕ) (g : Grid) (ends : List ℕ) → ((i : ℕ) → i < n → span_in ends i ≡ canonical (get_or ss (get_or order i 0) Rank.no_span))
        → area_labels dirs g ss ≡ area_labels dirs g (spans_in ends n)
    labels_in_lem dirs g ends t = labels-ranked (decode s) ss e dirs g ∙ ap (area_labels dirs g) (spans-ranked ends t)

    pub records-in : (dirs : List ℕ) (g : Grid) (ends : List ℕ) → ((i : ℕ) → i < n → span_in ends i ≡ canonical (get_or ss (get_or order i 0) Rank.no_span))
        → length (records dirs g ss) ≡ length (records dirs g (spans_in ends n))
    records-in dirs g ends t = records-ranked (decode s) ss e dirs g ∙ ap (λ (ts : List Span). length (records dirs g ts)) (spans-ranked ends t)

-- as many spans as boundaries
pub own-matched : (s : List ℕ) → length (decode s).boundaries ≡ length (own_ends (decode s))
own-matched s = sym (length-map (decode s).boundaries (λ (b : Boundary). b.ends))

pub list-matched : {distinct : Bool} {s : List ℕ} → Checked distinct s → (t : List ℕ) → length t / span_size ≡ (counts_at s 0).boundaries
    → length (decode s).boundaries ≡ length (decode_list t)
list-matched c t e = c.count ∙ sym (length-decode_list t ∙ e)

-- what filling the arrays from a list asks
pub list-records : (t order : List ℕ) (m : ℕ) → m ≤ 256 → m ≤ length t / span_size → ((i : ℕ) → i < m → get_or order i 0 < m) → Records t 0 span_size order m
list-records t order m few h below = record { few = few; least = omega arith; most = omega arith; inside = omega arith; named = below }

-- the spans of a list, in any order of ranks within it, fit the map
pub list-ends-fit : {width height : ℕ} {t : List ℕ} → ListChecked width height t → (order : List ℕ) (m : ℕ)
    → ((i : ℕ) → i < m → get_or order i 0 < length t / span_size)
    → (ends : List ℕ) → SpansOf t 0 span_size order m ends → SpansFit width height ends m
list-ends-fit {width} {height} {t} c order m below ends o = record {
  each = λ i h. rw (o.each i h, zero-add (get_or order i 0 * span_size))
      (canonical-span-fits width height (span_at t (get_or order i 0 * span_size)) (c.on (get_or order i 0) (below i h))
      (c.apart (get_or order i 0) (below i h)));
}

-- the spans of a list in their own order
module _ (t : List ℕ) (few : length t / span_size ≤ 256) {order : List ℕ} (d : Identity order) (ends : List ℕ)
    (o : SpansOf t 0 span_size order (length t / span_size) ends) where
  pub spans-listed : map canonical (decode_list t) ≡ spans_in ends (length t / span_size)
  unfolding decode_list spans_in
  spans-listed =
      map_rows canonical (length t / span_size) (λ i. span_at t (i * span_size))
      ∙ rows_same (length t / span_size) (λ i. canonical (span_at t (i * span_size))) (span_in ends)
      (λ i h. sym (o.each i h
      ∙ (ap (λ (k : ℕ). canonical (span_at t (0 + k * span_size))) (d.each i (omega arith))
      ∙ ap (λ (k : ℕ). canonical (span_at t k)) (zero-add (i * span_size)))))

  canonical-listed : map canonical (decode_list t) ≡ map canonical (spans_in ends (length t / span_size))
  canonical-listed =
      sym (map-map canonical canonical (decode_list t) ∙ map-ext (λ x. canonical (canonical x)) canonical (decode_list t) (λ x m. canonical-again x))
      ∙ ap (map canonical) spans-listed

  pub labels-listed : (dirs : List ℕ) (g : Grid) → area_labels dirs g (decode_list t) ≡ area_labels dirs g (spans_in ends (length t / span_size))
  labels-listed dirs g = labels-depend-on-the-set dirs g (decode_list t) (spans_in ends (length t / span_size)) (eq-same canonical-listed)

  pub records-listed : (dirs : List ℕ) (g : Grid) → records dirs g (decode_list t) ≡ records dirs g (spans_in ends (length t / span_size))
  records-listed dirs g = records-same dirs g (decode_list t) (spans_in ends (length t / span_size)) canonical-listed

-- the boundaries' own ends in their own order
module _ {distinct : Bool} {s : List ℕ} (c : Checked distinct s) {order : List ℕ} (d : Identity order) (ends : List ℕ)
    (o : SpansOf s (boundaries_at s) boundary_size order (counts_at s 0).boundaries ends) where
  abbrev count : ℕ
  count = (counts_at s 0).boundaries

  identity-at : (i : ℕ) → i < count → get_or order i 0 ≡ i
  identity-at i h = d.each i (let f = c.allowed.boundaries in omega arith)

  span-at : (i : ℕ) → i < count → span_in ends i ≡ canonical (span_at s (boundaries_at s + i * boundary_size))
  span-at i h = o.each i h ∙ ap (λ (k : ℕ). canonical (span_at s (boundaries_at s + k * boundary_size))) (identity-at i h)

  pub own-listed : map canonical (own_ends (decode s)) ≡ spans_in ends count
  unfolding decode job_with spans_in
  own-listed =
      ap (map canonical) (decoded-ends s (boundaries_at s) count (counts_at s 0).observations (counts_at s 0).sources)
      ∙ (map_rows canonical count (λ k. span_at s (boundaries_at s + k * boundary_size))
      ∙ rows_same count (λ k. canonical (span_at s (boundaries_at s + k * boundary_size))) (span_in ends) (λ i h. sym (span-at i h)))

  pub canonical-own : map canonical (own_ends (decode s)) ≡ map canonical (spans_in ends count)
  canonical-own =
      sym (map-map canonical canonical (own_ends (decode s))
      ∙ map-ext (λ x. canonical (canonical x)) canonical (own_ends (decode s)) (λ x m. canonical-again x))
      ∙ ap (map canonical) own-listed

  pub own-labels-listed : (dirs : List ℕ) (g : Grid) → area_labels dirs g (own_ends (decode s)) ≡ area_labels dirs g (spans_in ends count)
  own-labels-listed dirs g = labels-depend-on-the-set dirs g (own_ends (decode s)) (spans_in ends count) (eq-same canonical-own)

  pub own-areas-listed : (dirs : List ℕ) (g : Grid) → area_count dirs g (own_ends (decode s)) ≡ area_count dirs g (spans_in ends count)
  own-areas-listed dirs g = count-depends-on-the-set dirs g (own_ends (decode s)) (spans_in ends count) (eq-same canonical-own)

  pub own-records-listed : (dirs : List ℕ) (g : Grid) → records dirs g (own_ends (decode s)) ≡ records dirs g (spans_in ends count)
  own-records-listed dirs g = records-same dirs g (own_ends (decode s)) (spans_in ends count) canonical-own

  pub own-listed-fit : distinct ≡ true → SpansFit (counts_at s 0).width (counts_at s 0).height ends count
  own-listed-fit t = record {
    each = λ i h. rw (span-at i h)
        (canonical-span-fits (counts_at s 0).width (counts_at s 0).height (span_at s (boundaries_at s + i * boundary_size)) (c.on i h) (c.apart t i h));
  }
