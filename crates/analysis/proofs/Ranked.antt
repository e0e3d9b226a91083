-- The ranks of boundaries in an array, and the listing by those ranks.
use mathlib.Core.Path.{◌≡◌, refl, sym, ◌∙◌, ap}
use mathlib.Core.List.Permᴰ
use mathlib.Core.List.{List, [], ◌∷◌, map, map-map, zip_with, Permᴰ}
use Prim.Native.Nat.{ℕ, zero, suc, ◌+◌, ◌*◌, ◌<◌, ◌≤◌}
use native.Mathlib.Nat.{zero-add}
use native.Mathlib.Omega.{arith}
use lib.ListN.{length, get_or, length-map}
use Rattle.lists.specs.Rows.{All, rows}
use Rattle.lists.proofs.Each.{all-at}
use Rattle.order.specs.Sorting.{sort, by_place}
use Rattle.order.specs.Keys.{by_key}
use Rattle.order.specs.Lists.{up_from}
use Rattle.order.proofs.Members.{perm-mem, get_d-mem, map-ext}
use Rattle.order.proofs.Merge.{sort-length}
use Rattle.order.proofs.Numbers.{up_mem, up-length, map-places, map_at}
use Rattle.order.proofs.Places.{sort-places}
use Rattle.order.proofs.Sort.{sort-perm, sort-map}
use Rattle.position.specs.Order.{canonical}
use Rattle.position.specs.declared.Span.{Span}
use Rattle.position.proofs.Order.{canonical-again}
use Rattle.wire.specs.Bytes.{splice}
use Rattle.wire.proofs.Parts.{part_at, splice-same}
use Rattle.format.specs.Sizes.{boundary_size}
use Rattle.format.specs.Records.{span_at}
use Rattle.format.specs.Values.{Boundary, Job}
use Rattle.format.specs.Fits.{BoundaryFits}
use Rattle.grid.specs.Cells.{Grid}
use Rattle.areas.specs.Areas.{area_labels}
use Rattle.areas.specs.Assessments.{records}
use Rattle.areas.proofs.Areas.{labels-depend-on-the-set}
use Rattle.areas.proofs.Listed.{perm_same, records-count}
use Rattle.context.specs.Listing.{Item, item_key}
use Rattle.serial_groups.specs.Listing.{no_span, no_item, spans_of}
use Rattle.serial_merging.specs.Copies.{canon, copies_of}
use Rattle.serial_merging.specs.Kept.{no_boundary}
use Rattle.serial_merging.specs.Follows.{ends_le, places_of}
use Rattle.serial_merging.specs.Runs.{item_of, items_of, canon_item}
use Rattle.serial_merging.proofs.Copies.{key-canon}
use Rattle.serial_merging.proofs.Kept.{copies-places}
use Rattle.serial_merging.proofs.Packed.{pack_first, pack_second, ends-packed, sort-alike}
use Rattle.serial_ranks.specs.Tables.{KeysOf}
use Rattle.places.specs.Orders.{by_two}
use Rattle.results.specs.Rules.{listing_of}

-- a list whose members are known by place
pub by_rows : {A : Type 0} (l : List A) (n : ℕ) (f : ℕ → A) (d : A) → length l ≡ n → ((i : ℕ) → i < n → get_or l i d ≡ f i) → l ≡ rows n f
unfolding rows
by_rows [] zero f d e h = refl
by_rows [] (suc n) f d e h = absurd (omega arith)
by_rows (x ∷ xs) zero f d e h = absurd (omega arith)
by_rows (x ∷ xs) (suc n) f d e h =
    let a : x ≡ f 0 = h 0 (omega arith) in
    let b : xs ≡ rows n (λ i. f (suc i)) = by_rows xs n (λ i. f (suc i)) d (omega arith) (λ i m. h (suc i) (omega arith)) in
    rw (a, b) refl

-- the places of the boundaries by rank
module _ (bs : List Boundary) where
  pub places_count : length (places_of bs) ≡ length bs
  unfolding places_of
  places_count = sort-length (ends_le bs) (up_from 0 (length bs)) ∙ up-length 0 (length bs)

  pub places-perm : Permᴰ (up_from 0 (length bs)) (places_of bs)
  unfolding places_of
  places-perm = sort-perm (ends_le bs) (up_from 0 (length bs))

  pub place-below : (i : ℕ) → i < length bs → get_or (places_of bs) i 0 < length bs
  place-below i h =
      let c = places_count in
      let m = perm-mem (Permᴰ.symm places-perm) (get_d-mem (places_of bs) 0 i (omega arith)) in
      let u = up_mem 0 (length bs) m in
      omega (arith, u.1)

  -- an array that has them first
  pub record ByRank (order : List ℕ) : Type 0 where
    pub each : (i : ℕ) → i < length bs → get_or order i 0 ≡ get_or (places_of bs) i 0

  pub rank_below : {order : List ℕ} → ByRank order → (i : ℕ) → i < length bs → get_or order i 0 < length bs
  rank_below r i h = rw (r.each i h) (place-below i h)

  pub by_rank : (old : List ℕ) → length bs ≤ length old → ByRank (splice old 0 (places_of bs))
  by_rank old h = record { each = go }
    where
      go : (i : ℕ) → i < length bs → get_or (splice old 0 (places_of bs)) i 0 ≡ get_or (places_of bs) i 0
      go i m =
          let c = places_count in
          let z : 0 + i ≡ i = zero-add i in
          ap (λ (k : ℕ). get_or (splice old 0 (places_of bs)) k 0) (sym z)
          ∙ (sym (part_at (splice old 0 (places_of bs)) 0 (length (places_of bs)) i (omega arith))
          ∙ ap (λ (l : List ℕ). get_or l i 0) (splice-same old 0 (places_of bs) (omega arith)))

  pub places-ranked : {order : List ℕ} → ByRank order → places_of bs ≡ map (λ i. get_or order i 0) (up_from 0 (length bs))
  places-ranked {order} r =
      sym (map-places (places_of bs) 0)
      ∙ (ap (λ (n : ℕ). map (λ i. get_or (places_of bs) i 0) (up_from 0 n)) places_count
      ∙ map-ext (λ i. get_or (places_of bs) i 0) (λ i. get_or order i 0) (up_from 0 (length bs))
      (λ i m. let u = up_mem 0 (length bs) m in sym (r.each i (omega (arith, u.1)))))

  -- the canonical copies, by rank
  pub copies-ranked : {order : List ℕ} → ByRank order → copies_of bs ≡ map (λ i. canon (get_or bs (get_or order i 0) no_boundary)) (up_from 0 (length bs))
  copies-ranked {order} r =
      copies-places bs
      ∙ (ap (map (λ i. canon (get_or bs i no_boundary))) (places-ranked r)
      ∙ map-map (λ i. canon (get_or bs i no_boundary)) (λ i. get_or order i 0) (up_from 0 (length bs)))

-- sorting places by the packed ends of the records
module _ (s : List ℕ) (at : ℕ) (bs : List Boundary) (first second : List ℕ) (keys : KeysOf s at boundary_size (length bs) first second)
    (fits : All BoundaryFits bs) (ends : (k : ℕ) → k < length bs → (get_or bs k no_boundary).ends ≡ span_at s (at + k * boundary_size)) where
  first_of : (k : ℕ) → k < length bs → get_or first k 0 ≡ pack_first (canonical (get_or bs k no_boundary).ends)
  first_of k h = keys.each_first k h ∙ ap (λ (e : Span). pack_first (canonical e)) (sym (ends k h))

  second-of : (k : ℕ) → k < length bs → get_or second k 0 ≡ pack_second (canonical (get_or bs k no_boundary).ends)
  second-of k h = keys.each-second k h ∙ ap (λ (e : Span). pack_second (canonical e)) (sym (ends k h))

  two-alike : (x y : ℕ) → x < length bs → y < length bs → by_two first second x y ≡ ends_le bs x y
  unfolding by_two
  two-alike x y h k =
      rw (first_of x h, second-of x h, first_of y k, second-of y k)
      (sym (ends-packed (get_or bs x no_boundary) (get_or bs y no_boundary) (all-at bs x no_boundary fits h).ends (all-at bs y no_boundary fits k).ends))

  pub order-places : sort (by_two first second) (up_from 0 (length bs)) ≡ places_of bs
  unfolding places_of
  order-places = sort-alike (by_two first second) (ends_le bs) (up_from 0 (length bs))
      (λ x y m n. let u = up_mem 0 (length bs) m in let v = up_mem 0 (length bs) n in two-alike x y (omega (arith, u.1)) (omega (arith, v.1)))

  pub order-ranked : (old : List ℕ) → length bs ≤ length old → ByRank bs (splice old 0 (sort (by_two first second) (up_from 0 (length bs))))
  order-ranked old h = rw order-places (by_rank bs old h)

-- boundaries with their spans, by place
pub zip-at : (bs : List Boundary) (ss : List Span) → length bs ≡ length ss → (i : ℕ)
    → get_or (zip_with item_of bs ss) i no_item ≡ item_of (get_or bs i no_boundary) (get_or ss i no_span)
unfolding zip_with
zip-at [] [] e i = refl
zip-at [] (s ∷ ss) e i = absurd (omega arith)
zip-at (b ∷ bs) [] e i = absurd (omega arith)
zip-at (b ∷ bs) (s ∷ ss) e zero = refl
zip-at (b ∷ bs) (s ∷ ss) e (suc i) = zip-at bs ss (omega arith) i

pub zip_length : (bs : List Boundary) (ss : List Span) → length bs ≡ length ss → length (zip_with item_of bs ss) ≡ length bs
unfolding zip_with
zip_length [] ss e = refl
zip_length (b ∷ bs) [] e = absurd (omega arith)
zip_length (b ∷ bs) (s ∷ ss) e = ap suc (zip_length bs ss (omega arith))

-- the listing, by place
module _ (j : Job) (ss : List Span) (e : length j.boundaries ≡ length ss) where
  abbrev pub item_at : ℕ → Item
  item_at k = item_of (get_or j.boundaries k no_boundary) (get_or ss k no_span)

  abbrev items : List Item
  items = zip_with item_of j.boundaries ss

  key-item : (i : Item) → item_key (canon_item i) ≡ item_key i
  unfolding canon_item
  key-item i = key-canon i.boundary

  places-alike : (i k : ℕ) → by_place (by_key item_key) items no_item i k ≡ ends_le j.boundaries i k
  places-alike i k = rw (zip-at j.boundaries ss e i, zip-at j.boundaries ss e k) refl

  items-places : sort (by_place (by_key item_key) items no_item) (up_from 0 (length items)) ≡ places_of j.boundaries
  unfolding places_of
  items-places = rw (zip_length j.boundaries ss e)
      (sort-alike (by_place (by_key item_key) items no_item) (ends_le j.boundaries) (up_from 0 (length j.boundaries)) (λ x y m n. places-alike x y))

  pub listed-places : listing_of j ss ≡ map (λ k. canon_item (item_at k)) (places_of j.boundaries)
  unfolding items_of
  listed-places =
      sort-map canon_item (by_key item_key) (by_key item_key) (λ a b. rw (key-item a, key-item b) refl) items
      ∙ (ap (map canon_item) (sort-places (by_key item_key) items no_item ∙ ap (map (λ k. get_or items k no_item)) items-places)
      ∙ (map-map canon_item (λ k. get_or items k no_item) (places_of j.boundaries)
      ∙ map-ext (λ k. canon_item (get_or items k no_item)) (λ k. canon_item (item_at k)) (places_of j.boundaries)
      (λ k m. ap canon_item (zip-at j.boundaries ss e k))))

  pub listed-length : length (listing_of j ss) ≡ length j.boundaries
  listed-length = ap length listed-places ∙ (length-map (places_of j.boundaries) (λ k. canon_item (item_at k)) ∙ places_count j.boundaries)

  pub listed_at : (i : ℕ) → i < length j.boundaries → get_or (listing_of j ss) i no_item ≡ canon_item (item_at (get_or (places_of j.boundaries) i 0))
  listed_at i h =
      let c = places_count j.boundaries in
      ap (λ (l : List Item). get_or l i no_item) listed-places ∙ map_at (λ k. canon_item (item_at k)) (places_of j.boundaries) i 0 no_item (omega arith)

  -- the spans, canonical and by rank
  pub spans-places : spans_of (listing_of j ss) ≡ map (λ k. canonical (get_or ss k no_span)) (places_of j.boundaries)
  unfolding canon_item
  spans-places = ap (map (λ (i : Item). i.span)) listed-places ∙ map-map (λ (i : Item). i.span) (λ k. canon_item (item_at k)) (places_of j.boundaries)

  spans-perm : Permᴰ (map canonical ss) (map canonical (spans_of (listing_of j ss)))
  spans-perm =
      let a : map canonical ss ≡ map (λ k. canonical (get_or ss k no_span)) (up_from 0 (length j.boundaries))
      = ap (map canonical) (sym (map-places ss no_span))
      ∙ (map-map canonical (λ k. get_or ss k no_span) (up_from 0 (length ss))
      ∙ ap (λ (n : ℕ). map (λ k. canonical (get_or ss k no_span)) (up_from 0 n)) (sym e)) in
      let b : map canonical (spans_of (listing_of j ss)) ≡ map (λ k. canonical (get_or ss k no_span)) (places_of j.boundaries)
      = ap (map canonical) spans-places ∙ (map-map canonical (λ k. canonical (get_or ss k no_span)) (places_of j.boundaries)
      ∙ map-ext (λ k. canonical (canonical (get_or ss k no_span))) (λ k. canonical (get_or ss k no_span)) (places_of j.boundaries)
      (λ k m. canonical-again (get_or ss k no_span))) in
      rw (a, b) (Permᴰ.map (λ k. canonical (get_or ss k no_span)) (places-perm j.boundaries))

  -- labels and the number of region pairs are those of the listing's spans
  module _ (dirs : List ℕ) (g : Grid) where
    pub labels-ranked : area_labels dirs g ss ≡ area_labels dirs g (spans_of (listing_of j ss))
    labels-ranked = labels-depend-on-the-set dirs g ss (spans_of (listing_of j ss)) (perm_same spans-perm)

    pub records-ranked : length (records dirs g ss) ≡ length (records dirs g (spans_of (listing_of j ss)))
    records-ranked = records-count dirs g ss (spans_of (listing_of j ss)) spans-perm
