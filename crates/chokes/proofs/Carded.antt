-- What Area cards leaves at each of its returns.
use mathlib.Core.Path.{◌≡◌, refl, sym, ◌∙◌, ap, subst}
use mathlib.Core.List.{List}
use mathlib.Core.Option.{none}
use Prim.Native.Nat.{ℕ, ◌+◌, ◌*◌, ◌-◌, ◌≤◌, ◌<◌}
use native.Mathlib.Omega.{arith}
use lib.ListN.{length, get_or, take, drop}
use Rattle.wire.specs.Bytes.{splice}
use Rattle.position.specs.declared.Span.{Span}
use Rattle.format.specs.Decode.{decode}
use Rattle.format.specs.declared.header.Header.{Header}
use Rattle.grid.specs.Cells.{Grid, map_of, size}
use Rattle.grid.specs.Directions.{directions_of}
use Rattle.grid.proofs.Directions.{directions-eight}
use Rattle.areas.specs.Areas.{area_labels, area_count}
use Rattle.areas.specs.Spans.{spans_in}
use Rattle.areas.specs.Words.{word, labels_in, labelled}
use Rattle.areas.proofs.Areas.{area-labels-length, label-at-most}
use Rattle.areas_components.proofs.LabelWords.{area-count-few, area-label-small}
use Rattle.context.specs.Cards.{card_size, cards}
use Rattle.context_cards.specs.Filling.{Fillable}
use Rattle.context.proofs.Cards.{cards-long}
use Rattle.checks.specs.Numbers.{slice_too_short}
use Rattle.checks.specs.Checks.{first_refusal}
use Rattle.checks_calls.specs.Refusals.{reduce_checks}
use Rattle.results.specs.Rules.{grid_of}
use Rattle.results.specs.Results.{work_size, max_pairs, own_ends, cards_of, cards_with, left_by}
use Rattle.results.specs.Returns.{FirstAnswer, PairAnswer, many, few, Finished}
use Rattle.results.specs.Calls.{cards_result}
use Rattle.results.proofs.Results.{writing-first, writing-many, writing-finished}
use Rattle.analysis.specs.Bridging.{AreasWithin}
use Rattle.analysis.specs.Plans.{Headed, OwnJob, OwnEnds}
use Rattle.analysis.proofs.Bridging.{table-inside}
use Rattle.analysis.proofs.Headed.{headed-laid, headed-cells}
use Rattle.analysis.proofs.Mapped.{map-cells, map_is}
use Rattle.analysis.proofs.Calling.{headed-work}
use Rattle.analysis.proofs.OwnEnds.{own-labels, own-areas, own-records}
use Rattle.analysis.proofs.Telling.{label-read, all_read}
use Rattle.analysis.proofs.Within.{parted-many, parted-few}
use Rattle.chokes.specs.Carding.{AreasFound, CellsLabelled, cards_in}

-- a partition by the spans in the array is one by the boundaries' own ends
pub own-found : {s : List ℕ} {h : Header} {work : List ℕ} (m : OwnJob s h work) {n count : ℕ} (e : n ≡ h.counts.width * h.counts.height)
    (k : count ≡ h.counts.boundaries) {ends : List ℕ} (o : OwnEnds s ends) (dirs : List ℕ) {after : List ℕ} {areas pairs : ℕ}
    → AreasWithin max_pairs dirs (map_of h.counts.width h.counts.height (take (48 + n - 48) (drop 48 s))) (spans_in ends count) work after areas pairs
    → AreasFound dirs (decode s) work after areas pairs
own-found m e k o dirs r = rw (← own-records m e k o dirs, ← own-labels m e k o dirs, ← own-areas m e k o dirs) r

-- the cards of the labels in work
module _ {s : List ℕ} {h : Header} {areas : ℕ} {work : List ℕ} (y : CellsLabelled s h areas work) where
  abbrev headed : Headed s h
  headed = y.headed

  cells-long : length (decode s).cells ≡ h.counts.width * h.counts.height
  cells-long = omega (arith, headed-work headed)

  module _ {n : ℕ} (e : n ≡ h.counts.width * h.counts.height) where
    abbrev cells : List ℕ
    cells = take (48 + n - 48) (drop 48 s)

    cells_are : cells ≡ (decode s).cells
    cells_are = map-cells headed.header (headed-laid headed) n e

    pub cards-fillable : {count : ℕ} → count ≡ areas → {cards : List ℕ} → card_size * count ≤ length cards
        → Fillable h.counts.width cells work count cards
    cards-fillable f room = rw f (record {
      wide = omega (arith, (headed-laid headed).within.width_some);
      few = rw cells_are (omega (arith, cells-long, headed-cells headed));
      long = rw cells_are y.long;
      areas-few = rw cells_are y.few;
      each = rw cells_are y.each;
      room = omega (arith, f, room);
    })

    cards-here : cards (map_of h.counts.width h.counts.height cells) (labels_in work (length cells)) areas ≡ cards_in s work areas
    cards-here =
        ap (λ (g : Grid). cards g (labels_in work (length cells)) areas) (map_is headed.header (headed-laid headed) n e)
        ∙ ap (λ (l : List ℕ). cards (grid_of (decode s)) (labels_in work (length l)) areas) cells_are

    -- they are written
    pub cards-whole : {count : ℕ} → count ≡ areas → {needed : ℕ} → needed ≡ card_size * count → {before after : List ℕ} → needed ≤ length before
        → ((height : ℕ) → after ≡ splice before 0 (cards (map_of h.counts.width height cells) (labels_in work (length cells)) count))
        → Finished slice_too_short (cards_in s work areas) before after 0 needed
    cards-whole f d {before} room w =
        let long = cards-long (grid_of (decode s)) (labels_in work (length (decode s).cells)) areas in
        record {
          long = omega (arith, d, f, long);
          written = λ l. (
            refl,
            w h.counts.height
                ∙ (ap (λ (k : ℕ). splice before 0 (cards (map_of h.counts.width h.counts.height cells) (labels_in work (length cells)) k)) f
                ∙ ap (splice before 0) cards-here),
          );
          unwritten = λ l. absurd (omega (arith, d, f, long));
        }

  -- there is no room for them
  pub cards-short : {count : ℕ} → count ≡ areas → {needed : ℕ} → needed ≡ card_size * count → {before : List ℕ} → length before < needed
      → Finished slice_too_short (cards_in s work areas) before before slice_too_short needed
  cards-short f d l =
      let long = cards-long (grid_of (decode s)) (labels_in work (length (decode s).cells)) areas in
      record { long = omega (arith, d, f, long); written = λ w. absurd (omega (arith, d, f, long)); unwritten = λ w. (refl, refl) }

-- what the partition leaves, where the region pairs are not too many
module _ (dirs s work : List ℕ) {after : List ℕ} {areas pairs : ℕ} (y : AreasFound dirs (decode s) work after areas pairs) (l : pairs ≤ max_pairs) {h : Header}
    (d : Headed s h) where
  abbrev grid : Grid
  grid = grid_of (decode s)

  abbrev ends : List Span
  ends = own_ends (decode s)

  abbrev labels : List ℕ
  labels = area_labels dirs grid ends

  areas-are : areas ≡ area_count dirs grid ends
  areas-are = y.told (parted-few y l)

  grid-few : size grid ≤ 1048576
  grid-few = omega (arith, headed-work d, headed-cells d)

  labels-long : length labels ≡ size grid
  labels-long = area-labels-length dirs grid ends

  small : (i : ℕ) → i < length labels → get_or labels i 0 < 4294967296
  small i k = area-label-small dirs grid ends grid-few i (omega (arith, labels-long))

  -- the cards of these labels are the call's
  pub cards-are : cards_in s after areas ≡ cards_of dirs (decode s)
  unfolding cards_of
  cards-are =
      ap (λ (k : ℕ). cards_in s after k) areas-are
      ∙ (ap (λ (w : List ℕ). cards grid (labels_in w (size grid)) (area_count dirs grid ends)) y.work-is
      ∙ (ap (λ (k : ℕ). cards grid (labels_in (labelled labels work) k) (area_count dirs grid ends)) (sym labels-long)
      ∙ ap (λ (ls : List ℕ). cards grid ls (area_count dirs grid ends)) (all_read labels work small)))

  pub cells-labelled : CellsLabelled s h areas after
  cells-labelled = record {
    headed = d;
    long = rw y.work-is (omega (arith, labels-long, table-inside labels work));
    few = omega (arith, areas-are, area-count-few dirs grid ends grid-few);
    each = λ i k.
        let e = ap (λ (w : List ℕ). word w i) y.work-is ∙ label-read labels work small i (omega (arith, labels-long)) in
        omega (arith, e, areas-are, label-at-most dirs grid ends i k);
  }

module _ (dirs s work out : List ℕ) where
  -- a refusal of the input, and 21
  pub cards-first : {number detail : ℕ} → FirstAnswer (first_refusal (reduce_checks s)) (work_size (decode s)) (length work) number detail → 0 < number
      → left_by number detail work out ≡ cards_with dirs s work out
  unfolding cards_with
  cards-first f h = writing-first dirs slice_too_short (cards_of dirs (decode s)) (reduce_checks s) (decode s) (own_ends (decode s)) work out f h

  module _ (e : first_refusal (reduce_checks s) ≡ none) (w : work_size (decode s) ≤ length work) {after : List ℕ} {areas pairs : ℕ}
      (y : AreasFound dirs (decode s) work after areas pairs) where
    -- 13
    pub cards-many : {number detail : ℕ} → PairAnswer pairs number detail → 0 < number → left_by number detail after out ≡ cards_with dirs s work out
    unfolding cards_with
    cards-many (many h p q) l = rw (p, q, y.work-is)
        (writing-many dirs slice_too_short (cards_of dirs (decode s)) (reduce_checks s) (decode s) (own_ends (decode s)) work out e w (parted-many y h))
    cards-many (few h p q) l = absurd (omega arith)

    -- 31, or success
    pub cards-done : pairs ≤ max_pairs → {h : Header} → Headed s h → {written : List ℕ} {number detail : ℕ}
        → Finished slice_too_short (cards_in s after areas) out written number detail → left_by number detail after written ≡ cards_with dirs s work out
    unfolding cards_with
    cards-done l d {written} {number} {detail} f = rw y.work-is
        (writing-finished dirs slice_too_short (cards_of dirs (decode s)) (reduce_checks s) (decode s) (own_ends (decode s)) work out e w (parted-few y l)
        (subst (λ (bs : List ℕ). Finished slice_too_short bs out written number detail) (cards-are dirs s work y l d) f))

-- with the eight directions it is the call's
pub cards-as : (s work out : List ℕ) → cards_with (directions_of 495) s work out ≡ cards_result s work out
unfolding cards_result
cards-as s work out = ap (λ (dirs : List ℕ). cards_with dirs s work out) directions-eight
