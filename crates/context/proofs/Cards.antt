-- The bytes of the cards say of the areas what the request asks.
use mathlib.Core.Path.{◌≡◌, refl, sym, ◌∙◌, ap}
use mathlib.Core.Logic.{◌↔◌}
use mathlib.Core.Bool.{Bool, true, false, cond}
use mathlib.Core.List.{List, [], ◌∷◌, flat_map, Memᴰ}
use Prim.Native.Nat.{ℕ, zero, suc, ◌+◌, ◌*◌, ◌^◌, ◌≤◌, ◌<◌}
use native.Mathlib.Omega.{arith}
use native.Mathlib.Nat.{mod-le, div-le_self}
use lib.Dec.{eqb}
use lib.ListN.{length, get_or}
use Rattle.lists.specs.Rows.{rows, sum}
use Rattle.lists.proofs.Rows.{rows_same}
use Rattle.lists.proofs.Flat.{length-pieces}
use Rattle.order.specs.Lists.{keep, up_from}
use Rattle.order.proofs.Bools.{clash}
use Rattle.order.proofs.Keep.{keep-ext, keep-length}
use Rattle.order.proofs.Numbers.{up_mem, up-length}
use Rattle.wire.specs.Bytes.{part, number, number_at, u32_at, u32_bytes, words}
use Rattle.wire.proofs.Parts.{part_left, part_right, part-whole, part-part}
use Rattle.wire.proofs.Numbers.{length-bytes, number-bytes}
use Rattle.position.specs.declared.Span.{Span}
use Rattle.grid.specs.Cells.{Grid, size, walkable, elevation}
use Rattle.areas.specs.Areas.{area_labels, area_count, label_at, cell_count}
use Rattle.areas.proofs.Areas.{area-labels-length}
use Rattle.areas.proofs.Counts.{cell-count-some, cell-counts-sum}
use Rattle.context.specs.RegionStats.{RegionStats, region_cells, region_stats, left_of, top_of}
use Rattle.context.proofs.RegionStats.{region-cells-iff, stats-cells, in-box, box-tight, ramp-iff, elevations-sum}
use Rattle.context.specs.Cards.{card_size, card_words, card_bytes, cards}
use Rattle.context.specs.Card.{cells_of, InArea, LeastIn, GreatestIn, RampIn, CardSays, CardsSay}

-- One of pieces that are m long each.
pub piece-at : {A : Type 0} (m : ℕ) (f : A → List ℕ) → ((x : A) → length (f x) ≡ m) → (xs : List A) (k : ℕ) (d : A) → k < length xs
    → part (flat_map f xs) (m * k) m ≡ f (get_or xs k d)
unfolding flat_map
piece-at m f e [] k d h = absurd (omega arith)
piece-at m f e (x ∷ xs) zero d h =
    let z : m * 0 ≡ 0 = omega arith in
    let l : length (f x) ≡ m = e x in
    rw (z, ← l) (part_left (f x) (flat_map f xs) 0 (length (f x)) (omega arith) ∙ part-whole (f x))
piece-at m f e (x ∷ xs) (suc k) d h =
    let z : m * suc k ≡ length (f x) + m * k = omega (arith, e x) in
    rw z (part_right (f x) (flat_map f xs) (m * k) m ∙ piece-at m f e xs k d (omega arith))

-- A card is forty bytes long.
words-many : (g : Grid) (ls : List ℕ) (r : ℕ) → length (card_words (region_stats g ls r)) ≡ 10
unfolding card_words region_stats
words-many g ls r = refl

pub card-long : (g : Grid) (ls : List ℕ) (r : ℕ) → length (card_bytes (region_stats g ls r)) ≡ card_size
unfolding card_bytes words
card-long g ls r = length-pieces 4 u32_bytes (λ v. length-bytes 4 v) (card_words (region_stats g ls r)) ∙ ap (λ (k : ℕ). k * 4) (words-many g ls r)

pub cards-long : (g : Grid) (ls : List ℕ) (n : ℕ) → length (cards g ls n) ≡ card_size * n
unfolding cards
cards-long g ls n =
    length-pieces card_size (λ r. card_bytes (region_stats g ls r)) (λ r. card-long g ls r) (up_from 1 n) ∙ omega (arith, up-length 1 n)

-- A list that is not empty has a member.
member : (l : List ℕ) → 0 < length l → (i : ℕ) × Memᴰ i l
member [] h = absurd (omega arith)
member (x ∷ xs) h = (x, Memᴰ.head refl)

-- Each number of a card fits a u32.
module _ (g : Grid) (ls : List ℕ) (few : length ls ≤ 1048576) (r : ℕ) where
  abbrev cs : List ℕ
  cs = region_cells ls r

  abbrev stats : RegionStats
  stats = region_stats g ls r

  cells-few : length cs ≤ 1048576
  unfolding region_cells
  cells-few = omega (arith, keep-length (λ i. eqb r (label_at ls i)) (up_from 0 (length ls)), up-length 0 (length ls))

  level-few : (e : ℕ) → length (keep (λ i. eqb (elevation g i) e) cs) ≤ 1048576
  level-few e = omega (arith, keep-length (λ i. eqb (elevation g i) e) cs, cells-few)

  -- some cell has the label
  module _ (some : 0 < length cs) where
    first : (i : ℕ) × Memᴰ i cs
    first = member cs some

    column-few : (i : ℕ) → Memᴰ i cs → left_of g i + 8 < 256 ^ 4
    column-few i m = omega (arith, mod-le i g.width, ((region-cells-iff ls r i).0 m).0)

    row-few : (i : ℕ) → Memᴰ i cs → top_of g i + 8 < 256 ^ 4
    row-few i m = omega (arith, div-le_self i g.width, ((region-cells-iff ls r i).0 m).0)

    box-fits : (stats.min_x < 256 ^ 4) × (stats.min_y < 256 ^ 4) × (stats.max_x < 256 ^ 4) × (stats.max_y < 256 ^ 4)
    box-fits =
        let t = box-tight g ls r first.0 first.1 in
        let at_left = column-few t.0.0 t.0.1 in
        let at_top = row-few t.1.0 t.1.1 in
        let at_right = column-few t.2.0 t.2.1 in
        let at-bottom = row-few t.3.0 t.3.1 in
        (omega (arith, t.0.2), omega (arith, t.1.2), omega (arith, t.2.2), omega (arith, t.3.2))

    ramp-fits : (b : Bool) → cond b 1 0 < 256 ^ 4
    ramp-fits true = omega arith
    ramp-fits false = omega arith

    word_fits : (w : ℕ) → get_or (card_words stats) w 0 < 256 ^ 4
    unfolding card_words region_stats
    word_fits zero = omega (arith, cells-few)
    word_fits (suc zero) = box-fits.0
    word_fits (suc (suc zero)) = box-fits.1
    word_fits (suc (suc (suc zero))) = box-fits.2
    word_fits (suc (suc (suc (suc zero)))) = box-fits.3
    word_fits (suc (suc (suc (suc (suc zero))))) = ramp-fits stats.has_ramp
    word_fits (suc (suc (suc (suc (suc (suc zero)))))) = omega (arith, level-few 0)
    word_fits (suc (suc (suc (suc (suc (suc (suc zero))))))) = omega (arith, level-few 1)
    word_fits (suc (suc (suc (suc (suc (suc (suc (suc zero)))))))) = omega (arith, level-few 2)
    word_fits (suc (suc (suc (suc (suc (suc (suc (suc (suc zero))))))))) = omega (arith, level-few 3)
    word_fits (suc (suc (suc (suc (suc (suc (suc (suc (suc (suc w)))))))))) = omega arith

up_at : (a n k d : ℕ) → k < n → get_or (up_from a n) k d ≡ a + k
unfolding up_from
up_at a zero k d h = absurd (omega arith)
up_at a (suc n) zero d h = omega arith
up_at a (suc n) (suc k) d h = up_at (suc a) n k d (omega arith) ∙ (let e : suc a + k ≡ a + suc k = omega arith in e)

-- The card of label 1 + k, and a word of a card.
pub card-at : (g : Grid) (ls : List ℕ) (n k : ℕ) → k < n → part (cards g ls n) (card_size * k) card_size ≡ card_bytes (region_stats g ls (1 + k))
unfolding cards
card-at g ls n k h =
    piece-at card_size (λ r. card_bytes (region_stats g ls r)) (λ r. card-long g ls r) (up_from 1 n) k 0 (omega (arith, up-length 1 n))
    ∙ ap (λ (r : ℕ). card_bytes (region_stats g ls r)) (up_at 1 n k 0 h)

word_bytes : (g : Grid) (ls : List ℕ) (r w : ℕ) → w < 10
    → part (card_bytes (region_stats g ls r)) (4 * w) 4 ≡ u32_bytes (get_or (card_words (region_stats g ls r)) w 0)
unfolding card_bytes words
word_bytes g ls r w l = piece-at 4 u32_bytes (λ v. length-bytes 4 v) (card_words (region_stats g ls r)) w 0 (omega (arith, words-many g ls r))

-- Word w of the card of label 1 + k.
pub card-word : (g : Grid) (ls : List ℕ) → length ls ≤ 1048576 → (n k : ℕ) → k < n → 0 < length (region_cells ls (1 + k)) → (w : ℕ) → w < 10
    → u32_at (cards g ls n) (card_size * k + 4 * w) ≡ get_or (card_words (region_stats g ls (1 + k))) w 0
unfolding number_at
card-word g ls few n k h some w l =
    ap number (sym (part-part (cards g ls n) (card_size * k) card_size (4 * w) 4 (omega arith))
    ∙ (ap (λ (c : List ℕ). part c (4 * w) 4) (card-at g ls n k h) ∙ word_bytes g ls (1 + k) w l))
    ∙ number-bytes 4 (get_or (card_words (region_stats g ls (1 + k))) w 0) (word_fits g ls few (1 + k) some w)

-- A number that a test gives.
pub byte_one : (t : Bool) → (◌≡◌ {A = ℕ} (cond t 1 0) 1) ↔ (t ≡ true)
byte_one true = (λ h. refl, λ h. refl)
byte_one false = (λ h. absurd (omega arith), λ h. clash h refl)

pub byte-zero : (t : Bool) → (◌≡◌ {A = ℕ} (cond t 1 0) 0) ↔ (t ≡ true → ⊥)
byte-zero true = (λ h. absurd (omega arith), λ h. absurd (h refl))
byte-zero false = (λ h k. clash k refl, λ h. refl)

-- What a card says, by the labels of a list or by any numbers that are the same.
module _ (g : Grid) (ls : List ℕ) (whole : length ls ≡ size g) (label : ℕ → ℕ) (same : (i : ℕ) → i < size g → label i ≡ label_at ls i) (v : ℕ) where
  cells_are : cells_of g label v ≡ region_cells ls v
  unfolding cells_of region_cells
  cells_are = rw whole
      (keep-ext (λ i. eqb v (label i)) (λ i. eqb v (label_at ls i)) (up_from 0 (size g))
      (λ i m. ap (eqb v) (same i (omega (arith, up_mem 0 (size g) m)))))

  inside : {i : ℕ} → Memᴰ i (region_cells ls v) → InArea g label v i
  inside {i} m =
      let p = (region-cells-iff ls v i).0 m in
      let l : i < size g = omega (arith, p.0) in
      record { on = l; has = same i l ∙ p.1 }

  member_of : {i : ℕ} → InArea g label v i → Memᴰ i (region_cells ls v)
  member_of {i} a = (region-cells-iff ls v i).1 (omega (arith, a.on), sym (same i a.on) ∙ a.has)

  ramp-in : ((region_stats g ls v).has_ramp ≡ true) ↔ RampIn g label v
  ramp-in =
      let q = ramp-iff g ls v in (
        λ h. let w = q.0 h in record { at = w.0; inside = inside w.1; is = w.2 },
        λ (p : RampIn g label v). q.1 (p.at, member_of p.inside, p.is),
      )

  level : ℕ → ℕ
  level e = length (keep (λ i. eqb (elevation g i) e) (region_cells ls v))

  levels-four : level 0 + level 1 + level 2 + level 3 ≡ length (region_cells ls v)
  unfolding level region_stats sum up_from
  levels-four = omega (arith, elevations-sum g ls v)

  module _ (some : 0 < length (region_cells ls v)) (word : ℕ → ℕ)
      (is : (w : ℕ) → w < 10 → word w ≡ get_or (card_words (region_stats g ls v)) w 0) where
    level-is : (e : ℕ) → e < 4 → word (6 + e) ≡ level e
    unfolding card_words region_stats level up_from
    level-is zero l = is 6 (omega arith)
    level-is (suc zero) l = is 7 (omega arith)
    level-is (suc (suc zero)) l = is 8 (omega arith)
    level-is (suc (suc (suc zero))) l = is 9 (omega arith)
    level-is (suc (suc (suc (suc e)))) l = absurd (omega arith)

    -- the least, or the greatest, that the box has at one of its edges
    least-says : {f : ℕ → ℕ} {n m : ℕ} → m ≡ n → ((i : ℕ) → InArea g label v i → n ≤ f i) → (i : ℕ) × Memᴰ i (region_cells ls v) × (f i ≡ n)
        → LeastIn g label v f m
    least-says e below w = record { below = λ i a. omega (arith, e, below i a); at = w.0; inside = inside w.1; met = w.2 ∙ sym e }

    greatest-says : {f : ℕ → ℕ} {n m : ℕ} → m ≡ n → ((i : ℕ) → InArea g label v i → f i ≤ n) → (i : ℕ) × Memᴰ i (region_cells ls v) × (f i ≡ n)
        → GreatestIn g label v f m
    greatest-says e above w = record { above = λ i a. omega (arith, e, above i a); at = w.0; inside = inside w.1; met = w.2 ∙ sym e }

    pub card-says : CardSays g label v word
    unfolding card_words region_stats level
    card-says =
        let i = member (region_cells ls v) some in
        let tight = box-tight g ls v i.0 i.1 in
        let ramp : word 5 ≡ cond (region_stats g ls v).has_ramp 1 0 = is 5 (omega arith) in
        record {
          cells = is 0 (omega arith) ∙ ap length (sym cells_are);
          some = omega (arith, is 0 (omega arith), some);
          left = least-says (is 1 (omega arith)) (λ i a. (in-box g ls v i (member_of a)).0) tight.0;
          top = least-says (is 2 (omega arith)) (λ i a. (in-box g ls v i (member_of a)).1) tight.1;
          right = greatest-says (is 3 (omega arith)) (λ i a. (in-box g ls v i (member_of a)).2) tight.2;
          bottom = greatest-says (is 4 (omega arith)) (λ i a. (in-box g ls v i (member_of a)).3) tight.3;
          ramp = (
            λ h. ramp-in.0 ((byte_one (region_stats g ls v).has_ramp).0 (sym ramp ∙ h)),
            λ r. ramp ∙ (byte_one (region_stats g ls v).has_ramp).1 (ramp-in.1 r),
          );
          flat = (
            λ h r. (byte-zero (region_stats g ls v).has_ramp).0 (sym ramp ∙ h) (ramp-in.1 r),
            λ n. ramp ∙ (byte-zero (region_stats g ls v).has_ramp).1 (λ h. n (ramp-in.0 h)),
          );
          levels = λ e l. level-is e l ∙ ap (λ (cs : List ℕ). length (keep (λ i. eqb (elevation g i) e) cs)) (sym cells_are);
          levels-sum =
              omega (
                arith,
                is 0 (omega arith),
                level-is 0 (omega arith),
                level-is 1 (omega arith),
                level-is 2 (omega arith),
                level-is 3 (omega arith),
                levels-four,
              );
        }

-- The cards of all areas.
module _ (dirs : List ℕ) (g : Grid) (ss : List Span) (few : size g ≤ 1048576) where
  abbrev labels_in : List ℕ
  labels_in = area_labels dirs g ss

  abbrev count : ℕ
  count = area_count dirs g ss

  abbrev bytes_of : List ℕ
  bytes_of = cards g labels_in count

  labels-few : length labels_in ≤ 1048576
  labels-few = omega (arith, area-labels-length dirs g ss)

  -- each card has a cell
  pub card-some : (k : ℕ) → k < count → 0 < length (region_cells labels_in (1 + k))
  unfolding region_stats
  card-some k h = omega (arith, stats-cells g labels_in (1 + k), cell-count-some dirs g ss (1 + k) (omega arith) (omega arith))

  -- "The cell counts over all cards add up to the walkable cells, which the map defines."
  pub cells-sum : sum (rows count (λ k. u32_at bytes_of (card_size * k))) ≡ length (keep (walkable g) (up_from 0 (size g)))
  unfolding card_words
  cells-sum =
      ap sum (rows_same count (λ k. u32_at bytes_of (card_size * k)) (λ k. cell_count labels_in (suc k))
      (λ k h.
      let first : card_size * k ≡ card_size * k + 4 * 0 = omega arith in
      let next : 1 + k ≡ suc k = omega arith in
      ap (u32_at bytes_of) first
      ∙ (card-word g labels_in labels-few count k h (card-some k h) 0 (omega arith) ∙ (stats-cells g labels_in (1 + k) ∙ ap (cell_count labels_in) next))))
      ∙ cell-counts-sum dirs g ss

  pub cards-say : (label : ℕ → ℕ) → ((i : ℕ) → i < size g → label i ≡ label_at labels_in i) → CardsSay g label count bytes_of
  cards-say label same = record {
    long = cards-long g labels_in count;
    each = λ k h. card-says g labels_in (area-labels-length dirs g ss) label same (1 + k) (card-some k h) (λ w. u32_at bytes_of (card_size * k + 4 * w))
        (λ w l. card-word g labels_in labels-few count k h (card-some k h) w l);
    total = cells-sum;
  }
