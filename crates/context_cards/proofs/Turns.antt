-- The pass over the cells: what a cell does to the cards, and what they are in the end.
use mathlib.Core.Path.{◌≡◌, refl, sym, ◌∙◌, ap, subst}
use mathlib.Core.Logic.{by_cases}
use mathlib.Core.Bool.{true, false}
use mathlib.Core.List.{List, [], ◌∷◌, ◌++◌, flat_map, append-nil}
use Prim.Native.Nat.{ℕ, zero, suc, ◌+◌, ◌*◌, ◌-◌, ◌≤◌, ◌<◌}
use native.Mathlib.Omega.{arith}
use native.Mathlib.Decide.{ℕ_discrete, dec_lt}
use borrow.Author.Tests.{eq-eqb, ne_eqb}
use lib.Dec.{eqb}
use lib.ListN.{length, take, drop, replicate, length-replicate, take-append-drop}
use Rattle.lists.proofs.Flat.{flat_map-append}
use Rattle.order.specs.Lists.{keep, up_from}
use Rattle.order.proofs.Numbers.{up-last}
use Rattle.wire.specs.Bytes.{part, splice, bytes, words}
use Rattle.wire.proofs.Parts.{length_part, part_join, length-splice, drop-splice, splice-same, splice-before, splice-after, part-part}
use Rattle.grid.specs.Cells.{Grid, column_of, row_of, cell_at}
use Rattle.areas.specs.Words.{word, labels_in}
use Rattle.context.specs.RegionStats.{region_stats}
use Rattle.context.specs.Held.{CellRoom, stats_in, stats_with_cell, stats_after, first_cells}
use Rattle.context.specs.declared.stats.RegionStats.{RegionStats as StatsHeld}
use Rattle.context.proofs.CountLoop.{count_room, count_next, count-end}
use Rattle.context.specs.Cards.{card_size, card_words, card_bytes, cards}
use Rattle.context_cards.specs.Filling.{card_place, card_read, CardRoom, cell_counted, Zeroed, CardsAfter}
use Rattle.context_cards.proofs.Writing.{card-length}
use Rattle.context_cards.proofs.Reading.{card-back}
use Rattle.context_cards.proofs.Bounds.{after-fits}

-- zeros, all and in part
zeros-part : (i n m : ℕ) → i + n ≤ m → part (replicate m 0) i n ≡ replicate n 0
unfolding part
zeros-part zero n m l = zeros-take n m (omega arith)
  where
    zeros-take : (n m : ℕ) → n ≤ m → ◌≡◌ {A = List ℕ} (take n (replicate m 0)) (replicate n 0)
    zeros-take zero m l = refl
    zeros-take (suc n) zero l = absurd (omega arith)
    zeros-take (suc n) (suc m) l = ap (λ (t : List ℕ). 0 ∷ t) (zeros-take n m (omega arith))
zeros-part (suc i) n zero l = absurd (omega arith)
zeros-part (suc i) n (suc m) l = zeros-part i n m (omega arith)

-- zeros are the card of no cell
no-card : (g : Grid) (ls : List ℕ) (r : ℕ) → replicate card_size 0 ≡ card_bytes (stats_in (stats_after g (first_cells ls r 0)))
unfolding card_bytes card_words stats_after first_cells keep up_from words flat_map bytes
no-card g ls r = refl

module _ (g : Grid) (ls : List ℕ) (areas : ℕ) {start now : List ℕ} {to : ℕ} (room : card_size * areas ≤ length start) (Z : Zeroed start now to)
    (all : to ≡ card_size * areas) where
  zeros-are : now ≡ splice start 0 (replicate (card_size * areas) 0)
  zeros-are = Z.zeros ∙ ap (λ (k : ℕ). splice start 0 (replicate k 0)) all

  zeros-fit : 0 + length {A = ℕ} (replicate (card_size * areas) 0) ≤ length start
  zeros-fit = omega (arith, length-replicate {A = ℕ} (card_size * areas) 0)

  zeros-there : part now 0 (card_size * areas) ≡ replicate (card_size * areas) 0
  zeros-there =
      ap (λ (t : List ℕ). part t 0 (card_size * areas)) zeros-are
      ∙ (ap (part (splice start 0 (replicate (card_size * areas) 0)) 0) (sym (length-replicate {A = ℕ} (card_size * areas) 0))
      ∙ splice-same start 0 (replicate (card_size * areas) 0) zeros-fit)

  pub turn-start : CardsAfter g ls areas 0 start now
  turn-start = record {
    long = ap length zeros-are ∙ length-splice start 0 (replicate (card_size * areas) 0) zeros-fit;
    behind = ap (drop (card_size * areas)) zeros-are
        ∙ drop-splice start 0 (replicate (card_size * areas) 0) zeros-fit (card_size * areas) (omega (arith, length-replicate {A = ℕ} (card_size * areas) 0));
    card-is = λ k l.
        let z : 0 + card_size * k ≡ card_size * k = omega arith in
        ap (λ (i : ℕ). part now i card_size) (sym z)
        ∙ (sym (part-part now 0 (card_size * areas) (card_size * k) card_size (omega arith))
        ∙ (ap (λ (t : List ℕ). part t (card_size * k) card_size) zeros-there
        ∙ (zeros-part (card_size * k) card_size (card_size * areas) (omega arith) ∙ no-card g ls (k + 1))));
  }

abbrev card-of : Grid → List ℕ → ℕ → ℕ → List ℕ
card-of g ls r i = card_bytes (stats_in (stats_after g (first_cells ls r i)))

module _ {g : Grid} (labels : List ℕ) {n areas i : ℕ} {start now : List ℕ} (few : n ≤ 1048576) (room : card_size * areas ≤ length start) (on : i < n)
    (C : CardsAfter g (labels_in labels n) areas i start now) {v : ℕ} (label : v ≡ word labels i) (most : v ≤ areas) where
  abbrev ls : List ℕ
  ls = labels_in labels n

  -- the card of the cell's label, if it has one
  own-card : 0 < v → card_read now (card_place v) ≡ stats_after g (first_cells ls v i)
  own-card some =
      let e : v - 1 + 1 ≡ v = omega arith in
      card-back now (card_place v) (stats_after g (first_cells ls v i)) (after-fits g ls v i (omega arith))
      (C.card-is (v - 1) (omega arith) ∙ ap (λ (r : ℕ). card-of g ls r i) e)

  pub turn-room : CardRoom now v
  turn-room = record {
    within = omega (arith, C.long);
    more = λ some. count_room g labels n v (own-card some) (omega arith);
  }

  -- the card of another label
  other-card : (r : ℕ) → (r ≡ v → ⊥) → card-of g ls r i ≡ card-of g ls r (i + 1)
  other-card r d =
      let no : eqb r v ≡ false = ne_eqb r v d in
      ap (λ (s : StatsHeld). card_bytes (stats_in s))
      (count_next g labels n r {i = i} {s = stats_after g (first_cells ls r i)} refl on label {t = stats_after g (first_cells ls r i)} (rw no))

  module _ {x y : ℕ} (column : x ≡ column_of g i) (row : y ≡ row_of g i) where
    next-card : 0 < v → stats_with_cell (card_read now (card_place v)) x y (cell_at g i) ≡ stats_after g (first_cells ls v (i + 1))
    next-card some =
        let yes : eqb v v ≡ true = eq-eqb v v refl in
        count_next g labels n v (own-card some) on label (rw (column, row, yes))

    turn-out : v ≡ 0 → CardsAfter g ls areas (i + 1) start now
    turn-out z = record {
      long = C.long;
      behind = C.behind;
      card-is = λ k l. C.card-is k l ∙ other-card (k + 1) (λ e. omega arith);
    }

    module _ (some : 0 < v) {t : List ℕ} (e : t ≡ splice now (card_place v) (card-of g ls v (i + 1))) where
      sized : length (card-of g ls v (i + 1)) ≡ card_size
      sized = card-length (stats_after g (first_cells ls v (i + 1)))

      fits : card_place v + length (card-of g ls v (i + 1)) ≤ length now
      fits = omega (arith, sized, C.long)

      turn_in : CardsAfter g ls areas (i + 1) start t
      turn_in = record {
        long = ap length e ∙ (length-splice now (card_place v) (card-of g ls v (i + 1)) fits ∙ C.long);
        behind = ap (drop (card_size * areas)) e
            ∙ (drop-splice now (card_place v) (card-of g ls v (i + 1)) fits (card_size * areas) (omega (arith, sized)) ∙ C.behind);
        card-is = λ k l.
            by_cases (ℕ_discrete (k + 1) v)
            (λ q.
            let here : card_size * k ≡ card_place v = omega arith in
            ap (λ (s : List ℕ). part s (card_size * k) card_size) e
            ∙ (ap (λ (j : ℕ). part (splice now (card_place v) (card-of g ls v (i + 1))) j card_size) here
            ∙ (ap (part (splice now (card_place v) (card-of g ls v (i + 1))) (card_place v)) (sym sized)
            ∙ (splice-same now (card_place v) (card-of g ls v (i + 1)) fits ∙ ap (λ (r : ℕ). card-of g ls r (i + 1)) (sym q)))))
            (λ q.
            ap (λ (s : List ℕ). part s (card_size * k) card_size) e
            ∙ (by_cases (dec_lt k v)
            (λ b. splice-before now (card_place v) (card-of g ls v (i + 1)) fits (card_size * k) card_size (omega (arith, q)))
            (λ b. splice-after now (card_place v) (card-of g ls v (i + 1)) fits (card_size * k) card_size (omega (arith, sized, q)))
            ∙ (C.card-is k l ∙ other-card (k + 1) q)));
      }

    -- one cell more
    pub turn : {t : List ℕ} → t ≡ cell_counted now v x y (cell_at g i) → CardsAfter g ls areas (i + 1) start t
    unfolding cell_counted
    turn {t} e =
        by_cases (ℕ_discrete v 0)
        (λ z. let yes : eqb v 0 ≡ true = eq-eqb v 0 z in rw (e, yes) (turn-out z))
        (λ d.
        let no : eqb v 0 ≡ false = ne_eqb v 0 d in
        let some : 0 < v = omega (arith, d) in
        turn_in some (e ∙ (rw no (ap (λ (s : StatsHeld). splice now (card_place v) (card_bytes (stats_in s))) (next-card some)))))

-- from where the pass starts, and from what stood before it
pub turn_alone : {g : Grid} {ls : List ℕ} {areas i : ℕ} {start now : List ℕ} → CardsAfter g ls areas i start now → CardsAfter g ls areas i now now
turn_alone C = record { long = refl; behind = refl; card-is = C.card-is }

pub turn-since : {g : Grid} {ls : List ℕ} {areas i j : ℕ} {start mid now : List ℕ} → CardsAfter g ls areas i start mid → CardsAfter g ls areas j mid now
    → CardsAfter g ls areas j start now
turn-since C D = record { long = D.long ∙ C.long; behind = D.behind ∙ C.behind; card-is = D.card-is }

-- cards side by side
cards-joined : (f : ℕ → List ℕ) (s : List ℕ) (n : ℕ) → ((k : ℕ) → k < n → part s (card_size * k) card_size ≡ f (k + 1))
    → part s 0 (card_size * n) ≡ flat_map f (up_from 1 n)
unfolding part flat_map up_from
cards-joined f s zero h = refl
cards-joined f s (suc n) h =
    let e : card_size * suc n ≡ card_size * n + card_size = omega arith in
    let z : 0 + card_size * n ≡ card_size * n = omega arith in
    let w : n + 1 ≡ 1 + n = omega arith in
    ap (part s 0) e
    ∙ (part_join s 0 (card_size * n) card_size
    ∙ (ap (λ (t : List ℕ). t ++ part s (0 + card_size * n) card_size) (cards-joined f s n (λ k l. h k (omega arith)))
    ∙ (ap (λ (k : ℕ). flat_map f (up_from 1 n) ++ part s k card_size) z
    ∙ (ap (λ (t : List ℕ). flat_map f (up_from 1 n) ++ t) (h n (omega arith) ∙ (ap f w ∙ sym (append-nil (f (1 + n)))))
    ∙ sym (ap (flat_map f) (up-last 1 n) ∙ flat_map-append f (up_from 1 n) ((1 + n) ∷ []))))))

-- after all cells
pub turn_end : {g : Grid} (labels : List ℕ) {n areas i : ℕ} {start now : List ℕ} → card_size * areas ≤ length start → i ≡ n
    → CardsAfter g (labels_in labels n) areas i start now → now ≡ splice start 0 (cards g (labels_in labels n) areas)
unfolding cards part splice
turn_end {g} labels {n} {areas} {i} {start} {now} room e C =
    let ls = labels_in labels n in
    let joined : part now 0 (card_size * areas) ≡ cards g ls areas =
    cards-joined (λ r. card_bytes (region_stats g ls r)) now areas
    (λ k l. C.card-is k l ∙ ap card_bytes (count-end g labels n (k + 1) {i = i} {s = stats_after g (first_cells ls (k + 1) i)} refl e)) in
    let sized : card_size * areas ≡ 0 + length (cards g ls areas) =
    omega (arith, ap length joined, length_part now 0 (card_size * areas) (omega (arith, C.long))) in
    sym (take-append-drop (card_size * areas) now)
    ∙ (ap (λ (t : List ℕ). t ++ drop (card_size * areas) now) joined
    ∙ (ap (λ (t : List ℕ). cards g ls areas ++ t) C.behind ∙ ap (λ (k : ℕ). cards g ls areas ++ drop k start) sized))

-- what a call on one cell leaves
pub counted_none : (s : List ℕ) (label column row cell : ℕ) → label ≡ 0 → s ≡ cell_counted s label column row cell
unfolding cell_counted
counted_none s label column row cell z = let yes : eqb label 0 ≡ true = eq-eqb label 0 z in rw yes

pub counted-one : (s : List ℕ) (label column row cell : ℕ) {at : ℕ} {x y : StatsHeld} {t : List ℕ} → (label ≡ 0 → ⊥) → at ≡ card_place label
    → x ≡ card_read s at → y ≡ stats_with_cell x column row cell → t ≡ splice s at (card_bytes (stats_in y)) → t ≡ cell_counted s label column row cell
unfolding cell_counted
counted-one s label column row cell {at} d p e f g =
    let no : eqb label 0 ≡ false = ne_eqb label 0 d in
    rw no (g ∙ (ap (λ (z : StatsHeld). splice s at (card_bytes (stats_in z))) (f ∙ ap (λ (z : StatsHeld). stats_with_cell z column row cell) e)
    ∙ ap (λ (k : ℕ). splice s k (card_bytes (stats_in (stats_with_cell (card_read s k) column row cell)))) p))

pub room-read : (s : List ℕ) (label : ℕ) {at : ℕ} {x : StatsHeld} → CardRoom s label → (label ≡ 0 → ⊥) → at ≡ card_place label → x ≡ card_read s at → CellRoom x
room-read s label R d p e = subst CellRoom (sym (e ∙ ap (card_read s) p)) (R.more (omega (arith, d)))
