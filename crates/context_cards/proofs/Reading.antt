-- What a card's bytes say is read back.
use mathlib.Core.Path.{◌≡◌, refl, sym, ◌∙◌, ap}
use mathlib.Core.Bool.{Bool, true, false, cond}
use mathlib.Core.List.{List, [], append-nil}
use Prim.Native.Nat.{ℕ, ◌+◌, ◌*◌, ◌≤◌, ◌<◌}
use native.Mathlib.Omega.{arith}
use lib.Dec.{eqb}
use lib.ListN.{length, get_or}
use lib.Seq.{drop-nil}
use Rattle.wire.specs.Bytes.{part, splice, number, number_at, u32_at, words}
use Rattle.wire.proofs.Parts.{part-part}
use Rattle.areas_components.proofs.LabelWords.{word_read}
use Rattle.context.specs.Held.{stats_in}
use Rattle.context.specs.declared.stats.RegionStats.{RegionStats as StatsHeld}
use Rattle.context.specs.Cards.{card_size, card_words, card_bytes}
use Rattle.context_cards.specs.Filling.{card_read, CardFits}

alone : (bs : List ℕ) → splice [] 0 bs ≡ bs
unfolding splice
alone bs = rw drop-nil (append-nil bs)

-- one of some words
word_at : (ws : List ℕ) (k : ℕ) → k < length ws → get_or ws k 0 < 4294967296 → number_at 4 (words ws) (4 * k) ≡ get_or ws k 0
unfolding words
word_at ws k l small = ap (λ (bs : List ℕ). number_at 4 bs (4 * k)) (sym (alone (words ws))) ∙ word_read [] ws k l small

-- one of the words that a part is
word_in : (s : List ℕ) (i n : ℕ) (ws : List ℕ) → part s i n ≡ words ws → 4 * length ws ≤ n → (k : ℕ) → k < length ws → get_or ws k 0 < 4294967296
    → u32_at s (i + 4 * k) ≡ get_or ws k 0
unfolding number_at
word_in s i n ws e room k l small = ap number (sym (part-part s i n (4 * k) 4 (omega arith)) ∙ ap (λ (bs : List ℕ). part bs (4 * k) 4) e) ∙ word_at ws k l small

flag-back : (t : Bool) → eqb (cond t 1 0) 1 ≡ t
flag-back true = refl
flag-back false = refl

flag_small : (t : Bool) → ◌<◌ (cond t 1 0) 4294967296
flag_small true = omega arith
flag_small false = omega arith

-- the statistics of a card
pub card-back : (s : List ℕ) (i : ℕ) (x : StatsHeld) → CardFits x → part s i card_size ≡ card_bytes (stats_in x) → card_read s i ≡ x
unfolding card_read card_bytes card_words
card-back s i x fits e =
    let at = word_in s i card_size (card_words (stats_in x)) e (omega arith) in
    let first-place : i ≡ i + 4 * 0 = omega arith in
    let cells : u32_at s i ≡ x.cells = ap (u32_at s) first-place ∙ at 0 (omega arith) fits.cells in
    let left : u32_at s (i + 4) ≡ x.min_x = at 1 (omega arith) fits.left in
    let top : u32_at s (i + 8) ≡ x.min_y = at 2 (omega arith) fits.top in
    let right : u32_at s (i + 12) ≡ x.max_x = at 3 (omega arith) fits.right in
    let bottom : u32_at s (i + 16) ≡ x.max_y = at 4 (omega arith) fits.bottom in
    let ramp : eqb (u32_at s (i + 20)) 1 ≡ x.has_ramp =
    ap (λ (v : ℕ). eqb v 1) (at 5 (omega arith) (flag_small x.has_ramp)) ∙ flag-back x.has_ramp in
    let first : u32_at s (i + 24) ≡ x.level_0 = at 6 (omega arith) fits.first in
    let second : u32_at s (i + 28) ≡ x.level_1 = at 7 (omega arith) fits.second in
    let third : u32_at s (i + 32) ≡ x.level_2 = at 8 (omega arith) fits.third in
    let fourth : u32_at s (i + 36) ≡ x.level_3 = at 9 (omega arith) fits.fourth in
    simp (cells, left, top, right, bottom, ramp, first, second, third, fourth)
