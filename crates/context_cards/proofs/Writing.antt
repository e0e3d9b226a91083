-- Words written one after another are written at once, and two halves are a card.
use mathlib.Core.Path.{◌≡◌, sym, ◌∙◌, ap}
use mathlib.Core.List.{List, [], ◌∷◌, ◌++◌}
use Prim.Native.Nat.{ℕ, ◌+◌, ◌*◌, ◌≤◌}
use native.Mathlib.Omega.{arith}
use lib.ListN.{length}
use Rattle.lists.proofs.Flat.{flat_map-append}
use Rattle.wire.specs.Bytes.{splice, u32_bytes, words}
use Rattle.format.proofs.Writes.{then-write}
use Rattle.format.proofs.Fields.{fields-long, field-first, field-more}
use Rattle.context.specs.Held.{stats_in}
use Rattle.context.specs.declared.stats.RegionStats.{RegionStats as StatsHeld}
use Rattle.context.specs.Cards.{card_words, card_bytes}

pub words-length : (ws : List ℕ) → length (words ws) ≡ 4 * length ws
unfolding words
words-length ws = fields-long 4 ws

words_append : (vs ws : List ℕ) → words (vs ++ ws) ≡ words vs ++ words ws
unfolding words
words_append vs ws = flat_map-append u32_bytes vs ws

-- five words
pub five-written : (s : List ℕ) (i v1 v2 v3 v4 v5 : ℕ) {t1 t2 t3 t4 t5 : List ℕ} {j2 j3 j4 j5 a b c d e : ℕ} → i + 20 ≤ length s
    → t1 ≡ splice s i (u32_bytes a) → t2 ≡ splice t1 j2 (u32_bytes b) → t3 ≡ splice t2 j3 (u32_bytes c) → t4 ≡ splice t3 j4 (u32_bytes d)
    → t5 ≡ splice t4 j5 (u32_bytes e)
    → j2 ≡ i + 4 → j3 ≡ i + 8 → j4 ≡ i + 12 → j5 ≡ i + 16 → a ≡ v1 → b ≡ v2 → c ≡ v3 → d ≡ v4 → e ≡ v5
    → t5 ≡ splice s i (words (v1 ∷ v2 ∷ v3 ∷ v4 ∷ v5 ∷ []))
unfolding words
five-written s i v1 v2 v3 v4 v5 h e1 e2 e3 e4 e5 p2 p3 p4 p5 f1 f2 f3 f4 f5 =
    let first = field-first 4 s i v1 e1 f1 in
    let second = field-more 4 s i (v1 ∷ []) v2 (omega arith) first e2 p2 f2 in
    let third = field-more 4 s i (v1 ∷ v2 ∷ []) v3 (omega arith) second e3 p3 f3 in
    let fourth = field-more 4 s i (v1 ∷ v2 ∷ v3 ∷ []) v4 (omega arith) third e4 p4 f4 in
    field-more 4 s i (v1 ∷ v2 ∷ v3 ∷ v4 ∷ []) v5 (omega arith) fourth e5 p5 f5

pub card-length : (s : StatsHeld) → length (card_bytes (stats_in s)) ≡ 40
unfolding card_bytes card_words
card-length s = words-length (card_words (stats_in s))

-- two halves
pub card-written : (s : List ℕ) (i : ℕ) (vs ws : List ℕ) (x : StatsHeld) {t u : List ℕ} {j : ℕ} → length vs ≡ 5 → i + 20 ≤ length s
    → t ≡ splice s i (words vs) → u ≡ splice t j (words ws)
    → j ≡ i + 20 → vs ++ ws ≡ card_words (stats_in x) → u ≡ splice s i (card_bytes (stats_in x))
unfolding card_bytes
card-written s i vs ws x l h p q e f =
    then-write s i (words vs) (words ws) (omega (arith, words-length vs)) (omega (arith, words-length vs)) p q
    ∙ ap (splice s i) (sym (words_append vs ws) ∙ ap words f)
