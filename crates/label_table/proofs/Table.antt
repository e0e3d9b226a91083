-- A table of words for labels: a word is written, words are cleared, and a table of zeros is the one at the start.
use mathlib.Core.Path.{◌≡◌, refl, sym, ◌∙◌, ap, subst}
use mathlib.Core.Logic.{by_cases}
use mathlib.Core.List.{List, [], ◌∷◌}
use Prim.Native.Nat.{ℕ, suc, ◌+◌, ◌*◌, ◌-◌, ◌/◌, ◌≤◌, ◌<◌}
use native.Mathlib.Omega.{arith}
use native.Mathlib.Decide.{dec_lt, ℕ_discrete}
use lib.ListN.{length, get_or}
use Rattle.wire.specs.Bytes.{splice, u32_at, u32_bytes}
use Rattle.wire.proofs.Parts.{length-splice, splice-before, splice-after, part_at}
use Rattle.wire.proofs.Numbers.{length-bytes}
use Rattle.wire.proofs.Words.{read_same, read-before, read-after, four_bytes}
use Rattle.serial_walk.specs.Slices.{put}
use Rattle.label_table.specs.Table.{Table, OnlyOf}
use Rattle.serial_walk.proofs.Puts.{put-at, put-off}

-- a word written, or read, at a place that is reckoned in another way
pub put-at-place : (work bytes : List ℕ) {out : List ℕ} {i j : ℕ} → out ≡ splice work i bytes → i ≡ j → out ≡ splice work j bytes
put-at-place work bytes e s = e ∙ ap (λ (i : ℕ). splice work i bytes) s

pub read-at-place : (work : List ℕ) {r i j : ℕ} → r ≡ u32_at work i → i ≡ j → r ≡ u32_at work j
read-at-place work e s = e ∙ ap (u32_at work) s

module _ {start : List ℕ} {regions base : ℕ} {f : ℕ → ℕ} {work : List ℕ} (T : Table start regions base f work) (fits : base + 4 * regions ≤ length start)
    (x v : ℕ) (l : x < regions) (small : v < 0x1_0000_0000) where
  room : base + 4 * x + length (u32_bytes v) ≤ length work
  room = omega (arith, T.as_long, length-bytes 4 v)

  byte-before : (i : ℕ) → i < base + 4 * x → get_or (splice work (base + 4 * x) (u32_bytes v)) i 0 ≡ get_or work i 0
  byte-before i h =
      let z : i + 0 ≡ i = omega arith in
      ap (λ (k : ℕ). get_or (splice work (base + 4 * x) (u32_bytes v)) k 0) (sym z)
      ∙ sym (part_at (splice work (base + 4 * x) (u32_bytes v)) i 1 0 (omega arith))
      ∙ ap (λ (t : List ℕ). get_or t 0 0) (splice-before work (base + 4 * x) (u32_bytes v) room i 1 (omega arith)) ∙ part_at work i 1 0 (omega arith)
      ∙ ap (λ (k : ℕ). get_or work k 0) z

  byte-behind : (i : ℕ) → base + 4 * x + 4 ≤ i → get_or (splice work (base + 4 * x) (u32_bytes v)) i 0 ≡ get_or work i 0
  byte-behind i h =
      let z : i + 0 ≡ i = omega arith in
      ap (λ (k : ℕ). get_or (splice work (base + 4 * x) (u32_bytes v)) k 0) (sym z)
      ∙ sym (part_at (splice work (base + 4 * x) (u32_bytes v)) i 1 0 (omega arith))
      ∙ ap (λ (t : List ℕ). get_or t 0 0) (splice-after work (base + 4 * x) (u32_bytes v) room i 1 (omega (arith, length-bytes 4 v)))
      ∙ part_at work i 1 0 (omega arith)
      ∙ ap (λ (k : ℕ). get_or work k 0) z

  -- word x is written
  pub table-set : Table start regions base (put f x v) (splice work (base + 4 * x) (u32_bytes v))
  table-set = record {
    as_long = length-splice work (base + 4 * x) (u32_bytes v) room ∙ T.as_long;
    word = word;
    before = λ i h. byte-before i (omega arith) ∙ T.before i h;
    behind = λ i h. byte-behind i (omega arith) ∙ T.behind i h;
  }
    where
      word : (y : ℕ) → y < regions → u32_at (splice work (base + 4 * x) (u32_bytes v)) (base + 4 * y) ≡ put f x v y
      word y b =
          by_cases (ℕ_discrete y x)
          (λ e.
          ap (λ (z : ℕ). u32_at (splice work (base + 4 * x) (u32_bytes v)) (base + 4 * z)) e
          ∙ read_same 4 work (base + 4 * x) v (omega (arith, T.as_long)) small
          ∙ sym (ap (put f x v) e ∙ put-at f x v))
          (λ e.
          by_cases (dec_lt y x) (λ d. read-before work (base + 4 * x) (u32_bytes v) room 4 (base + 4 * y) (omega arith))
          (λ d. read-after work (base + 4 * x) (u32_bytes v) room 4 (base + 4 * y) (omega (arith, length-bytes 4 v)))
          ∙ T.word y b ∙ sym (put-off f x v y e))

-- lists of one length with the same values are equal
same-list : (a b : List ℕ) → length a ≡ length b → ((i : ℕ) → i < length a → get_or a i 0 ≡ get_or b i 0) → a ≡ b
same-list [] [] l h = refl
same-list [] (y ∷ b) l h = absurd (omega arith)
same-list (x ∷ a) [] l h = absurd (omega arith)
same-list (x ∷ a) (y ∷ b) l h =
    let e : x ≡ y = h 0 (omega arith) in
    let t : a ≡ b = same-list a b (omega arith) (λ i k. h (suc i) (omega arith)) in
    ap (λ (z : ℕ). z ∷ a) e ∙ ap (λ (z : List ℕ). y ∷ z) t

-- a table of zeros is that of the start, where that is one too
table-clear : (start : List ℕ) (regions base : ℕ) (f g : ℕ → ℕ) (work : List ℕ) → base + 4 * regions ≤ length start → Table start regions base f work →
    Table start regions base g start → ((x : ℕ) → x < regions → f x ≡ 0) → ((x : ℕ) → x < regions → g x ≡ 0) → work ≡ start
table-clear start regions base f g work fits T S z y = same-list work start T.as_long each
  where
    zero-byte : (l : List ℕ) (x r : ℕ) → base + 4 * regions ≤ length l → x < regions → u32_at l (base + 4 * x) ≡ 0 → r < 4 → get_or l (base + 4 * x + r) 0 ≡ 0
    zero-byte l x r b h e d =
        let q = four_bytes l (base + 4 * x) (omega arith) in
        by_cases (ℕ_discrete r 0) (λ s. at_place 0 s (let t : base + 4 * x + 0 ≡ base + 4 * x = omega arith in t) (omega arith)) λ s0.
        by_cases (ℕ_discrete r 1) (λ s. at_place 1 s refl (omega arith)) λ s1.
        by_cases (ℕ_discrete r 2) (λ s. at_place 2 s refl (omega arith)) λ s2. at_place 3 (let t : r ≡ 3 = omega arith in t) refl (omega arith)
      where
        at_place : (k : ℕ) {p : ℕ} → r ≡ k → base + 4 * x + k ≡ p → get_or l p 0 ≡ 0 → get_or l (base + 4 * x + r) 0 ≡ 0
        at_place k s t u = ap (λ (i : ℕ). get_or l (base + 4 * x + i) 0) s ∙ ap (λ (i : ℕ). get_or l i 0) t ∙ u

    each : (i : ℕ) → i < length work → get_or work i 0 ≡ get_or start i 0
    each i l =
        by_cases (dec_lt i base) (λ b. T.before i b) λ b.
        by_cases (dec_lt i (base + 4 * regions)) (inside (omega arith)) (λ d. T.behind i (omega arith))
      where
        inside : base ≤ i → i < base + 4 * regions → get_or work i 0 ≡ get_or start i 0
        inside b d =
            let s : base + 4 * ((i - base) / 4) + (i - base - 4 * ((i - base) / 4)) ≡ i = omega arith in
            let k : (i - base) / 4 < regions = omega arith in
            let rl : i - base - 4 * ((i - base) / 4) < 4 = omega arith in
            ap (λ (j : ℕ). get_or work j 0) (sym s)
            ∙ zero-byte work ((i - base) / 4) (i - base - 4 * ((i - base) / 4)) (omega (arith, T.as_long)) k
            (T.word ((i - base) / 4) k ∙ z ((i - base) / 4) k) rl
            ∙ sym (zero-byte start ((i - base) / 4) (i - base - 4 * ((i - base) / 4)) fits k (S.word ((i - base) / 4) k ∙ y ((i - base) / 4) k) rl)
            ∙ ap (λ (j : ℕ). get_or start j 0) s

-- a list whose words are 0
pub table-blank : {start : List ℕ} {regions base : ℕ} → ((x : ℕ) → x < regions → u32_at start (base + 4 * x) ≡ 0) → Table start regions base (λ x. 0) start
table-blank z = record { as_long = refl; word = z; before = λ i l. refl; behind = λ i l. refl }

-- the word of label x + 1 is cleared: what held of the others
pub word-cleared : {P Q : ℕ → Type 0} {start : List ℕ} {regions base : ℕ} {work next : List ℕ} → OnlyOf P start regions base work
    → base + 4 * regions ≤ length work → {x : ℕ} → x < regions → ((y : ℕ) → (y ≡ x → ⊥) → P y → Q y) → next ≡ splice work (base + 4 * x) (u32_bytes 0)
    → OnlyOf Q start regions base next
word-cleared {start = start} {regions} {base} O fits {x} l still e = record {
  words = put O.words x 0;
  table = subst (Table start regions base (put O.words x 0)) (sym e) (table-set O.table (omega (arith, O.table.as_long)) x 0 l (omega arith));
  left_over = λ y h.
      by_cases (ℕ_discrete y x) (λ s. absurd (omega (arith, h, ap (put O.words x 0) s, put-at O.words x 0)))
      (λ s. still y s (O.left_over y (omega (arith, h, put-off O.words x 0 y s))));
}

-- where no label has a word any more, all is as it was
pub all-cleared : {P : ℕ → Type 0} {start : List ℕ} {regions base : ℕ} {work : List ℕ} → OnlyOf P start regions base work → base + 4 * regions ≤ length start
    → ((x : ℕ) → x < regions → u32_at start (base + 4 * x) ≡ 0) → ((x : ℕ) → P x → ⊥) → work ≡ start
all-cleared {start = start} {regions} {base} {work} O fits z none =
    table-clear start regions base O.words (λ x. 0) work fits O.table (table-blank z)
    (λ x l. by_cases (ℕ_discrete (O.words x) 0) (λ e. e) (λ e. absurd (none x (O.left_over x (omega arith))))) (λ x l. refl)
