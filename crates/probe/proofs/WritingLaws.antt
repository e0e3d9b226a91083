-- Bytes written one after another are written at once.
use mathlib.Core.Path.{◌≡◌, refl, sym, ◌∙◌, ap}
use mathlib.Core.List.{List, [], ◌∷◌, ◌++◌, flat_map, append-nil, append_assoc}
use Prim.Native.Nat.{ℕ, zero, suc, ◌+◌, ◌*◌, ◌≤◌, ◌<◌}
use native.Mathlib.Nat.{mul-suc, zero-add}
use native.Mathlib.Numerals.{add-one}
use native.Mathlib.Omega.{arith}
use borrow.Author.Tests.{le-ltb}
use lib.ListN.{length, get_or, set, take, drop, length-append, length-set}
use lib.Seq.{paste-suc, take_all}
use Rattle.lists.specs.Rows.{rows}
use Rattle.lists.proofs.Rows.{rows_last}
use Rattle.lists.proofs.Flat.{flat_map-append}
use Rattle.wire.specs.Bytes.{u32_bytes, words, splice}
use Rattle.wire.proofs.Numbers.{length-bytes}
use Rattle.wire.proofs.Parts.{length-splice, splice-none, splice-splice}
use Rattle.analysis.proofs.Ranked.{by_rows}
use Rattle.probe.specs.Probe.{put_first}
use Rattle.probe.specs.Writing.{blocks}

-- a write beside a write of n bytes
pub beside : (s : List ℕ) (i n : ℕ) (bs cs : List ℕ) → length bs ≡ n → i + n ≤ length s → splice (splice s i bs) (i + n) cs ≡ splice s i (bs ++ cs)
beside s i n bs cs e h = ap (λ (k : ℕ). splice (splice s i bs) (i + k) cs) (sym e) ∙ splice-splice s i bs (rw e h) cs

pub words-two : (x y : ℕ) → u32_bytes x ++ u32_bytes y ≡ words (x ∷ y ∷ [])
unfolding words flat_map
words-two x y = ap (λ (t : List ℕ). u32_bytes x ++ t) (sym (append-nil (u32_bytes y)))

pub words-three : (x y z : ℕ) → u32_bytes x ++ (u32_bytes y ++ u32_bytes z) ≡ words (x ∷ y ∷ z ∷ [])
unfolding words flat_map
words-three x y z = ap (λ (t : List ℕ). u32_bytes x ++ (u32_bytes y ++ t)) (sym (append-nil (u32_bytes z)))

pub length_two : (x y : ℕ) → length (words (x ∷ y ∷ [])) ≡ 8
length_two x y = ap (λ (t : List ℕ). length t) (sym (words-two x y)) ∙ length-append (u32_bytes x) (u32_bytes y)
    ∙ omega (arith, length-bytes 4 x, length-bytes 4 y)

pub length_three : (x y z : ℕ) → length (words (x ∷ y ∷ z ∷ [])) ≡ 12
length_three x y z =
    ap (λ (t : List ℕ). length t) (sym (words-three x y z)) ∙ length-append (u32_bytes x) (u32_bytes y ++ u32_bytes z)
    ∙ omega (arith, length-append (u32_bytes y) (u32_bytes z), length-bytes 4 x, length-bytes 4 y, length-bytes 4 z)

-- two words, and three
pub put_two : (s : List ℕ) (i x y : ℕ) → i + 8 ≤ length s → splice (splice s i (u32_bytes x)) (i + 4) (u32_bytes y) ≡ splice s i (words (x ∷ y ∷ []))
put_two s i x y h = beside s i 4 (u32_bytes x) (u32_bytes y) (length-bytes 4 x) (omega arith) ∙ ap (splice s i) (words-two x y)

pub put_three : (s : List ℕ) (i x y z : ℕ) → i + 12 ≤ length s
    → splice (splice (splice s i (u32_bytes x)) (i + 4) (u32_bytes y)) (i + 8) (u32_bytes z) ≡ splice s i (words (x ∷ y ∷ z ∷ []))
put_three s i x y z h =
    let two : length (words (x ∷ y ∷ [])) ≡ 8 = length_two x y in
    ap (λ (t : List ℕ). splice t (i + 8) (u32_bytes z)) (put_two s i x y (omega arith))
    ∙ beside s i 8 (words (x ∷ y ∷ [])) (u32_bytes z) two (omega arith)
    ∙ ap (splice s i) (joined x y z)
  where
    joined : (x y z : ℕ) → words (x ∷ y ∷ []) ++ u32_bytes z ≡ words (x ∷ y ∷ z ∷ [])
    joined x y z = ap (λ (t : List ℕ). t ++ u32_bytes z) (sym (words-two x y)) ∙ (append_assoc (u32_bytes x) (u32_bytes y) (u32_bytes z) ∙ words-three x y z)

-- the same, write by write
pub after_two : (s : List ℕ) (i x y : ℕ) {e f : List ℕ} → i + 8 ≤ length s → e ≡ splice s i (u32_bytes x) → f ≡ splice e (i + 4) (u32_bytes y)
    → f ≡ splice s i (words (x ∷ y ∷ []))
after_two s i x y h p q = q ∙ (ap (λ (t : List ℕ). splice t (i + 4) (u32_bytes y)) p ∙ put_two s i x y h)

pub after-three : (s : List ℕ) (i x y z : ℕ) {e f g : List ℕ} → i + 12 ≤ length s → e ≡ splice s i (u32_bytes x) → f ≡ splice e (i + 4) (u32_bytes y)
    → g ≡ splice f (i + 8) (u32_bytes z)
    → g ≡ splice s i (words (x ∷ y ∷ z ∷ []))
after-three s i x y z h p q r =
    r ∙ (ap (λ (t : List ℕ). splice t (i + 8) (u32_bytes z)) (q ∙ ap (λ (t : List ℕ). splice t (i + 4) (u32_bytes y)) p) ∙ put_three s i x y z h)

-- two words at the start, and what follows them
pub put-head : (s : List ℕ) (x y n : ℕ) (bs cs : List ℕ) → length bs ≡ n → 8 + n ≤ length s
    → splice (splice (splice (splice s 0 (u32_bytes x)) 4 (u32_bytes y)) 8 bs) (8 + n) cs ≡ splice s 0 (words (x ∷ y ∷ []) ++ (bs ++ cs))
put-head s x y n bs cs e h =
    let w : List ℕ = words (x ∷ y ∷ []) in
    let two : length w ≡ 8 = length_two x y in
    let l : length (w ++ bs) ≡ 8 + n = length-append w bs ∙ omega arith in
    let z : 8 + n ≡ 0 + (8 + n) = omega arith in
    ap (λ (t : List ℕ). splice (splice t 8 bs) (8 + n) cs) (put_two s 0 x y (omega arith))
    ∙ ap (λ (t : List ℕ). splice t (8 + n) cs) (beside s 0 8 w bs two (omega arith))
    ∙ ap (λ (k : ℕ). splice (splice s 0 (w ++ bs)) k cs) z
    ∙ beside s 0 (8 + n) (w ++ bs) cs l (omega arith)
    ∙ ap (splice s 0) (append_assoc w bs cs)

pub after-head : (s : List ℕ) (x y : ℕ) (bs cs : List ℕ) {n : ℕ} {e f a b : List ℕ} → length bs ≡ n → 8 + n ≤ length s → e ≡ splice s 0 (u32_bytes x)
    → f ≡ splice e 4 (u32_bytes y) → a ≡ splice f 8 bs → b ≡ splice a (8 + n) cs
    → b ≡ splice s 0 (words (x ∷ y ∷ []) ++ (bs ++ cs))
after-head s x y bs cs {n} l h p q r w =
    w ∙ (ap (λ (t : List ℕ). splice t (8 + n) cs) (r ∙ ap (λ (t : List ℕ). splice t 8 bs) (q ∙ ap (λ (t : List ℕ). splice t 4 (u32_bytes y)) p))
    ∙ put-head s x y n bs cs l h)

-- blocks of m bytes each
module _ (m : ℕ) (f : ℕ → List ℕ) (even : (i : ℕ) → length (f i) ≡ m) where
  pub length-blocks : (n : ℕ) → length (blocks n f) ≡ m * n
  unfolding blocks
  length-blocks zero = omega arith
  length-blocks (suc n) = length-append (blocks n f) (f n) ∙ omega (arith, length-blocks n, even n, mul-suc m n)

  -- the first k of them stand from place at on
  pub record Filled (s : List ℕ) (at k : ℕ) (e : List ℕ) : Type 0 where
    pub is : e ≡ splice s at (blocks k f)
    pub long : length e ≡ length s

  pub filled-start : (s : List ℕ) (at : ℕ) → Filled s at 0 s
  unfolding blocks
  filled-start s at = record { is = sym (splice-none s at); long = refl }

  pub filled_next : {s : List ℕ} {at k : ℕ} {e e' : List ℕ} (place : ℕ) → Filled s at k e → at + m * (k + 1) ≤ length s → place ≡ at + m * k
      → e' ≡ splice e place (f k) → Filled s at (k + 1) e'
  unfolding blocks
  filled_next {s} {at} {k} {e} {e'} place a h p q =
      let room : at + (m * k + m) ≤ length s = omega arith in
      let r : e' ≡ splice s at (blocks (suc k) f) = q ∙ (ap (λ (t : List ℕ). splice t place (f k)) a.is
      ∙ (ap (λ (i : ℕ). splice (splice s at (blocks k f)) i (f k)) p ∙ beside s at (m * k) (blocks k f) (f k) (length-blocks k) (omega arith))) in
      let l : length (blocks (suc k) f) ≡ m * k + m = length-append (blocks k f) (f k) ∙ omega (arith, length-blocks k, even k) in
      record { is = rw add-one r; long = ap (λ (t : List ℕ). length t) r ∙ length-splice s at (blocks (suc k) f) (omega arith) }

-- rows joined are blocks
pub flat-blocks : {A : Type 0} (g : A → List ℕ) (h : ℕ → A) (n : ℕ) → flat_map g (rows n h) ≡ blocks n (λ i. g (h i))
unfolding blocks flat_map rows
flat-blocks g h zero = refl
flat-blocks g h (suc n) =
    ap (flat_map g) (rows_last n h) ∙ (flat_map-append g (rows n h) (h n ∷ [])
    ∙ (ap (λ (t : List ℕ). t ++ (g (h n) ++ [])) (flat-blocks g h n) ∙ ap (λ (t : List ℕ). blocks n (λ i. g (h i)) ++ t) (append-nil (g (h n)))))

-- blocks that agree number by number are equal
pub blocks-same : (n : ℕ) (f g : ℕ → List ℕ) → ((i : ℕ) → i < n → f i ≡ g i) → blocks n f ≡ blocks n g
unfolding blocks
blocks-same zero f g e = refl
blocks-same (suc n) f g e =
    let a : blocks n f ≡ blocks n g = blocks-same n f g (λ i h. e i (omega arith)) in
    let b : f n ≡ g n = e n (omega arith) in
    rw (a, b) refl

-- words by number are the words
pub blocks-words : (ws : List ℕ) → blocks (length ws) (λ j. u32_bytes (get_or ws j 0)) ≡ words ws
unfolding words
blocks-words ws =
    sym (flat-blocks u32_bytes (λ j. get_or ws j 0) (length ws))
    ∙ ap (flat_map u32_bytes) (sym (by_rows ws (length ws) (λ j. get_or ws j 0) 0 refl (λ i h. refl)))

pub filled-words : (ws : List ℕ) {s e : List ℕ} {k : ℕ} → Filled 4 (λ j. u32_bytes (get_or ws j 0)) (λ j. length-bytes 4 (get_or ws j 0)) s 0 k e
    → k ≡ length ws
    → e ≡ splice s 0 (words ws)
filled-words ws {s} a e = a.is ∙ (ap (λ (n : ℕ). splice s 0 (blocks n (λ j. u32_bytes (get_or ws j 0)))) e ∙ ap (splice s 0) (blocks-words ws))

-- the first k elements of xs are put at the start of d
pub record Started (d xs e : List ℕ) (k : ℕ) : Type 0 where
  pub below : k ≤ length xs
  pub begun : e ≡ take k xs ++ drop k d
  pub same : length e ≡ length d

pub started-next : {d xs e : List ℕ} {k : ℕ} → Started d xs e k → k < length xs → length xs ≤ length d → Started d xs (set e k (get_or xs k 0)) (k + 1)
started-next {d} {xs} {e} {k} a h l =
    let fits : 0 + k < length d = omega arith in
    let step : set (take k xs ++ drop k d) k (get_or xs k 0) ≡ take (suc k) xs ++ drop (suc k) d = simp zero-add at (paste-suc d 0 xs k 0 fits h) in
    record {
      below = omega arith;
      begun = ap (λ (t : List ℕ). set t k (get_or xs k 0)) a.begun ∙ rw add-one step;
      same = length-set e k (get_or xs k 0) ∙ a.same;
    }

pub started-end : {d xs e : List ℕ} {k : ℕ} → Started d xs e k → length xs ≤ k → length xs ≤ length d → e ≡ put_first d xs
unfolding put_first
started-end {d} {xs} {e} {k} a h l =
    let z : k ≡ length xs = omega (arith, a.below) in
    a.begun ∙ ap (λ (j : ℕ). take j xs ++ drop j d) z ∙ rw (take_all (length xs) xs (omega arith), le-ltb _ _ l)
