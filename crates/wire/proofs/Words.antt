-- Numbers read after a write, at the same place and at another.
use mathlib.Core.Path.{◌≡◌, refl, sym, ◌∙◌, ap}
use mathlib.Core.List.{List, append_assoc}
use Prim.Native.Nat.{ℕ, suc, ◌+◌, ◌*◌, ◌/◌, ◌%◌, ◌^◌, ◌≤◌, ◌<◌}
use native.Mathlib.Omega.{arith}
use lib.ListN.{length, get_or, set, take, drop}
use lib.Seq.{sets-eq}
use Rattle.wire.specs.Bytes.{part, splice, number, bytes, number_at}
use Rattle.wire.proofs.Parts.{length_part, part-cons, part_join, splice-same, splice-before, splice-after, splice-splice}
use Rattle.wire.proofs.Numbers.{length-bytes, number-bytes, number_append, bytes-join}

-- What was written is read back.
pub read_same : (n : ℕ) (s : List ℕ) (i v : ℕ) → i + n ≤ length s → v < 256 ^ n → number_at n (splice s i (bytes n v)) i ≡ v
unfolding number_at
read_same n s i v h f =
    let l : length (bytes n v) ≡ n = length-bytes n v in
    let e : part (splice s i (bytes n v)) i n ≡ bytes n v
    = ap (part (splice s i (bytes n v)) i) (sym l) ∙ splice-same s i (bytes n v) (omega arith) in
    ap number e ∙ number-bytes n v f

-- A number elsewhere is as it was.
module _ (s : List ℕ) (i : ℕ) (bs : List ℕ) (fits : i + length bs ≤ length s) (n j : ℕ) where
  pub read-before : j + n ≤ i → number_at n (splice s i bs) j ≡ number_at n s j
  unfolding number_at
  read-before h = ap number (splice-before s i bs fits j n h)

  pub read-after : i + length bs ≤ j → number_at n (splice s i bs) j ≡ number_at n s j
  unfolding number_at
  read-after h = ap number (splice-after s i bs fits j n h)

number-none : (s : List ℕ) (i : ℕ) → number_at 0 s i ≡ 0
unfolding number_at part number
number-none s i = refl

-- A number is its first byte and 256 times the rest.
number_step : (n : ℕ) (s : List ℕ) (i j : ℕ) → i < length s → i + 1 ≡ j → number_at (suc n) s i ≡ get_or s i 0 + 256 * number_at n s j
unfolding number_at number
number_step n s i j h e = ap number (part-cons s i n h) ∙ ap (λ (k : ℕ). get_or s i 0 + 256 * number_at n s k) e

-- The four bytes of a u32, as the code adds them.
pub four_bytes : (s : List ℕ) (i : ℕ) → i + 4 ≤ length s
    → number_at 4 s i ≡ get_or s i 0 + get_or s (i + 1) 0 * 0x100 + get_or s (i + 2) 0 * 0x1_0000 + get_or s (i + 3) 0 * 0x100_0000
four_bytes s i h =
    let a : number_at 4 s i ≡ get_or s i 0 + 256 * number_at 3 s (i + 1) = number_step 3 s i (i + 1) (omega arith) (omega arith) in
    let b : number_at 3 s (i + 1) ≡ get_or s (i + 1) 0 + 256 * number_at 2 s (i + 2) = number_step 2 s (i + 1) (i + 2) (omega arith) (omega arith) in
    let c : number_at 2 s (i + 2) ≡ get_or s (i + 2) 0 + 256 * number_at 1 s (i + 3) = number_step 1 s (i + 2) (i + 3) (omega arith) (omega arith) in
    let d : number_at 1 s (i + 3) ≡ get_or s (i + 3) 0 + 256 * number_at 0 s (i + 4) = number_step 0 s (i + 3) (i + 4) (omega arith) (omega arith) in
    let z : number_at 0 s (i + 4) ≡ 0 = number-none s (i + 4) in
    omega arith

-- A number in two numbers side by side.
pub number-join : (n m : ℕ) (s : List ℕ) (i : ℕ) → i + n ≤ length s → number_at (n + m) s i ≡ number_at n s i + 256 ^ n * number_at m s (i + n)
unfolding number_at
number-join n m s i h =
    ap number (part_join s i n m)
    ∙ number_append (part s i n) (part s (i + n) m)
    ∙ ap (λ (k : ℕ). number (part s i n) + 256 ^ k * number (part s (i + n) m)) (length_part s i n h)

-- Four stores are one write.
pub four-stores : (s : List ℕ) (i v : ℕ) → i + 4 ≤ length s
    → set (set (set (set s i (v % 256)) (i + 1) (v / 256 % 256)) (i + 2) (v / 256 / 256 % 256)) (i + 3) (v / 256 / 256 / 256 % 256) ≡ splice s i (bytes 4 v)
unfolding splice bytes
four-stores s i v h =
    let e1 : i + 1 ≡ suc i = omega arith in
    let e2 : i + 2 ≡ suc (suc i) = omega arith in
    let e3 : i + 3 ≡ suc (suc (suc i)) = omega arith in
    rw (e1, e2, e3) (sets-eq (bytes 4 v) s i h ∙ append_assoc (take i s) (bytes 4 v) (drop (i + 4) s))

-- Two writes of four bytes are one of eight.
pub two-writes : (s : List ℕ) (i v : ℕ) → i + 8 ≤ length s
    → splice (splice s i (bytes 4 (v % 0x1_0000_0000))) (i + 4) (bytes 4 (v / 0x1_0000_0000)) ≡ splice s i (bytes 8 v)
two-writes s i v h =
    let l : length (bytes 4 (v % 0x1_0000_0000)) ≡ 4 = length-bytes 4 _ in
    ap (λ (k : ℕ). splice (splice s i (bytes 4 (v % 0x1_0000_0000))) (i + k) (bytes 4 (v / 0x1_0000_0000))) (sym l)
    ∙ splice-splice s i (bytes 4 (v % 0x1_0000_0000)) (omega arith) (bytes 4 (v / 0x1_0000_0000))
    ∙ ap (splice s i) (sym (bytes-join 4 4 v))
