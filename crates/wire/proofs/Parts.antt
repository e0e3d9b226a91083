-- Laws of parts and of splices, for lists of any contents.
use mathlib.Core.Path.{◌≡◌, refl, sym, ◌∙◌, ap}
use mathlib.Core.List.{List, [], ◌∷◌, ◌++◌, append_assoc}
use Prim.Native.Nat.{ℕ, zero, suc, ◌+◌, ◌-◌, ◌≤◌, ◌<◌}
use native.Mathlib.Nat.{zero-add, suc-add}
use native.Mathlib.Numerals.{add-one}
use native.Mathlib.Omega.{arith}
use lib.ListN.{length, get_or, set, take, drop, length-append, length-drop, take-append-drop}
use lib.Seq.{set_split, drop-cons, take-append-le, drop-append-le, drop-append-add, take_at, drop_at, get_or-drop, get_or-take, drop-drop, take-add, take-take}
use lib.Seq.{length-take-le, take-length, take-nil}
use Rattle.wire.specs.Bytes.{part, splice}

pub length_part : (s : List ℕ) (i n : ℕ) → i + n ≤ length s → length (part s i n) ≡ n
unfolding part
length_part s i n h = length-take-le n (drop i s) (simp length-drop (omega arith))

-- What stands in a part stands in the list.
pub part_at : (s : List ℕ) (i n k : ℕ) → k < n → get_or (part s i n) k 0 ≡ get_or s (i + k) 0
unfolding part
part_at s i n k h = rw (get_or-take, get_or-drop)

-- A part's first element.
pub part-cons : (s : List ℕ) (i n : ℕ) → i < length s → part s i (suc n) ≡ get_or s i 0 ∷ part s (i + 1) n
unfolding part
part-cons s i n h = rw (add-one, drop-cons s i 0)

-- Two parts side by side are one.
pub part_join : (s : List ℕ) (i n m : ℕ) → part s i (n + m) ≡ part s i n ++ part s (i + n) m
unfolding part
part_join s i n m = take-add n m (drop i s) ∙ ap (λ (l : List ℕ). take n (drop i s) ++ take m l) (drop-drop n i s)

drop-take : (j k : ℕ) (l : List ℕ) → drop j (take (j + k) l) ≡ take k (drop j l)
drop-take zero k l = rw zero-add
drop-take (suc j) k [] = ap (drop (suc j)) (take-nil (suc j + k)) ∙ sym (take-nil k)
drop-take (suc j) k (x ∷ l) = rw suc-add (drop-take j k l)

-- A part of a part.
pub part-part : (s : List ℕ) (i n j m : ℕ) → j + m ≤ n → part (part s i n) j m ≡ part s (i + j) m
unfolding part
part-part s i n j m h =
    let e : n ≡ j + (n - j) = omega arith in
    let l : m ≤ n - j = omega arith in
    ap (λ (k : ℕ). take m (drop j (take k (drop i s)))) e ∙ rw (drop-take, take-take, drop-drop)

-- The whole list, and the whole of a prefix, as parts.
pub part-whole : (s : List ℕ) → part s 0 (length s) ≡ s
unfolding part
part-whole s = take-length s

-- A part of two lists joined lies in the first or in the second.
pub part_left : (a b : List ℕ) (i n : ℕ) → i + n ≤ length a → part (a ++ b) i n ≡ part a i n
unfolding part
part_left a b i n h =
    let e : i ≤ length a = omega arith in
    let k : n ≤ length (drop i a) = simp length-drop (omega arith) in
    rw (drop-append-le i a b e, take-append-le n (drop i a) b k)

pub part_right : (a b : List ℕ) (i n : ℕ) → part (a ++ b) (length a + i) n ≡ part b i n
unfolding part
part_right a b i n = ap (take n) (drop-append-add a b i)

-- The second of three lists joined.
pub part-middle : (a b c : List ℕ) (i : ℕ) → length a ≡ i → part (a ++ (b ++ c)) i (length b) ≡ b
unfolding part
part-middle a b c i e = ap (take (length b)) (drop_at a (b ++ c) i e) ∙ take_at b c (length b) refl

pub splice-none : (s : List ℕ) (i : ℕ) → splice s i [] ≡ s
unfolding splice
splice-none s i = let e : i + 0 ≡ i = omega arith in ap (λ (k : ℕ). take i s ++ drop k s) e ∙ take-append-drop i s

-- One element written.
pub set-splice : (s : List ℕ) (i v : ℕ) → i < length s → set s i v ≡ splice s i (v ∷ [])
unfolding splice
set-splice s i v h = set_split s i v h ∙ ap (λ (k : ℕ). take i s ++ (v ∷ drop k s)) (let z : suc i ≡ i + 1 = omega arith in z)

module _ (s : List ℕ) (i : ℕ) (bs : List ℕ) (fits : i + length bs ≤ length s) where
  head-length : length (take i s ++ bs) ≡ i + length bs
  head-length = simp (length-append, length-take-le i s (omega arith))

  split : splice s i bs ≡ (take i s ++ bs) ++ drop (i + length bs) s
  unfolding splice
  split = sym (append_assoc (take i s) bs (drop (i + length bs) s))

  pub length-splice : length (splice s i bs) ≡ length s
  unfolding splice
  length-splice = simp (length-append, length-drop, length-take-le i s (omega arith)) (omega arith)

  -- What was written, with what stands before it; and what follows.
  pub take-splice : take (i + length bs) (splice s i bs) ≡ take i s ++ bs
  take-splice = rw split (take_at (take i s ++ bs) (drop (i + length bs) s) (i + length bs) head-length)

  pub drop-splice : (j : ℕ) → i + length bs ≤ j → drop j (splice s i bs) ≡ drop j s
  drop-splice j h =
      let e : j ≡ length (take i s ++ bs) + (j - (i + length bs)) = rw head-length (omega arith) in
      let f : i + length bs + (j - (i + length bs)) ≡ j = omega arith in
      ap (drop j) split
      ∙ ap (λ (k : ℕ). drop k ((take i s ++ bs) ++ drop (i + length bs) s)) e
      ∙ drop-append-add (take i s ++ bs) (drop (i + length bs) s) (j - (i + length bs))
      ∙ drop-drop (j - (i + length bs)) (i + length bs) s
      ∙ ap (λ (k : ℕ). drop k s) f

  -- What was written is there.
  pub splice-same : part (splice s i bs) i (length bs) ≡ bs
  unfolding splice
  splice-same = part-middle (take i s) bs (drop (i + length bs) s) i (length-take-le i s (omega arith))

  -- What lies before and after is as it was.
  pub splice-before : (j n : ℕ) → j + n ≤ i → part (splice s i bs) j n ≡ part s j n
  unfolding splice part
  splice-before j n h =
      let l : length (take i s) ≡ i = length-take-le i s (omega arith) in
      part_left (take i s) (bs ++ drop (i + length bs) s) j n (omega arith)
      ∙ part-part s 0 i j n h
      ∙ ap (λ (k : ℕ). take n (drop k s)) (zero-add j)

  pub splice-after : (j n : ℕ) → i + length bs ≤ j → part (splice s i bs) j n ≡ part s j n
  unfolding part
  splice-after j n h = ap (take n) (drop-splice j h)

  -- A write beside a write is one write.
  pub splice-splice : (cs : List ℕ) → splice (splice s i bs) (i + length bs) cs ≡ splice s i (bs ++ cs)
  unfolding splice
  splice-splice cs =
      let l : i + length bs + length cs ≡ i + length (bs ++ cs) = simp length-append (omega arith) in
      ap (λ (h : List ℕ). h ++ (cs ++ drop (i + length bs + length cs) (splice s i bs))) take-splice
      ∙ ap (λ (t : List ℕ). (take i s ++ bs) ++ (cs ++ t)) (drop-splice (i + length bs + length cs) (omega arith))
      ∙ ap (λ (k : ℕ). (take i s ++ bs) ++ (cs ++ drop k s)) l
      ∙ simp append_assoc
