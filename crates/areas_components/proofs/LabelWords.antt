-- Labels as words: one more at the end, and read back.
use mathlib.Core.Path.{◌≡◌, refl, sym, ◌∙◌, ap}
use mathlib.Core.Bool.{Bool}
use mathlib.Core.List.{List, [], ◌∷◌, ◌++◌, map, flat_map, append_assoc}
use Prim.Native.Nat.{ℕ, zero, suc, ◌+◌, ◌*◌, ◌≤◌, ◌<◌}
use native.Mathlib.Omega.{arith}
use native.Mathlib.Numerals.{add-one}
use lib.ListN.{length, get_or, drop}
use lib.Seq.{ext_get_or}
use Rattle.order.specs.Lists.{up_from}
use Rattle.order.proofs.Bools.{by-test}
use Rattle.lists.proofs.Flat.{flat_map-append, length-pieces}
use Rattle.wire.specs.Bytes.{splice, number, bytes, part, number_at, u32_bytes}
use Rattle.wire.proofs.Numbers.{length-bytes, number-bytes}
use Rattle.wire.proofs.Parts.{splice-splice, part-middle, part_right}
use Rattle.graph.specs.Path.{Edge}
use Rattle.graph.specs.Labelling.{Among}
use Rattle.graph.specs.Labels.{count, begins, label, labels, label_count}
use Rattle.graph.proofs.LabelList.{labels_length}
use Rattle.position.specs.declared.Span.{Span}
use Rattle.grid.specs.Cells.{Grid, size, walkable}
use Rattle.areas.specs.Areas.{area_labels, area_count, label_at}
use Rattle.areas.specs.Cuts.{uncut_steps}
use Rattle.areas.specs.Open.{named}
use Rattle.areas.proofs.Areas.{area-labels-length, label-at-most}
use Rattle.areas.proofs.Words.{labels-many, label-in}
use Rattle.areas.specs.Words.{word, labels_in}
use Rattle.areas_components.specs.Joining.{OpenBytesSound}

-- one more number
pub map-up-last : {A : Type 0} (f : ℕ → A) (a n : ℕ) → map f (up_from a (suc n)) ≡ map f (up_from a n) ++ (f (a + n) ∷ [])
unfolding up_from
map-up-last f a zero = ap (λ (x : ℕ). f x ∷ []) (let z : a ≡ a + 0 = omega arith in z)
map-up-last f a (suc n) = ap (λ t. f a ∷ t)
    (map-up-last f (suc a) n ∙ ap (λ (x : ℕ). map f (up_from (suc a) n) ++ (f x ∷ [])) (let z : suc a + n ≡ a + suc n = omega arith in z))

map-up-next : {A : Type 0} (f : ℕ → A) (n : ℕ) → map f (up_from 0 (n + 1)) ≡ map f (up_from 0 n) ++ (f n ∷ [])
map-up-next f n = rw add-one (map-up-last f 0 n ∙ ap (λ (x : ℕ). map f (up_from 0 n) ++ (f x ∷ [])) (let z : 0 + n ≡ n = omega arith in z))

pub labels-last : (on : ℕ → Bool) (es : List Edge) (n : ℕ) → labels (n + 1) on es ≡ labels n on es ++ (label on es n ∷ [])
unfolding labels
labels-last on es n = map-up-next (label on es) n

-- four bytes a number
pub bytes-length : (ls : List ℕ) → length (flat_map u32_bytes ls) ≡ 4 * length ls
bytes-length ls = omega (arith, length-pieces 4 u32_bytes (length-bytes 4) ls)

pub labels-bytes : (n : ℕ) (on : ℕ → Bool) (es : List Edge) → length (flat_map u32_bytes (labels n on es)) ≡ 4 * n
labels-bytes n on es = omega (arith, bytes-length (labels n on es), labels_length n on es)

-- one more label written
pub bytes-last : (s : List ℕ) (on : ℕ → Bool) (es : List Edge) (i : ℕ) → 4 * i ≤ length s →
    splice (splice s 0 (flat_map u32_bytes (labels i on es))) (4 * i) (u32_bytes (label on es i)) ≡ splice s 0 (flat_map u32_bytes (labels (i + 1) on es))
unfolding flat_map bytes
bytes-last s on es i room =
    ap (λ (x : ℕ). splice (splice s 0 bs) x (u32_bytes (label on es i))) (let z : 4 * i ≡ 0 + length bs = omega (arith, labels-bytes i on es) in z)
    ∙ (splice-splice s 0 bs (omega (arith, labels-bytes i on es)) (u32_bytes (label on es i))
    ∙ ap (splice s 0) (sym (ap (flat_map u32_bytes) (labels-last on es i) ∙ flat_map-append u32_bytes (labels i on es) (label on es i ∷ []))))
  where
    bs : List ℕ
    bs = flat_map u32_bytes (labels i on es)

-- a number is read back at its word
flat-read : (ls t : List ℕ) (j : ℕ) → j < length ls → get_or ls j 0 < 4294967296 → number_at 4 (flat_map u32_bytes ls ++ t) (4 * j) ≡ get_or ls j 0
unfolding flat_map number_at bytes
flat-read [] t j l small = absurd (omega arith)
flat-read (x ∷ ls) t zero l small =
    ap (λ (y : List ℕ). number (part y 0 4)) (append_assoc (u32_bytes x) (flat_map u32_bytes ls) t)
    ∙ (ap number (part-middle [] (u32_bytes x) (flat_map u32_bytes ls ++ t) 0 refl) ∙ number-bytes 4 x small)
flat-read (x ∷ ls) t (suc j) l small =
    ap (λ (y : List ℕ). number (part y (4 * suc j) 4)) (append_assoc (u32_bytes x) (flat_map u32_bytes ls) t)
    ∙ (ap (λ (k : ℕ). number (part (u32_bytes x ++ (flat_map u32_bytes ls ++ t)) k 4)) (let z : 4 * suc j ≡ 4 + 4 * j = omega arith in z)
    ∙ (ap number (part_right (u32_bytes x) (flat_map u32_bytes ls ++ t) (4 * j) 4) ∙ flat-read ls t j (omega arith) small))

module _ (s ls : List ℕ) where
  pub word_read : (j : ℕ) → j < length ls → get_or ls j 0 < 4294967296 → word (splice s 0 (flat_map u32_bytes ls)) j ≡ get_or ls j 0
  unfolding splice
  word_read j l small = flat-read ls (drop (0 + length (flat_map u32_bytes ls)) s) j l small

  -- the labels are the numbers
  pub labels-read : (n : ℕ) → length ls ≡ n → ((j : ℕ) → j < n → get_or ls j 0 < 4294967296) → labels_in (splice s 0 (flat_map u32_bytes ls)) n ≡ ls
  labels-read n e small =
      let w = splice s 0 (flat_map u32_bytes ls) in
      ext_get_or 0 (labels_in w n) ls (labels-many w n ∙ sym e)
      (λ i l. let h : i < n = omega (arith, l, labels-many w n) in label-in w n i h ∙ word_read i (omega (arith, e)) (small i h))

-- there are no more labels than vertices
count_most : (t : ℕ → Bool) (n : ℕ) → count t n ≤ n
unfolding count
count_most t zero = omega arith
count_most t (suc n) = by-test (t n) (λ e. rw e (omega (arith, count_most t n))) (λ e. rw e (omega (arith, count_most t n)))

module _ (dirs : List ℕ) (g : Grid) (ss : List Span) (few : size g ≤ 1048576) where
  pub area-count-few : area_count dirs g ss ≤ size g
  unfolding area_count label_count
  area-count-few = count_most (begins (walkable g) (uncut_steps dirs g ss)) (size g)

  pub area-label-small : (i : ℕ) → i < size g → label_at (area_labels dirs g ss) i < 4294967296
  area-label-small i l = omega (arith, label-at-most dirs g ss i l, area-count-few)

  -- what `components` leaves are the labels of the areas
  pub area-labels-read : (s : List ℕ) → labels_in (splice s 0 (flat_map u32_bytes (area_labels dirs g ss))) (size g) ≡ area_labels dirs g ss
  area-labels-read s = labels-read s (area_labels dirs g ss) (size g) (area-labels-length dirs g ss) area-label-small

-- edges between walkable cells of a map
pub sound-of : (g : Grid) (width : ℕ) (bytes : List ℕ) → Among (walkable g) (named width bytes) → OpenBytesSound g.cells width bytes
unfolding walkable
sound-of g width bytes among = record { ends = among }
