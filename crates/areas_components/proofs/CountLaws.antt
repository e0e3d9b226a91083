-- Cells of a label counted one by one, and zeros filled in.
use mathlib.Core.Path.{◌≡◌, refl, ◌∙◌, ap}
use mathlib.Core.Bool.{Bool, true, false, cond}
use mathlib.Core.List.{List, [], ◌∷◌, ◌++◌}
use mir.Val.{bool_byte}
use Prim.Native.Nat.{ℕ, ◌+◌, ◌-◌, ◌≤◌}
use native.Mathlib.Omega.{arith}
use borrow.Rule.Slice.PartMut.{mid_of, put_mid}
use lib.Dec.{eqb}
use lib.ListN.{length, take, drop, replicate, length-append, length-replicate}
use Rattle.std.proofs.lemmas.List.{length-take, length-drop, drop-drop}
use Rattle.order.specs.Lists.{keep}
use Rattle.order.proofs.Keep.{keep_append}
use Rattle.wire.specs.Bytes.{splice}
use Rattle.areas.specs.Areas.{cell_count}
use Rattle.areas.specs.Words.{word, labels_in}
use Rattle.areas.proofs.Words.{words_last}

one_kept : (b : Bool) (x : ℕ) → length (cond b (x ∷ []) []) ≡ bool_byte b
one_kept true x = refl
one_kept false x = refl

at_most_one : (b : Bool) → bool_byte b ≤ 1
at_most_one true = omega arith
at_most_one false = omega arith

count_next : (w : List ℕ) (n r : ℕ) → cell_count (labels_in w (n + 1)) r ≡ cell_count (labels_in w n) r + bool_byte (eqb r (word w n))
unfolding cell_count keep
count_next w n r =
    ap (λ (l : List ℕ). length (keep (eqb r) l)) (words_last w n)
    ∙ (ap length (keep_append (eqb r) (labels_in w n) (word w n ∷ []))
    ∙ (length-append (keep (eqb r) (labels_in w n)) (keep (eqb r) (word w n ∷ []))
    ∙ ap (λ (k : ℕ). length (keep (eqb r) (labels_in w n)) + k) (one_kept (eqb r (word w n)) (word w n))))

-- one cell more, of label x: b is 1 where that is r
pub counted_more : (w : List ℕ) (r : ℕ) {n x b count : ℕ} → x ≡ word w n → b ≡ bool_byte (eqb r x) → count ≤ n → count ≡ cell_count (labels_in w n) r
    → (count + b ≤ n + 1) × (count + b ≡ cell_count (labels_in w (n + 1)) r)
counted_more w r {n} {x} {b} e f l h =
    let g = f ∙ ap (λ (y : ℕ). bool_byte (eqb r y)) e in
    (omega (arith, g, at_most_one (eqb r (word w n))), omega (arith, g, h, count_next w n r))

-- zeros in the place of the elements from `from` up to `to`
pub zeros_put : (s ys : List ℕ) (from to : ℕ) → from ≤ to → to ≤ length s → ys ≡ replicate (length (mid_of from (to - from) s)) 0
    → put_mid from (to - from) s ys ≡ splice s from (replicate (to - from) 0)
unfolding splice
zeros_put s ys from to l h e =
    let many : length (mid_of from (to - from) s) ≡ to - from = omega (arith, length-take (to - from) (drop from s), length-drop from s) in
    let same = e ∙ ap (λ (k : ℕ). replicate k 0) many in
    let after : from + (to - from) ≡ from + length (replicate {A = ℕ} (to - from) 0) = omega (arith, length-replicate {A = ℕ} (to - from) 0) in
    ap (λ (y : List ℕ). take from s ++ (y ++ drop (to - from) (drop from s))) same
    ∙ ap (λ (z : List ℕ). take from s ++ (replicate (to - from) 0 ++ z)) (drop-drop (to - from) from s ∙ ap (λ (k : ℕ). drop k s) after)
