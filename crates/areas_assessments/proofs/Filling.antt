-- A number put at places in a row.
use mathlib.Core.Path.{◌≡◌, ◌∙◌, ap}
use mathlib.Core.List.{List, ◌++◌}
use Prim.Native.Nat.{ℕ, ◌-◌, ◌≤◌}
use native.Mathlib.Omega.{arith}
use borrow.Rule.Slice.PartMut.{mid_of, put_mid}
use lib.ListN.{length, take, drop, get_or, replicate, length-append, length-replicate, get_or-append}
use Rattle.std.proofs.lemmas.List.{length-take, length-take-le, length-drop, get_or-take, get_or-replicate, get_or-append_right}
use Rattle.areas_assessments.specs.Recording.{ConstantRun}

module _ (s ys : List ℕ) (start end v : ℕ) (h : start ≤ end) (room : end ≤ length s) (e : ys ≡ replicate (length (mid_of start (end - start) s)) v) where
  front : length (take start s) ≡ start
  front = length-take-le start s (omega arith)

  middle : length (mid_of start (end - start) s) ≡ end - start
  middle = omega (arith, length-take (end - start) (drop start s), length-drop start s)

  size : length ys ≡ end - start
  size = ap length e ∙ (length-replicate {A = ℕ} _ v ∙ middle)

  pub run-filled : ConstantRun s (put_mid start (end - start) s ys) start end v
  run-filled = record {
    below = λ j l. get_or-append (take start s) _ 0 j (omega (arith, front)) ∙ get_or-take start s j 0 l;
    here = λ j a b.
        get_or-append_right (take start s) _ start j 0 front a
        ∙ (get_or-append ys _ 0 (j - start) (omega (arith, size))
        ∙ (ap (λ (l : List ℕ). get_or l (j - start) 0) e ∙ get_or-replicate _ (j - start) v 0 (omega (arith, middle))));
  }

  pub run-long : length (put_mid start (end - start) s ys) ≡ length s
  run-long =
      let after = drop (end - start) (drop start s) in
      let less = length-drop (end - start) (drop start s) in
      omega (arith, length-append (take start s) (ys ++ after), length-append ys after, front, size, less, length-drop start s)
