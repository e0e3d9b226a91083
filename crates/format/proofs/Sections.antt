-- Laws of lists that stand one after another in a list of bytes.
use mathlib.Core.Path.{◌≡◌, sym, ◌∙◌, ap}
use mathlib.Core.List.{List, ◌++◌}
use Prim.Native.Nat.{ℕ, ◌+◌}
use native.Mathlib.Omega.{arith}
use lib.ListN.{length, take, drop}
use lib.Seq.{take_at, drop_at, take_all, take-take, drop-drop}
use Rattle.wire.specs.Bytes.{part}
use Rattle.wire.proofs.Parts.{part-part}

-- The front of a part that is two lists joined is the first list.
pub part-first : (s : List ℕ) (i n m : ℕ) (a b : List ℕ) → length a ≡ n → part s i (n + m) ≡ a ++ b → part s i n ≡ a
unfolding part
part-first s i n m a b l e = sym (take-take n (n + m) (drop i s) (omega arith)) ∙ ap (take n) e ∙ take_at a b n l

-- What follows it is the second.
pub part-second : (s : List ℕ) (i n m : ℕ) (a b : List ℕ) → length a ≡ n → length b ≡ m → part s i (n + m) ≡ a ++ b → part s (i + n) m ≡ b
unfolding part
part-second s i n m a b l k e =
    sym (part-part s i (n + m) n m (omega arith))
    ∙ ap (λ (t : List ℕ). part t n m) e
    ∙ ap (take m) (drop_at a b n l)
    ∙ take_all m b (omega arith)

-- Where a list stands from i on, and more after it, the part there is that list.
pub part-here : (s : List ℕ) (i n : ℕ) (a b : List ℕ) → length a ≡ n → drop i s ≡ a ++ b → part s i n ≡ a
unfolding part
part-here s i n a b l e = ap (take n) e ∙ take_at a b n l

-- What is more stands from its end on.
pub drop_here : (s : List ℕ) (i n : ℕ) (a b : List ℕ) → length a ≡ n → drop i s ≡ a ++ b → drop (i + n) s ≡ b
drop_here s i n a b l e = sym (drop-drop n i s) ∙ ap (drop n) e ∙ drop_at a b n l

-- Where nothing stands after a list, the part is that list too.
pub part-last : (s : List ℕ) (i n : ℕ) (a : List ℕ) → length a ≡ n → drop i s ≡ a → part s i n ≡ a
unfolding part
part-last s i n a l e = ap (take n) e ∙ take_all n a (omega arith)
