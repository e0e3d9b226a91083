-- The first 65,537 bytes of an input settle what is printed for it.
use mathlib.Core.Path.{◌≡◌, refl, sym, ◌∙◌, ap}
use mathlib.Core.Bool.{Bool, true, false}
use mathlib.Core.List.{List, [], ◌++◌, append-nil}
use Prim.Native.Nat.{ℕ, ◌+◌, ◌≤◌, ◌<◌}
use native.Mathlib.Omega.{arith}
use borrow.Author.Tests.{lt-ltb, le-ltb, ltb-true, ltb-false}
use lib.Dec.{ltb}
use lib.ListN.{length, take, drop, length-replicate}
use lib.Seq.{length-take-le, take_all, drop-length}
use Rattle.wire.specs.Bytes.{splice}
use Rattle.thresholds.specs.Block.{block000}
use Rattle.thresholds.proofs.Blocks.{block-000}
use Rattle.results.specs.Calls.{reduce_result}
use Rattle.printing.specs.Printed.{printed}
use Rattle.printing.specs.ChokeList.{lent_work, lent_answer, zeros, most_input, too_large, choke_list, Reads}

pub length-zeros : (n : ℕ) → length (zeros n) ≡ n
length-zeros n = length-replicate n 0

-- Over the limit, and up to it.
pub over-limit : (input : List ℕ) → most_input < length input → too_large ≡ choke_list input
unfolding choke_list
over-limit input h = rw (lt-ltb most_input (length input) h)

pub within-limit : (input : List ℕ) → length input ≤ most_input
    → printed (reduce_result input block000 (zeros lent_work) (zeros lent_answer)) ≡ choke_list input
unfolding choke_list
within-limit input h = rw (le-ltb most_input (length input) h)

whole-splice : (s bs : List ℕ) → length s ≡ length bs → splice s 0 bs ≡ bs
unfolding splice
whole-splice s bs e =
    let all : 0 + length bs ≡ length s = omega arith in
    ap (λ (n : ℕ). bs ++ drop n s) all ∙ (ap (λ (t : List ℕ). bs ++ t) (drop-length s) ∙ append-nil bs)

-- The block of source document 000 fills the array that it is written to.
pub lent-block : (before : List ℕ) {after : List ℕ} → length before ≡ 64 → after ≡ splice before 0 block000 → after ≡ block000
lent-block before e f = f ∙ whole-splice before block000 (e ∙ sym block-000.long)

-- A buffer of more bytes than the limit is enough.
pub read-enough : (input buffer : List ℕ) (n : ℕ) → most_input < length buffer → Reads input buffer n → choke_list (take n buffer) ≡ choke_list input
read-enough input buffer n h r = ap choke_list r.first ∙ go (ltb (length buffer) (length input)) refl
  where
    go : (t : Bool) → ltb (length buffer) (length input) ≡ t → choke_list (take (length buffer) input) ≡ choke_list input
    go true e =
        let l = ltb-true (length buffer) (length input) e in
        sym (over-limit (take (length buffer) input) (omega (arith, h, length-take-le (length buffer) input (omega arith)))) ∙ over-limit input (omega arith)
    go false e = ap choke_list (take_all (length buffer) input (ltb-false (length buffer) (length input) e))
