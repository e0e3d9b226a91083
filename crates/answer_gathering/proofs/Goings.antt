-- Those that go into one rank, one rank after another.
use mathlib.Core.Path.{◌≡◌, refl, sym, ◌∙◌, ap, subst}
use mathlib.Core.Bool.{Bool, true, false, cond}
use mathlib.Core.List.{List, [], ◌∷◌, ◌++◌, append-nil}
use Prim.Native.Nat.{ℕ, ◌+◌, ◌≤◌, ◌<◌}
use native.Mathlib.Omega.{arith}
use lib.Dec.{eqb}
use lib.ListN.{length, get_or}
use borrow.Author.Tests.{eq-eqb, eqb-true}
use Rattle.order.specs.Lists.{gather}
use Rattle.order.proofs.Bools.{is_false}
use Rattle.lists.proofs.Rows.{sum-prefix}
use Rattle.answer_sources.specs.Laying.{sum_below}
use Rattle.answer_sources.proofs.Lays.{below_next}
use Rattle.answer_sources.proofs.Stands.{members-last, members-none}
use Rattle.answer_gathering.specs.Runs.{Appended, going, into}
use Rattle.answer_gathering.proofs.Fills.{added_none, added_is, added_then}
use Rattle.order.proofs.Gather.{gather_append}

gather-one : {A : Type 0} (f : ℕ → List A) (b : Bool) (j : ℕ) → gather f (cond b (j ∷ []) []) ≡ cond b (f j) []
unfolding gather
gather-one f true j = append-nil (f j)
gather-one f false j = refl

pub gather-last : {A : Type 0} (f : ℕ → List A) (plan : List ℕ) (j i : ℕ)
    → gather f (going plan (j + 1) i) ≡ gather f (going plan j i) ++ cond (eqb (get_or plan j 0) i) (f j) []
gather-last {A} f plan j i =
    ap (gather f) (members-last plan j i)
    ∙ (gather_append f (going plan j i) (cond (eqb (get_or plan j 0) i) (j ∷ []) [])
    ∙ ap (λ (t : List A). gather f (going plan j i) ++ t) (gather-one f (eqb (get_or plan j 0) i) j))

pub gather_none : {A : Type 0} (f : ℕ → List A) (plan : List ℕ) (i : ℕ) → gather f (going plan 0 i) ≡ []
unfolding gather
gather_none f plan i = ap (gather f) (members-none plan i)

length-cond : {A : Type 0} (b : Bool) (l : List A) → length (cond b l []) ≡ cond b (length l) 0
length-cond true l = refl
length-cond false l = refl

cond-le : (b : Bool) (k m : ℕ) → k ≤ m → cond b k 0 ≤ cond b m 0
cond-le true k m h = h
cond-le false k m h = omega arith

-- One more rank's run, if it goes into rank i.
module _ {l₀ l m : List ℕ} {from to r : ℕ} (f : ℕ → List ℕ) (plan : List ℕ) (j i : ℕ)
    (a : Appended l₀ from (gather f (going plan j i)) l to) (g : Appended l to (cond (eqb (get_or plan j 0) i) (f j) []) m r) where
  pub runs-next : Appended l₀ from (gather f (going plan (j + 1) i)) m r
  runs-next = added_is (added_then a g) refl (sym (gather-last f plan j i))

  pub weight-next : (w : ℕ → ℕ) → length (f j) ≤ w j → to ≤ from + sum_below (into plan w i) j → r ≤ from + sum_below (into plan w i) (j + 1)
  weight-next w h e =
      omega (
        arith,
        e,
        g.ends,
        length-cond (eqb (get_or plan j 0) i) (f j),
        cond-le (eqb (get_or plan j 0) i) (length (f j)) (w j) h,
        below_next (into plan w i) j,
      )

pub runs-start : (f : ℕ → List ℕ) (plan : List ℕ) (i : ℕ) (l : List ℕ) (from : ℕ) → Appended l from (gather f (going plan 0 i)) l from
runs-start f plan i l from = added_is (added_none l from) refl (sym (gather_none f plan i))

pub runs-end : {l m : List ℕ} {from to : ℕ} (f : ℕ → List ℕ) (w : ℕ → ℕ) (plan : List ℕ) (i j n : ℕ) → Appended l from (gather f (going plan j i)) m to
    → to ≤ from + sum_below (into plan w i) j → j ≤ n → n ≤ j
    → Appended l from (gather f (going plan n i)) m to × (to ≤ from + sum_below (into plan w i) n)
runs-end {l} {m} {from} {to} f w plan i j n a b h k =
    let e : j ≡ n = omega arith in
    (added_is a refl (ap (λ (z : ℕ). gather f (going plan z i)) e), subst (λ (z : ℕ). to ≤ from + sum_below (into plan w i) z) e b)

-- Nothing of a rank that goes elsewhere, its run of one that goes there.
pub elsewhere : (l xs : List ℕ) (to : ℕ) {x y z : ℕ} → z ≡ x → (z ≡ y → ⊥) → Appended l to (cond (eqb x y) xs []) l to
elsewhere l xs to {x} {y} e h = rw (is_false (eqb x y) (λ q. h (e ∙ eqb-true x y q))) (added_none l to)

pub there : {l m xs : List ℕ} {to r x y z : ℕ} → z ≡ x → z ≡ y → Appended l to xs m r → Appended l to (cond (eqb x y) xs []) m r
there {x = x} {y = y} e h a = rw (eq-eqb x y (sym e ∙ h)) a

-- The first ranks weigh no more than all.
pub into-part : (plan : List ℕ) (w : ℕ → ℕ) (i j n : ℕ) → j < n → sum_below (into plan w i) j + into plan w i j ≤ sum_below (into plan w i) n
into-part plan w i j n h = omega (arith, below_next (into plan w i) j, sum-prefix (j + 1) n (into plan w i) (omega arith))
