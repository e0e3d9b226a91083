-- One value changed, of a function and of a list.
use Prim.Native.Nat.{ℕ, ◌<◌}
use native.Mathlib.Decide.{ℕ_discrete}
use mathlib.Core.Path.{◌≡◌, refl, sym, ◌∙◌, ap}
use mathlib.Core.Logic.{by_cases}
use mathlib.Core.Bool.{Bool, cond}
use mathlib.Core.List.{List}
use lib.ListN.{length, set}
use lib.Seq.{get_or-set_same, get_or-set_other}
use borrow.Author.Tests.{eq-eqb, ne_eqb}
use Rattle.lists.specs.Rows.{at}
use Rattle.serial_walk.proofs.Zeros.{Upd}
use Rattle.serial_walk.specs.Slices.{put}

pub put-at : (f : ℕ → ℕ) (i v : ℕ) → put f i v i ≡ v
put-at f i v = ap (λ (b : Bool). cond b v (f i)) (eq-eqb i i refl)

pub put-off : (f : ℕ → ℕ) (i v j : ℕ) → (j ≡ i → ⊥) → put f i v j ≡ f j
put-off f i v j h = ap (λ (b : Bool). cond b v (f j)) (ne_eqb j i h)

pub putting : (f : ℕ → ℕ) (i v : ℕ) → Upd f (put f i v) i v
putting f i v = record { at = put-at f i v; off = λ j h. put-off f i v j h }

pub reputting : (f : ℕ → ℕ) (i a b : ℕ) → (j : ℕ) → (j ≡ i → ⊥) → put f i b j ≡ put f i a j
reputting f i a b j h = put-off f i b j h ∙ sym (put-off f i a j h)

pub set-put : (l : List ℕ) (i v : ℕ) → i < length l → (m : ℕ) → at (set l i v) m ≡ put (at l) i v m
set-put l i v h m =
    by_cases (ℕ_discrete m i)
    (λ e. ap (λ (x : ℕ). at (set l i v) x) e ∙ get_or-set_same l i v 0 h ∙ sym (ap (λ (x : ℕ). put (at l) i v x) e ∙ put-at (at l) i v))
    (λ e. get_or-set_other l i m v 0 e ∙ sym (put-off (at l) i v m e))

-- the same value at the same place
pub set-as : (l : List ℕ) {i j v w : ℕ} → i ≡ j → v ≡ w → set l i v ≡ set l j w
set-as l {i} {j} {v} {w} a b = ap (λ (x : ℕ). set l x v) a ∙ ap (λ (x : ℕ). set l j x) b
