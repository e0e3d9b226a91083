-- The first check that holds: one after another, and number by number.
use mathlib.Core.Path.{◌≡◌, refl, sym, ◌∙◌, ap}
use mathlib.Core.Bool.{Bool, true, false, cond}
use mathlib.Core.List.{List, [], ◌∷◌, ◌++◌}
use mathlib.Core.Option.{Option, none, some}
use Prim.Native.Nat.{ℕ, zero, suc, ◌+◌, ◌<◌, ◌≤◌}
use native.Mathlib.Decide.{ℕ_discrete}
use native.Mathlib.Numerals.{add-one}
use native.Mathlib.Omega.{arith}
use Rattle.lists.specs.Rows.{All, none as All-none}
use Rattle.lists.proofs.Each.{all_append}
use Rattle.checks.specs.Checks.{Refusal, Check, first_refusal, each}

pub never : {X : Type 0} {r : Refusal} → ◌≡◌ {A = Option Refusal} none (some r) → X
never e = let z : ◌≡◌ {A = ℕ} 0 1 = cc in absurd (omega arith)

pub same-refusal : {q r : Refusal} → ◌≡◌ {A = Option Refusal} (some q) (some r) → q ≡ r
same-refusal e = cc

-- A check that does not hold is passed over; one that holds decides.
pub skip : (c : Check) (cs : List Check) → c.holds ≡ false → first_refusal (c ∷ cs) ≡ first_refusal cs
unfolding first_refusal
skip c cs e = rw e

pub stop : (c : Check) (cs : List Check) → c.holds ≡ true → first_refusal (c ∷ cs) ≡ some c.refusal
unfolding first_refusal
stop c cs e = rw e

-- Where no check of a list of one or two holds.
pub clear : (c : Check) → c.holds ≡ false → first_refusal (c ∷ []) ≡ none
unfolding first_refusal
clear c e = skip c [] e

pub clear-two : (c d : Check) → c.holds ≡ false → d.holds ≡ false → first_refusal (c ∷ d ∷ []) ≡ none
clear-two c d e f = skip c _ e ∙ clear d f

pub append-none : (a b : List Check) → first_refusal a ≡ none → first_refusal (a ++ b) ≡ first_refusal b
unfolding first_refusal
append-none [] b e = refl
append-none (c ∷ a) b e = go c.holds (append-none a b) e
  where
    go : (t : Bool) → (first_refusal a ≡ none → first_refusal (a ++ b) ≡ first_refusal b) → cond t (some c.refusal) (first_refusal a) ≡ none
        → cond t (some c.refusal) (first_refusal (a ++ b)) ≡ first_refusal b
    go true ih f = never (sym f)
    go false ih f = ih f

pub append-some : (a b : List Check) (r : Refusal) → first_refusal a ≡ some r → first_refusal (a ++ b) ≡ some r
unfolding first_refusal
append-some [] b r e = never e
append-some (c ∷ a) b r e = go c.holds (append-some a b r) e
  where
    go : (t : Bool) → (first_refusal a ≡ some r → first_refusal (a ++ b) ≡ some r) → cond t (some c.refusal) (first_refusal a) ≡ some r
        → cond t (some c.refusal) (first_refusal (a ++ b)) ≡ some r
    go true ih f = f
    go false ih f = ih f

-- Where none of the two lists' checks holds, none of either's does.
pub none_left : (a b : List Check) → first_refusal (a ++ b) ≡ none → first_refusal a ≡ none
none_left a b e = go (first_refusal a) refl
  where
    go : (o : Option Refusal) → first_refusal a ≡ o → o ≡ none
    go none f = refl
    go (some r) f = never (sym e ∙ append-some a b r f)

pub none_right : (a b : List Check) → first_refusal (a ++ b) ≡ none → first_refusal b ≡ none
none_right a b e = sym (append-none a b (none_left a b e)) ∙ e

pub none-head : (c : Check) (cs : List Check) → first_refusal (c ∷ cs) ≡ none → (c.holds ≡ false) × (first_refusal cs ≡ none)
unfolding first_refusal
none-head c cs e = go c.holds e
  where
    go : (t : Bool) → cond t (some c.refusal) (first_refusal cs) ≡ none → (t ≡ false) × (first_refusal cs ≡ none)
    go true f = never (sym f)
    go false f = (refl, f)

-- The loop's next turn.
pub each_next : (f : ℕ → List Check) (i : ℕ) → first_refusal (each i f) ≡ none → first_refusal (f i) ≡ none → first_refusal (each (i + 1) f) ≡ none
unfolding each
each_next f i e g = rw add-one (append-none (each i f) (f i) e ∙ g)

-- The first number whose checks hold decides, however many follow.
pub each-found : (f : ℕ → List Check) (i n : ℕ) (r : Refusal) → i < n → first_refusal (each i f) ≡ none → first_refusal (f i) ≡ some r
    → first_refusal (each n f) ≡ some r
unfolding each
each-found f i zero r h e g = absurd (omega arith)
each-found f i (suc n) r h e g = go (ℕ_discrete i n) (λ l. each-found f i n r l e g)
  where
    go : Dec (i ≡ n) → (i < n → first_refusal (each n f) ≡ some r) → first_refusal (each n f ++ f n) ≡ some r
    go (yes p) ih = rw (sym p) (append-none (each i f) (f i) e ∙ g)
    go (no p) ih = append-some (each n f) (f n) r (ih (omega arith))

pub each_none : (f : ℕ → List Check) (n i : ℕ) → i < n → first_refusal (each n f) ≡ none → first_refusal (f i) ≡ none
unfolding each
each_none f zero i h e = absurd (omega arith)
each_none f (suc n) i h e = go (ℕ_discrete i n) (λ l. each_none f n i l (none_left (each n f) (f n) e))
  where
    go : Dec (i ≡ n) → (i < n → first_refusal (f i) ≡ none) → first_refusal (f i) ≡ none
    go (yes p) ih = rw p (none_right (each n f) (f n) e)
    go (no p) ih = ih (omega arith)

-- What holds of the checks of every number holds of all.
pub each_all : {P : Check → Type 0} (n : ℕ) (f : ℕ → List Check) → ((i : ℕ) → All P (f i)) → All P (each n f)
unfolding each
each_all zero f h = All-none
each_all (suc n) f h = all_append (each_all n f h) (h n)

-- A loop over the checks of 0 to n − 1 that has come to i: none before it holds.
pub record Clean (f : ℕ → List Check) (n i : ℕ) : Type 0 where
  pub below : i ≤ n
  pub clean : first_refusal (each i f) ≡ none

pub clean-start : (f : ℕ → List Check) (n : ℕ) → Clean f n 0
unfolding each first_refusal
clean-start f n = record { below = omega arith; clean = refl }

pub clean-next : {f : ℕ → List Check} {n i : ℕ} → Clean f n i → i < n → first_refusal (f i) ≡ none → Clean f n (i + 1)
clean-next {f} {n} {i} c h e = record { below = omega arith; clean = each_next f i c.clean e }

pub clean_found : {f : ℕ → List Check} {n i : ℕ} {r : Refusal} → Clean f n i → i < n → first_refusal (f i) ≡ some r → some r ≡ first_refusal (each n f)
clean_found {f} {n} {i} {r} c h e = sym (each-found f i n r h c.clean e)

pub clean_end : {f : ℕ → List Check} {n i : ℕ} → Clean f n i → n ≤ i → none ≡ first_refusal (each n f)
clean_end {f} {n} {i} c h =
    let e : i ≡ n = omega (arith, c.below) in
    rw (sym e) (sym c.clean)

-- What a test answered of a record that was read holds of the record.
pub told : {A : Type 0} (f : A → Bool) {a b : A} {t v : Bool} → a ≡ b → t ≡ f a → t ≡ v → f b ≡ v
told f e g h = ap f (sym e) ∙ sym g ∙ h
