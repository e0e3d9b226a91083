-- Tests and their values.
use mathlib.Core.Path.{◌≡◌, refl, sym, ◌∙◌}
use mathlib.Core.Logic.{◌⊎◌, inl, inr}
use mathlib.Core.Bool.{Bool, true, false, true≢false, ◌&&◌, ◌||◌}

-- a test has one value
pub clash : {X : Type 0} {t : Bool} → t ≡ true → t ≡ false → X
clash p q = absurd (true≢false (sym p ∙ q))

pub is_false : (t : Bool) → (t ≡ true → ⊥) → t ≡ false
is_false true h = absurd (h refl)
is_false false h = refl

pub by-test : {X : Type 0} (t : Bool) → (t ≡ true → X) → (t ≡ false → X) → X
by-test true f g = f refl
by-test false f g = g refl

pub and_parts : (s t : Bool) → s && t ≡ true → (s ≡ true) × (t ≡ true)
and_parts true t h = (refl, h)
and_parts false t h = clash h refl

pub and_both : {s t : Bool} → s ≡ true → t ≡ true → s && t ≡ true
and_both p q = rw p q

pub or_cases : (s t : Bool) → s || t ≡ true → (s ≡ true) ⊎ (t ≡ true)
or_cases true t h = inl refl
or_cases false t h = inr h

pub or_right : (s : Bool) {t : Bool} → t ≡ true → s || t ≡ true
or_right true h = refl
or_right false h = h

pub or_parts : (s t : Bool) → s || t ≡ false → (s ≡ false) × (t ≡ false)
or_parts true t h = clash refl h
or_parts false t h = (refl, h)

pub and_assoc : (p q r : Bool) → (p && (q && r)) ≡ ((p && q) && r)
and_assoc true q r = refl
and_assoc false q r = refl

pub and-true : (p : Bool) → (p && true) ≡ p
and-true true = refl
and-true false = refl
