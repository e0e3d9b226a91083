-- Laws of paths over a relation of steps.
use mathlib.Core.Path.{◌≡◌, subst}
use Rattle.serial_walk.specs.Steps.{Connected, here, onward}

module _ {A : Type 0} {step : A → A → Type 0} where
  pub one : {a b : A} → step a b → Connected step a b
  one s = onward s here

  pub joined : {a b c : A} → Connected step a b → Connected step b c → Connected step a c
  joined here q = q
  joined (onward s p) q = onward s (joined p q)

  pub turned : ((x y : A) → step x y → step y x) → {a b : A} → Connected step a b → Connected step b a
  turned turn here = here
  turned turn (onward {a} {b} s p) = joined (turned turn p) (one (turn a b s))

  -- what each step keeps, a path keeps
  pub kept : (P : A → Type 0) → ((x y : A) → step x y → P x → P y) → {a b : A} → Connected step a b → P a → P b
  kept P keep here h = h
  kept P keep (onward {a} {b} s p) h = kept P keep p (keep a b s h)

  pub moved : {a b a' b' : A} → a ≡ a' → b ≡ b' → Connected step a b → Connected step a' b'
  moved {a} {b} {a'} {b'} e f p = subst (λ (x : A). Connected step x b') e (subst (λ (y : A). Connected step a y) f p)

-- more steps, more paths
pub wider : {A : Type 0} {step wide : A → A → Type 0} → ((x y : A) → step x y → wide x y) → {a b : A} → Connected step a b → Connected wide a b
wider w here = here
wider w (onward {a} {b} s p) = onward (w a b s) (wider w p)
