-- Paths over a relation of steps.

-- steps lead from the first to the second
pub data Connected {A : Type 0} (step : A → A → Type 0) : A → A → Type 0 where
  here : {a : A} → Connected step a a
  onward : {a b c : A} → step a b → Connected step b c → Connected step a c
