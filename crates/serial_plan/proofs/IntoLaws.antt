-- A rank goes into what its group retains if a chosen link joins it.
use mathlib.Core.Path.{◌≡◌, ◌∙◌}
use mathlib.Core.Bool.{Bool, cond}
use mathlib.Core.List.{List}
use Prim.Native.Nat.{ℕ}
use borrow.Author.Tests.{eq-eqb, ne_eqb}
use lib.Dec.{eqb}
use Rattle.lists.specs.Rows.{at}
use Rattle.serial_links.specs.Limits.{Limits}
use Rattle.serial_plan.specs.Arrays.{ranks_in, numbers_in, FirstAre}
use Rattle.serial_plan.specs.Shape.{retained_in}
use Rattle.serial_plan.specs.Told.{serial_in, flat_in}
use Rattle.serial_plan.specs.Into.{group_into, serial_into, flat_into, goes_to}

pub no-group : (x : ℕ) {j : ℕ} → (j ≡ 1 → ⊥) → 256 ≡ cond (eqb j 1) x 256
no-group x {j} n = let h = ne_eqb j 1 n in rw h

pub one-group : {j v x : ℕ} → j ≡ 1 → v ≡ x → v ≡ cond (eqb j 1) x 256
one-group {j} e q = let h = eq-eqb j 1 e in rw h q

-- ranks of one part go into the same rank
together : (into : ℕ → ℕ) {j k p q : ℕ} → j ≡ k → p ≡ q → cond (eqb j 1) (into p) 256 ≡ cond (eqb k 1) (into q) 256
together into e f = cc

module _ (accepts : List ℕ → List ℕ → Bool) (limits : Limits) (n : ℕ) (own bits firsts : List ℕ) (links : ℕ) (chosen joined parts : List ℕ) where
  pub goes-together : (e i : ℕ) {v : ℕ} → at joined e ≡ at joined i → at parts e ≡ at parts i
      → v ≡ group_into accepts limits n own bits firsts links chosen joined parts e → v ≡ group_into accepts limits n own bits firsts links chosen
      joined parts i
  unfolding group_into
  goes-together e i p q h =
      h ∙ together
      (λ c. cond (accepts (ranks_in n joined parts c) (numbers_in links chosen firsts parts c)) (retained_in limits own bits (ranks_in n joined parts c)) 256)
      p q

module _ (limits : Limits) (n : ℕ) (own bits lowers highers regions firsts seconds : List ℕ) (links : ℕ) (chosen joined parts : List ℕ) {m : ℕ}
    {into : List ℕ} where
  -- by the serial groups, and by the flat ones
  pub by-serial : (passing : List ℕ) → FirstAre
      (group_into (serial_in limits own lowers highers regions firsts seconds passing) limits n own bits firsts links chosen joined parts) m into
      → FirstAre (serial_into limits n own bits lowers highers regions firsts seconds links passing chosen joined parts) m into
  unfolding group_into serial_into
  by-serial passing f = record { size = f.size; each = λ i l. f.each i l }

  pub by-flat : FirstAre
      (group_into (flat_in limits own lowers highers regions firsts seconds) limits n own bits firsts links chosen joined parts) m into
      → FirstAre (flat_into limits n own bits lowers highers regions firsts seconds links chosen joined parts) m into
  unfolding group_into flat_into
  by-flat f = record { size = f.size; each = λ i l. f.each i l }

pub goes-serial : (s f i : ℕ) → (s ≡ 256 → ⊥) → s ≡ goes_to s f i
goes-serial s f i n = let h = ne_eqb s 256 n in rw h
