-- Which rank a rank goes into, by arrays: the one that the group of its part retains, 256 where no accepted group has it.
use Rattle.std.proofs.Math.Bool.{cond}
use Rattle.std.specs.Prelude.{Bool, List, ℕ, eqb}
use Rattle.lists.specs.Rows.{at}
use Rattle.serial_links.specs.Limits.{Limits}
use Rattle.serial_plan.specs.Arrays.{is_on, ranks_in, numbers_in}
use Rattle.serial_plan.specs.Shape.{retained_in}
use Rattle.serial_plan.specs.Told.{serial_in, flat_in}

-- by the groups that a test of their ranks and links accepts
module _ (accepts : List ℕ → List ℕ → Bool) (limits : Limits) (n : ℕ) (own bits firsts : List ℕ) (links : ℕ) (chosen joined parts : List ℕ) where
  unfoldable pub group_into : ℕ → ℕ
  unfolding retained_in
  group_into i =
      cond (is_on joined i)
      (cond (accepts (ranks_in n joined parts (at parts i)) (numbers_in links chosen firsts parts (at parts i)))
      (retained_in limits own bits (ranks_in n joined parts (at parts i))) 256) 256

-- into the serial group's rank, otherwise into the flat group's, otherwise into itself
abbrev pub goes_to : ℕ → ℕ → ℕ → ℕ
goes_to s f i = cond (eqb s 256) (cond (eqb f 256) i f) s

module _ (limits : Limits) (n : ℕ) (own bits lowers highers regions firsts seconds : List ℕ) (links : ℕ) where
  unfoldable pub serial_into : List ℕ → List ℕ → List ℕ → List ℕ → ℕ → ℕ
  unfolding serial_in retained_in
  serial_into passing chosen joined parts i =
      cond (is_on joined i)
      (cond (serial_in limits own lowers highers regions firsts seconds passing (ranks_in n joined parts (at parts i))
      (numbers_in links chosen firsts parts (at parts i)))
      (retained_in limits own bits (ranks_in n joined parts (at parts i))) 256) 256

  unfoldable pub flat_into : List ℕ → List ℕ → List ℕ → ℕ → ℕ
  unfolding flat_in retained_in
  flat_into chosen joined parts i =
      cond (is_on joined i)
      (cond (flat_in limits own lowers highers regions firsts seconds (ranks_in n joined parts (at parts i))
      (numbers_in links chosen firsts parts (at parts i)))
      (retained_in limits own bits (ranks_in n joined parts (at parts i))) 256) 256
