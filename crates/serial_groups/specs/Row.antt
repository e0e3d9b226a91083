-- A simple path as an order of its ranks.
use Rattle.std.specs.Prelude.{List, [], ◌∷◌, ℕ}
use Rattle.order.specs.Pairs.{Distinct, SameMembers}
use Rattle.serial_groups.specs.Links.{LinkAt}
use Rattle.serial_groups.specs.Groups.{LinkGroup}
use Rattle.serial_groups.specs.ConnectedPart.{LinkJoins}

-- ranks in a row, each joined with the next by a link
pub data Row : List ℕ → List LinkAt → Type 0 where
  alone : {i : ℕ} → Row (i ∷ []) []
  linked : {i j : ℕ} {is : List ℕ} {k : LinkAt} {ks : List LinkAt} → LinkJoins k i → LinkJoins k j → Row (j ∷ is) ks → Row (i ∷ j ∷ is) (k ∷ ks)

-- all ranks of the group stand in such a row, each once, and it has no other links
pub record InARow (a : LinkGroup) : Type 0 where
  pub order : List ℕ
  pub between : List LinkAt
  pub row : Row order between
  pub once : Distinct order
  pub ranks : SameMembers order a.ranks
  pub links : SameMembers between a.links
