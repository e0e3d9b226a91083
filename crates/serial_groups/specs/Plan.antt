-- Which rank each rank goes into where the accepted groups are merged. Document 01: "Merging a group puts one consolidated boundary in its members' stead",
-- "a merged one counting as its retained member".
use Rattle.std.specs.Prelude.{cond, List, [], ◌∷◌, ℕ}
use Rattle.order.specs.Lists.{has}
use Rattle.position.specs.declared.WalkPosition.{WalkPosition}
use Rattle.grid.specs.Cells.{Grid}
use Rattle.serial_links.specs.Limits.{Limits}
use Rattle.context.specs.Listing.{Item}
use Rattle.serial_groups.specs.Groups.{LinkGroup}
use Rattle.serial_groups.specs.Flat.{accepted}
use Rattle.serial_groups.specs.Representative.{retained}

-- the rank that its group retains, or itself where no group has it
unfoldable pub goes_into : Limits → List Item → List LinkGroup → ℕ → ℕ
unfolding has retained
goes_into limits l [] i = i
goes_into limits l (a ∷ rest) i = cond (has i a.ranks) (retained limits l a.ranks) (goes_into limits l rest i)

-- by the accepted groups
unfoldable pub merge_plan : Limits → List ℕ → Grid → List WalkPosition → List Item → ℕ → ℕ
unfolding goes_into accepted
merge_plan limits dirs g anchors l i = goes_into limits l (accepted limits dirs g anchors l) i
