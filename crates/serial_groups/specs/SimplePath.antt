-- Groups that are a simple path between two different regions: 000's `group_is_simple_path`.
use Rattle.std.specs.Prelude.{◌≡◌, Bool, not, ◌&&◌, ℕ, suc, ◌≤◌, leb, eqb, length, get_or}
use mathlib.Core.List.{List, Memᴰ}
use Rattle.order.specs.Lists.{keep}
use Rattle.grid.specs.Cells.{Grid}
use Rattle.context.specs.FullPair.{full_pair, other_region}
use Rattle.serial_links.specs.Limits.{Limits}
use Rattle.order.specs.Tests.{every}
use Rattle.context.specs.Listing.{Item}
use Rattle.serial_groups.specs.Regions.{assess_at}
use Rattle.serial_groups.specs.Links.{LinkAt, joins}
use Rattle.serial_groups.specs.Groups.{LinkGroup}

-- the group's links that join a rank
unfoldable pub links_at : LinkGroup → ℕ → List LinkAt
unfolding keep
links_at a i = keep (joins i) a.links

abbrev pub degree : LinkGroup → ℕ → ℕ
degree a i = length (links_at a i)

-- the ranks of degree 1, in order
unfoldable pub ends_of : LinkGroup → List ℕ
unfolding links_at keep
ends_of a = keep (λ i. eqb (degree a i) 1) a.ranks

abbrev pub first_end : LinkGroup → ℕ
first_end a = get_or (ends_of a) 0 0

abbrev pub last_end : LinkGroup → ℕ
last_end a = get_or (ends_of a) 1 0

-- one link fewer than ranks, two ends of degree 1, and no degree over 2
unfoldable pub is_path : LinkGroup → Bool
unfolding ends_of every
is_path a =
    (eqb (suc (length a.links)) (length a.ranks) && eqb (length (ends_of a)) 2)
    && every (λ i. leb 1 (degree a i) && leb (degree a i) 2) a.ranks

abbrev pub no_link : LinkAt
no_link = record { region = 0; first = 0; second = 0 }

-- the region on the other side of an end
unfoldable pub outer_region : List ℕ → Grid → List Item → LinkGroup → ℕ → ℕ
unfolding assess_at other_region links_at
outer_region dirs g l a i = other_region (full_pair (assess_at dirs g l i)) (get_or (links_at a i) 0 no_link).region

-- such a path, of at least so many boundaries and at most the limit's, whose outer regions differ
unfoldable pub simple_path : Limits → List ℕ → Grid → List Item → ℕ → LinkGroup → Bool
unfolding is_path outer_region
simple_path limits dirs g l least a =
    ((leb least (length a.ranks) && leb (length a.ranks) limits.most_spans) && is_path a)
    && not (eqb (outer_region dirs g l a (first_end a)) (outer_region dirs g l a (last_end a)))

-- the meaning
pub record IsSimplePath (limits : Limits) (dirs : List ℕ) (g : Grid) (l : List Item) (least : ℕ) (a : LinkGroup) : Type 0 where
  pub enough : least ≤ length a.ranks
  pub most : length a.ranks ≤ limits.most_spans
  pub one_fewer : suc (length a.links) ≡ length a.ranks
  pub two_ends : length (ends_of a) ≡ 2
  pub degrees : (i : ℕ) → Memᴰ i a.ranks → (1 ≤ degree a i) × (degree a i ≤ 2)
  pub outer : outer_region dirs g l a (first_end a) ≡ outer_region dirs g l a (last_end a) → ⊥
