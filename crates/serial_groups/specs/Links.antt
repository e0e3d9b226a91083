-- Which regions give a link. Document 01: "a region gives a link if no anchor lies in it, exactly two boundaries touch it,
-- both have distinct ends, no ramp and a full pair, and their centres differ".
use Rattle.std.specs.Prelude.{◌≡◌, ◌↔◌, ◌⊎◌, Bool, true, false, not, ◌&&◌, ◌||◌, ℕ, ◌<◌, ◌≤◌, length}
use mathlib.Core.List.{List, map}
use Rattle.std.proofs.Math.Dec.{eqb}
use Rattle.std.proofs.Math.ListN.{get_or}
use Rattle.order.specs.Lists.{keep, up_from}
use Rattle.position.specs.Order.{pos_same}
use Rattle.position.specs.declared.WalkPosition.{WalkPosition}
use Rattle.grid.specs.Cells.{Grid}
use Rattle.context.specs.FullPair.{touches, has_full_pair}
use Rattle.context.specs.Anchors.{is_anchored}
use Rattle.serial_links.specs.Geometry.{squares, doubled_centre}
use Rattle.context.specs.Listing.{Item}
use Rattle.serial_groups.specs.Listing.{boundary_at, ends_at}
use Rattle.serial_groups.specs.Regions.{region_labels, region_count, assess_at, touching}

-- a region, and the two ranks that it links, the lower first
pub record LinkAt : Type 0 where
  pub region : ℕ
  pub first : ℕ
  pub second : ℕ

-- the rank is one of the link's two
abbrev pub joins : ℕ → LinkAt → Bool
joins i k = eqb i k.first || eqb i k.second

-- the centres of two ranks differ
unfoldable pub centres_differ : List Item → ℕ → ℕ → Bool
unfolding squares
centres_differ l i j = not (eqb (squares (doubled_centre (ends_at l i)) (doubled_centre (ends_at l j))) 0)

module _ (dirs : List ℕ) (g : Grid) (l : List Item) where
  -- distinct ends, no ramp and a full pair
  unfoldable pub linkable : ℕ → Bool
  unfolding pos_same assess_at has_full_pair
  linkable i = (not (pos_same (ends_at l i).a (ends_at l i).b) && eqb (boundary_at l i).ramp.end 0) && has_full_pair (assess_at dirs g l i)

  -- the link that the region gives, if it gives one
  unfoldable pub link_at : ℕ → LinkAt
  unfolding touching
  link_at r = record { region = r; first = get_or (touching dirs g l r) 0 0; second = get_or (touching dirs g l r) 1 0 }

module _ (dirs : List ℕ) (g : Grid) (anchors : List WalkPosition) (l : List Item) where
  unfoldable pub gives_link : ℕ → Bool
  unfolding is_anchored region_labels touching linkable link_at centres_differ
  gives_link r =
      let k = link_at dirs g l r in
      (not (is_anchored g (region_labels dirs g l) anchors r) && eqb (length (touching dirs g l r)) 2)
      && ((linkable dirs g l k.first && linkable dirs g l k.second) && centres_differ l k.first k.second)

  -- in the order of their regions
  unfoldable pub links : List LinkAt
  unfolding gives_link link_at region_count keep up_from
  links = map (link_at dirs g l) (keep gives_link (up_from 1 (region_count dirs g l)))

  -- the meaning: of all ranks just the two touch the region
  pub record IsLink (k : LinkAt) : Type 0 where
    pub some : 0 < k.region
    pub last : k.region ≤ region_count dirs g l
    pub free : is_anchored g (region_labels dirs g l) anchors k.region ≡ false
    pub rising : k.first < k.second
    pub below : k.second < length l
    pub touching : (i : ℕ) → ((i < length l) × (touches (assess_at dirs g l i) k.region ≡ true)) ↔ ((i ≡ k.first) ⊎ (i ≡ k.second))
    pub first-linkable : linkable dirs g l k.first ≡ true
    pub second-linkable : linkable dirs g l k.second ≡ true
    pub apart : squares (doubled_centre (ends_at l k.first)) (doubled_centre (ends_at l k.second)) ≡ 0 → ⊥
