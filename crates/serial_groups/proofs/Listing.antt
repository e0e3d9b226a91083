-- The listing has the items, and the map's regions are those of the items.
use mathlib.Core.Path.{◌≡◌}
use mathlib.Core.List.Permᴰ
use mathlib.Core.List.{List, map, Permᴰ}
use Prim.Native.Nat.{ℕ}
use Rattle.order.specs.Keys.{by_key}
use Rattle.order.proofs.Members.{perm-members}
use Rattle.order.proofs.Sort.{sort-perm}
use Rattle.position.specs.Order.{canonical}
use Rattle.grid.specs.Cells.{Grid}
use Rattle.areas.specs.Areas.{area_labels, area_count}
use Rattle.areas.proofs.Areas.{labels-depend-on-the-set, count-depends-on-the-set}
use Rattle.context.specs.Listing.{Item, item_key, listing}
use Rattle.serial_groups.specs.Listing.{spans_of}
use Rattle.serial_groups.specs.Regions.{region_labels, region_count}

pub listing-perm : (items : List Item) → Permᴰ items (listing items)
listing-perm items = sort-perm (by_key item_key) items

module _ (dirs : List ℕ) (g : Grid) (items : List Item) where
  spans-perm : Permᴰ (map canonical (spans_of (listing items))) (map canonical (spans_of items))
  spans-perm = Permᴰ.map canonical (Permᴰ.map (λ (i : Item). i.span) (Permᴰ.symm (listing-perm items)))

  pub listing-labels : region_labels dirs g (listing items) ≡ area_labels dirs g (spans_of items)
  unfolding region_labels
  listing-labels = labels-depend-on-the-set dirs g (spans_of (listing items)) (spans_of items) (perm-members spans-perm)

  pub listing-count : region_count dirs g (listing items) ≡ area_count dirs g (spans_of items)
  unfolding region_count
  listing-count = count-depends-on-the-set dirs g (spans_of (listing items)) (spans_of items) (perm-members spans-perm)
