-- Which regions give a link, in document 01's words: "a region gives a link if no anchor lies in it, exactly two boundaries touch it,
-- both have distinct ends, no ramp and a full pair, and their centres differ".
use Rattle.std.specs.Prelude.{◌≡◌, ◌↔◌, ◌⊎◌, ℕ, ◌<◌, ◌≤◌, length}
use mathlib.Core.List.{List, Memᴰ}
use Rattle.position.specs.declared.WalkPosition.{WalkPosition}
use Rattle.grid.specs.Cells.{Grid, index_of}
use Rattle.areas.specs.Areas.{label_at}
use Rattle.areas.specs.Assessments.{RegionPair, Assessment}
use Rattle.serial_links.specs.Geometry.{doubled_centre}
use Rattle.context.specs.Listing.{Item}
use Rattle.serial_groups.specs.Listing.{boundary_at, ends_at}
use Rattle.serial_groups.specs.Regions.{region_labels, region_count, assess_at}
use Rattle.serial_groups.specs.Links.{LinkAt}

-- "A boundary touches the regions in its pairs."
pub record Touches (a : Assessment) (r : ℕ) : Type 0 where
  pub pair : RegionPair
  pub own : Memᴰ pair a.pairs
  pub either : (r ≡ pair.lower) ⊎ (r ≡ pair.higher)

-- "It has a full pair if it removes at least one step, every removed step has different labels, and it has just one pair."
pub record FullPair (a : Assessment) : Type 0 where
  pub removes : 0 < a.removed
  pub all-differ : a.separated ≡ a.removed
  pub just-one : length a.pairs ≡ 1

module _ (dirs : List ℕ) (g : Grid) (l : List Item) where
  -- "both have distinct ends, no ramp and a full pair"
  pub record Linkable (i : ℕ) : Type 0 where
    pub distinct : (ends_at l i).a ≡ (ends_at l i).b → ⊥
    pub no-ramp : (boundary_at l i).ramp.end ≡ 0
    pub full : FullPair (assess_at dirs g l i)

  -- the cell lies in the region
  pub record LiesIn (r c : ℕ) : Type 0 where
    pub on-map : c < length (region_labels dirs g l)
    pub labelled : label_at (region_labels dirs g l) c ≡ r

module _ (dirs : List ℕ) (g : Grid) (anchors : List WalkPosition) (l : List Item) where
  -- the region gives the link of two ranks, the lower first
  pub record Gives (k : LinkAt) : Type 0 where
    -- regions have the labels from 1 to their count
    pub some : 0 < k.region
    pub last : k.region ≤ region_count dirs g l
    -- "no anchor lies in it"
    pub free : (p : WalkPosition) → Memᴰ p anchors → label_at (region_labels dirs g l) (index_of g p.x p.y) ≡ k.region → ⊥
    -- "exactly two boundaries touch it"
    pub rising : k.first < k.second
    pub below : k.second < length l
    pub touching : (i : ℕ) → ((i < length l) × Touches (assess_at dirs g l i) k.region) ↔ ((i ≡ k.first) ⊎ (i ≡ k.second))
    pub first-linkable : Linkable dirs g l k.first
    pub second-linkable : Linkable dirs g l k.second
    -- "and their centres differ"
    pub apart : doubled_centre (ends_at l k.first) ≡ doubled_centre (ends_at l k.second) → ⊥
