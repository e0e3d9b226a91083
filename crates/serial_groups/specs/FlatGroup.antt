-- Accepted flat groups, in document 01's words: "then flat groups (2 to 4), by 000's thresholds; no boundary is in two accepted groups".
use Rattle.std.specs.Prelude.{◌≡◌, true, false, ℕ, Float}
use mathlib.Core.List.{List, Memᴰ}
use Rattle.std.specs.Float.Ieee.{lt}
use Rattle.length.specs.Floats.{◌⊕◌, ◌⊖◌}
use Rattle.position.specs.declared.WalkPosition.{WalkPosition}
use Rattle.grid.specs.Cells.{Grid, ramp_cell, elevation}
use Rattle.serial_links.specs.Limits.{Limits}
use Rattle.serial_links.specs.Geometry.{Vector, cell_centre, dot}
use Rattle.serial_links.specs.Link.{Link, Bounds}
use Rattle.serial_links.specs.Flat.{along_tolerance, across_tolerance, cell_reach}
use Rattle.serial_links.specs.Parallel.{nearby_parallel}
use Rattle.context.specs.Listing.{Item}
use Rattle.serial_groups.specs.Listing.{ends_at}
use Rattle.serial_groups.specs.Links.{LinkAt}
use Rattle.serial_groups.specs.Measuring.{value_of}
use Rattle.serial_groups.specs.Groups.{LinkGroup}
use Rattle.serial_groups.specs.LinkRule.{Gives, LiesIn}
use Rattle.serial_groups.specs.ConnectedPart.{ConnectedPart}
use Rattle.serial_groups.specs.Chain.{Chain}
use Rattle.serial_groups.specs.SerialGroup.{SerialGroup}

-- a cell at p stays inside the bounds and the tolerance on the direction v, on both sides
pub record StaysOn (v : Vector) (b : Bounds) (tolerance : Float) (p : Vector) : Type 0 where
  pub not-below : lt (dot p v ⊖ cell_reach v) (b.low ⊖ tolerance) ≡ false
  pub not-above : lt (b.high ⊕ tolerance) (dot p v ⊕ cell_reach v) ≡ false

-- and so on both directions of the flat envelope
pub record InEnvelope (limits : Limits) (link : Link) (p : Vector) : Type 0 where
  pub along : StaysOn link.span_unit link.along (along_tolerance limits link) p
  pub across : StaysOn link.span_normal link.across (across_tolerance limits) p

-- no cell of the region is a ramp cell, and all are of one elevation, that of one of them
pub record FlatRegion (dirs : List ℕ) (g : Grid) (l : List Item) (r : ℕ) : Type 0 where
  pub no-ramp : (c : ℕ) → LiesIn dirs g l r c → ramp_cell g c ≡ false
  pub cell : ℕ
  pub lies : LiesIn dirs g l r cell
  pub level : (c : ℕ) → LiesIn dirs g l r c → elevation g c ≡ elevation g cell

-- the spans of two ranks are nearby and parallel, the first with the second
abbrev pub Alike : Limits → List Item → ℕ → ℕ → Type 0
Alike limits l i j = nearby_parallel limits (ends_at l i) (ends_at l j) ≡ true

module _ (limits : Limits) (dirs : List ℕ) (g : Grid) (anchors : List WalkPosition) (l : List Item) where
  -- the rank is in no accepted serial group
  abbrev pub LeftBySerial : ℕ → Type 0
  LeftBySerial i = (a : LinkGroup) → SerialGroup limits dirs g anchors l a → Memᴰ i a.ranks → ⊥

  pub record FlatLink (k : LinkAt) : Type 0 where
    pub gives : Gives dirs g anchors l k
    pub envelope : (c : ℕ) → LiesIn dirs g l k.region c → InEnvelope limits (value_of l k) (cell_centre g.width c)
    pub flat : FlatRegion dirs g l k.region
    pub first-left : LeftBySerial k.first
    pub second-left : LeftBySerial k.second
    pub alike : Alike limits l k.first k.second

  pub record FlatGroup (a : LinkGroup) : Type 0 where
    pub part : ConnectedPart FlatLink a
    -- "(2 to 4)"
    pub chain : Chain limits dirs g l 2 a
    -- each member with each, in both orders
    pub alike : (i j : ℕ) → Memᴰ i a.ranks → Memᴰ j a.ranks → Alike limits l i j
