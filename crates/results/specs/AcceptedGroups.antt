-- The groups that the rules accept for a job and the spans that it is partitioned by, in document 01's words.
use Rattle.std.specs.Prelude.{◌≡◌, ◌↔◌, ◌⊎◌, ℕ, length}
use mathlib.Core.List.{List, Memᴰ}
use Rattle.order.specs.Pairs.{Pairs}
use Rattle.position.specs.declared.Span.{Span}
use Rattle.format.specs.Values.{Job}
use Rattle.context.specs.Anchors.{anchors_of}
use Rattle.serial_links.specs.Limits.{Limits}
use Rattle.serial_groups.specs.Groups as Link
use Rattle.serial_groups.specs.SerialGroup.{SerialGroup}
use Rattle.serial_groups.specs.FlatGroup.{FlatGroup}
use Rattle.serial_groups.specs.Retains.{Retains}
use Rattle.serial_merging.specs.Groups.{Group, Disjoint}
use Rattle.results.specs.Rules.{grid_of, listing_of}

module _ (limits : Limits) (dirs : List ℕ) (j : Job) (ss : List Span) where
  -- the ranks are those of a serial group over the listing
  pub record SerialRanks (is : List ℕ) : Type 0 where
    pub group : Link.LinkGroup
    pub serial : SerialGroup limits dirs (grid_of j) (anchors_of j.bases) (listing_of j ss) group
    pub own : group.ranks ≡ is

  -- those of a flat one
  pub record FlatRanks (is : List ℕ) : Type 0 where
    pub group : Link.LinkGroup
    pub flat : FlatGroup limits dirs (grid_of j) (anchors_of j.bases) (listing_of j ss) group
    pub own : group.ranks ≡ is

  pub record AcceptedGroup (g : Group) : Type 0 where
    -- "If spans and boundaries differ in number: sorted canonical copies, no merge."
    pub matched : length j.boundaries ≡ length ss
    -- "Serial groups (3 or 4 spans, every link passing, both nodes bridges) come first, then flat groups (2 to 4), by 000's thresholds"
    pub kind : SerialRanks g.ranks ⊎ FlatRanks g.ranks
    pub retains : Retains limits (listing_of j ss) g.ranks g.retained

  -- the accepted groups, each in the list
  pub record AcceptedGroups (gs : List Group) : Type 0 where
    pub each : (g : Group) → Memᴰ g gs ↔ AcceptedGroup g
    -- "no boundary is in two accepted groups"
    pub apart : Pairs Disjoint gs
    -- "Serial groups … come first": what stands before a serial one is one
    pub serial-first : Pairs (λ (g h : Group). SerialRanks h.ranks → SerialRanks g.ranks) gs
