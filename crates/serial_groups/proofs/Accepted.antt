-- "No boundary is in two accepted groups."
use mathlib.Core.Path.{◌≡◌}
use mathlib.Core.Logic.{⊎_elim}
use mathlib.Core.Bool.{Bool, true, false, not, ◌&&◌}
use mathlib.Core.List.Memᴰ
use mathlib.Core.List.{List, Memᴰ}
use Prim.Native.Nat.{ℕ, ◌<◌, ◌≤◌}
use native.Mathlib.Omega.{arith}
use borrow.Author.Tests.{eqb-true, not-true}
use lib.Dec.{eqb}
use lib.Ieee.{le}
use lib.ListN.{length}
use Rattle.order.specs.Lists.{keep, has}
use Rattle.order.specs.Pairs.{Pairs}
use Rattle.order.proofs.Bools.{clash, and_parts, or_cases}
use Rattle.order.proofs.Pairs.{pairs-append}
use Rattle.order.proofs.Keep.{keep-mem, keep-pairs}
use Rattle.order.proofs.Numbers.{mem-has}
use Rattle.position.specs.declared.WalkPosition.{WalkPosition}
use Rattle.grid.specs.Cells.{Grid}
use Rattle.serial_links.specs.Limits.{Limits}
use Rattle.order.specs.Tests.{every}
use Rattle.context.specs.Listing.{Item}
use Rattle.serial_groups.specs.Regions.{bridge_at}
use Rattle.serial_groups.specs.Links.{LinkAt, joins, links}
use Rattle.serial_groups.specs.Measuring.{passes, stays_inside}
use Rattle.serial_groups.specs.Groups.{LinkGroup, is_joined, groups_of, in_any_link_group, LinkGroupsDisjoint}
use Rattle.serial_groups.specs.SimplePath.{simple_path, IsSimplePath}
use Rattle.serial_groups.specs.Serial.{chain_sum, end_distance, accepts_serial, serial_links, serial_groups}
use Rattle.serial_groups.specs.Flat.{least_flat_spans, alike, is_flat, accepts_flat, is_flat_link, flat_links, flat_groups, accepted}
use Rattle.order.proofs.Tests.{mem-any, any-mem}
use Rattle.serial_groups.proofs.Links.{link-iff}
use Rattle.serial_groups.proofs.SimplePath.{simple-path-iff, path-two}
use Rattle.serial_groups.proofs.Groups.{group-below, group-joined, group-rising, groups-apart, group-links, link-within}

module _ (limits : Limits) (dirs : List ℕ) (g : Grid) (anchors : List WalkPosition) (l : List Item) where
  -- an accepted group is a part of its links
  pub serial-part : {a : LinkGroup} → Memᴰ a (serial_groups limits dirs g anchors l) → Memᴰ a (groups_of (length l) (serial_links dirs g anchors l))
      × (accepts_serial limits dirs g l a ≡ true)
  unfolding serial_groups
  serial-part m = keep-mem (accepts_serial limits dirs g l) (groups_of (length l) (serial_links dirs g anchors l)) m

  pub flat-part : {a : LinkGroup} → Memᴰ a (flat_groups limits dirs g anchors l) → Memᴰ a (groups_of (length l) (flat_links limits dirs g anchors l))
      × (accepts_flat limits dirs g l a ≡ true)
  unfolding flat_groups
  flat-part m = keep-mem (accepts_flat limits dirs g l) (groups_of (length l) (flat_links limits dirs g anchors l)) m

  -- a flat link joins ranks that no serial group has
  flat-left : (i : ℕ) → is_joined (flat_links limits dirs g anchors l) i ≡ true → in_any_link_group (serial_groups limits dirs g anchors l) i ≡ false
  unfolding is_joined flat_links is_flat_link
  flat-left i h =
      ⊎_elim (λ e. rw (eqb-true i k.first e) (not-true (in_any_link_group serial k.first) left.0))
      (λ e. rw (eqb-true i k.second e) (not-true (in_any_link_group serial k.second) left.1))
      (or_cases (eqb i k.first) (eqb i k.second) w.2)
    where
      serial : List LinkGroup
      serial = serial_groups limits dirs g anchors l

      w : (k : LinkAt) × Memᴰ k (flat_links limits dirs g anchors l) × (joins i k ≡ true)
      w = any-mem (joins i) (flat_links limits dirs g anchors l) h

      k : LinkAt
      k = w.0

      parts : (stays_inside limits dirs g l k && is_flat dirs g l k.region ≡ true)
          × ((not (in_any_link_group serial k.first) && not (in_any_link_group serial k.second)) && alike limits l k.first k.second ≡ true)
      parts = and_parts _ _ (keep-mem (is_flat_link limits dirs g anchors l) (links dirs g anchors l) w.1).1

      left : (not (in_any_link_group serial k.first) ≡ true) × (not (in_any_link_group serial k.second) ≡ true)
      left = and_parts _ _ (and_parts (not (in_any_link_group serial k.first) && not (in_any_link_group serial k.second))
          (alike limits l k.first k.second) parts.1).0

  across : (a b : LinkGroup) → Memᴰ a (serial_groups limits dirs g anchors l) → Memᴰ b (flat_groups limits dirs g anchors l) → LinkGroupsDisjoint a b
  unfolding in_any_link_group
  across a b m n i p q =
      clash (mem-any (λ (h : LinkGroup). has i h.ranks) m (mem-has i a.ranks p))
      (flat-left i (group-joined (length l) (flat_links limits dirs g anchors l) (flat-part n).0 i q))

  pub groups-disjoint : Pairs LinkGroupsDisjoint (accepted limits dirs g anchors l)
  unfolding accepted serial_groups flat_groups
  groups-disjoint =
      pairs-append (keep-pairs (accepts_serial limits dirs g l) (groups-apart (length l) (serial_links dirs g anchors l)))
      (keep-pairs (accepts_flat limits dirs g l) (groups-apart (length l) (flat_links limits dirs g anchors l)))
      across

  -- what holds of the accepted parts of any links holds of the accepted groups
  by_kind : (P : LinkGroup → Type 0) → ((a : LinkGroup) → Memᴰ a (serial_groups limits dirs g anchors l) → P a)
      → ((a : LinkGroup) → Memᴰ a (flat_groups limits dirs g anchors l) → P a) →
      {a : LinkGroup} → Memᴰ a (accepted limits dirs g anchors l) → P a
  unfolding accepted
  by_kind P s f {a} m =
      ⊎_elim (λ (k : Memᴰ a (serial_groups limits dirs g anchors l)). s a k) (λ (k : Memᴰ a (flat_groups limits dirs g anchors l)). f a k)
      (Memᴰ.append_cases (serial_groups limits dirs g anchors l) m)

  -- the ranks of an accepted group rise, and are ranks of the listing
  pub accepted-rising : {a : LinkGroup} → Memᴰ a (accepted limits dirs g anchors l) → Pairs (λ i j. i < j) a.ranks
  accepted-rising =
      by_kind (λ a. Pairs (λ i j. i < j) a.ranks) (λ a m. group-rising (length l) (serial_links dirs g anchors l) (serial-part m).0)
      (λ a m. group-rising (length l) (flat_links limits dirs g anchors l) (flat-part m).0)

  pub accepted-below : {a : LinkGroup} → Memᴰ a (accepted limits dirs g anchors l) → (i : ℕ) → Memᴰ i a.ranks → i < length l
  accepted-below =
      by_kind (λ a. (i : ℕ) → Memᴰ i a.ranks → i < length l) (λ a m. group-below (length l) (serial_links dirs g anchors l) (serial-part m).0)
      (λ a m. group-below (length l) (flat_links limits dirs g anchors l) (flat-part m).0)

  -- a serial one has the number of ranks that the limits ask for, a flat one that of its own rule
  pub serial-path : {a : LinkGroup} → Memᴰ a (serial_groups limits dirs g anchors l) → IsSimplePath limits dirs g l limits.least_spans a
  unfolding accepts_serial
  serial-path {a} m =
      let p = and_parts (every (passes limits dirs g l) a.links && simple_path limits dirs g l limits.least_spans a)
      (le (chain_sum l a) limits.chain && le (end_distance l a) limits.chain) (serial-part m).1 in
      (simple-path-iff limits dirs g l limits.least_spans a).0
      (and_parts (every (passes limits dirs g l) a.links) (simple_path limits dirs g l limits.least_spans a) p.0).1

  pub flat-path : {a : LinkGroup} → Memᴰ a (flat_groups limits dirs g anchors l) → IsSimplePath limits dirs g l least_flat_spans a
  unfolding accepts_flat
  flat-path {a} m =
      (simple-path-iff limits dirs g l least_flat_spans a).0
      (and_parts (simple_path limits dirs g l least_flat_spans a) (every (λ i. every (alike limits l i) a.ranks) a.ranks) (flat-part m).1).0

  -- an accepted group has two members or more, and at most the limit's
  pub accepted-two : {a : LinkGroup} → Memᴰ a (accepted limits dirs g anchors l) → 2 ≤ length a.ranks
  accepted-two =
      by_kind (λ a. 2 ≤ length a.ranks) (λ a m. path-two limits dirs g l limits.least_spans a (serial-path m))
      (λ a m. path-two limits dirs g l least_flat_spans a (flat-path m))

  -- the links of an accepted group are links of the map, between its ranks
  abbrev Between : LinkGroup → Type 0
  Between a = (k : LinkAt) → Memᴰ k a.links → Memᴰ k (links dirs g anchors l) × Memᴰ k.first a.ranks × Memᴰ k.second a.ranks

  between : (t : LinkAt → Bool) {a : LinkGroup} → Memᴰ a (groups_of (length l) (keep t (links dirs g anchors l))) → Between a
  between t m k p =
      let w = link-within (length l) (keep t (links dirs g anchors l)) inside m k p in
      ((keep-mem t (links dirs g anchors l) ((group-links (length l) (keep t (links dirs g anchors l)) inside m k).0 p).0).0, w.0, w.1)
    where
      inside : (j : LinkAt) → Memᴰ j (keep t (links dirs g anchors l)) → (j.first < length l) × (j.second < length l)
      inside j q = let i = (link-iff dirs g anchors l j).0 (keep-mem t (links dirs g anchors l) q).0 in (omega (arith, i.rising, i.below), i.below)

  pub accepted-links : {a : LinkGroup} → Memᴰ a (accepted limits dirs g anchors l) → (k : LinkAt) → Memᴰ k a.links →
      Memᴰ k (links dirs g anchors l) × Memᴰ k.first a.ranks × Memᴰ k.second a.ranks
  unfolding serial_links flat_links
  accepted-links =
      by_kind Between (λ a m. between (λ k. bridge_at dirs g l k.first && bridge_at dirs g l k.second) (serial-part m).0)
      (λ a m. between (is_flat_link limits dirs g anchors l) (flat-part m).0)
