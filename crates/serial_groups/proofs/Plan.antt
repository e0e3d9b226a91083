-- A rank of an accepted group goes into the one that the group retains, and every other rank stays.
use mathlib.Core.Path.{◌≡◌, refl}
use mathlib.Core.Bool.{Bool, true, false, cond, ◌||◌}
use mathlib.Core.List.{List, [], ◌∷◌, Memᴰ}
use Prim.Native.Nat.{ℕ, ◌<◌}
use native.Mathlib.Omega.{arith}
use lib.ListN.{length, get_or}
use Rattle.order.specs.Lists.{has}
use Rattle.order.specs.Pairs.{Pairs, more}
use Rattle.order.proofs.Bools.{clash, is_false, by-test}
use Rattle.order.proofs.Members.{get_d-mem}
use Rattle.order.proofs.Numbers.{has-mem, mem-has}
use Rattle.position.specs.declared.WalkPosition.{WalkPosition}
use Rattle.grid.specs.Cells.{Grid}
use Rattle.serial_links.specs.Limits.{Limits}
use Rattle.order.specs.Tests.{any}
use Rattle.context.specs.Listing.{Item}
use Rattle.serial_groups.specs.Groups.{LinkGroup, in_any_link_group, LinkGroupsDisjoint}
use Rattle.serial_groups.specs.Flat.{accepted}
use Rattle.serial_groups.specs.Representative.{retained}
use Rattle.serial_groups.specs.Plan.{goes_into, merge_plan}
use Rattle.order.proofs.Tests.{any-mem, mem-any}
use Rattle.serial_groups.proofs.Accepted.{groups-disjoint, accepted-below, accepted-two}
use Rattle.serial_groups.proofs.Representative.{retained-mem}

-- the rank is in one of the groups
pub in-any : (gs : List LinkGroup) (i : ℕ) → in_any_link_group gs i ≡ true → (a : LinkGroup) × Memᴰ a gs × Memᴰ i a.ranks
unfolding in_any_link_group
in-any gs i h = let w = any-mem (λ (b : LinkGroup). has i b.ranks) gs h in (w.0, w.1, has-mem i w.0.ranks w.2)

pub any-in : {gs : List LinkGroup} {a : LinkGroup} {i : ℕ} → Memᴰ a gs → Memᴰ i a.ranks → in_any_link_group gs i ≡ true
unfolding in_any_link_group
any-in {a = a} {i = i} m k = mem-any (λ (b : LinkGroup). has i b.ranks) m (mem-has i a.ranks k)

module _ (limits : Limits) (l : List Item) where
  pub goes-member : {gs : List LinkGroup} → Pairs LinkGroupsDisjoint gs → {a : LinkGroup} → Memᴰ a gs → (i : ℕ) → Memᴰ i a.ranks
      → goes_into limits l gs i ≡ retained limits l a.ranks
  unfolding goes_into
  goes-member Rattle.order.specs.Pairs.none {a = a} x5 i k = elim x5 [ ]
  goes-member (more f o) {a} (Memᴰ.head e) i k = let h = mem-has i a.ranks k in rw (← e, h)
  goes-member (more {x = b} f o) {a} (Memᴰ.tail m) i k =
      let h = is_false (has i b.ranks) (λ p. f a m i (has-mem i b.ranks p) k) in rw h (goes-member o m i k)

  pub goes_other : (gs : List LinkGroup) (i : ℕ) → in_any_link_group gs i ≡ false → goes_into limits l gs i ≡ i
  unfolding goes_into in_any_link_group any
  goes_other [] i h = refl
  goes_other (a ∷ gs) i h = go (has i a.ranks) h (goes_other gs i)
    where
      go : (t : Bool) → t || any (λ (b : LinkGroup). has i b.ranks) gs ≡ false
          → (any (λ (b : LinkGroup). has i b.ranks) gs ≡ false → goes_into limits l gs i ≡ i)
          → cond t (retained limits l a.ranks) (goes_into limits l gs i) ≡ i
      go true h f = clash refl h
      go false h f = f h

module _ (limits : Limits) (dirs : List ℕ) (g : Grid) (anchors : List WalkPosition) (l : List Item) where
  -- a group has a rank, and retains one of its own
  some-rank : {a : LinkGroup} → Memᴰ a (accepted limits dirs g anchors l) → Memᴰ (get_or a.ranks 0 0) a.ranks
  some-rank {a} m = get_d-mem a.ranks 0 0 (omega (arith, accepted-two limits dirs g anchors l m))

  pub accepted-retained : {a : LinkGroup} → Memᴰ a (accepted limits dirs g anchors l) → Memᴰ (retained limits l a.ranks) a.ranks
  accepted-retained {a} m = retained-mem limits l a.ranks (some-rank m)

  pub plan-member : {a : LinkGroup} → Memᴰ a (accepted limits dirs g anchors l) → (i : ℕ) → Memᴰ i a.ranks
      → merge_plan limits dirs g anchors l i ≡ retained limits l a.ranks
  unfolding merge_plan
  plan-member m i k = goes-member limits l (groups-disjoint limits dirs g anchors l) m i k

  pub plan-other : (i : ℕ) → in_any_link_group (accepted limits dirs g anchors l) i ≡ false → merge_plan limits dirs g anchors l i ≡ i
  unfolding merge_plan
  plan-other i h = goes_other limits l (accepted limits dirs g anchors l) i h

  pub plan-below : (i : ℕ) → i < length l → merge_plan limits dirs g anchors l i < length l
  plan-below i b =
      by-test (in_any_link_group (accepted limits dirs g anchors l) i)
      (λ h.
      let w = in-any (accepted limits dirs g anchors l) i h in
      rw (plan-member w.1 i w.2) (accepted-below limits dirs g anchors l w.1 (retained limits l w.0.ranks) (accepted-retained w.1)))
      (λ h. rw (plan-other i h) b)
