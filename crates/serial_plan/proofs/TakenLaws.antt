-- A rank is in an accepted group just if a link joins it and the group of its component_of is accepted.
use mathlib.Core.Path.{◌≡◌, sym, ◌∙◌, ap, subst}
use mathlib.Core.Logic.{⊎_elim}
use mathlib.Core.Bool.{Bool, true, false, ◌&&◌}
use mathlib.Core.List.Memᴰ
use mathlib.Core.List.{List, Memᴰ}
use Prim.Native.Nat.{ℕ, ◌<◌}
use borrow.Author.Tests.{eqb-true}
use lib.Dec.{eqb}
use lib.ListN.{length}
use Rattle.order.specs.Lists.{keep, up_from}
use Rattle.order.proofs.Bools.{clash, is_false, by-test, and_parts, and_both}
use Rattle.order.proofs.Keep.{keep-mem, mem-keep}
use Rattle.graph.specs.Parts.{component_of}
use Rattle.graph.specs.Labels.{begins}
use Rattle.position.specs.declared.WalkPosition.{WalkPosition}
use Rattle.grid.specs.Cells.{Grid}
use Rattle.serial_links.specs.Limits.{Limits}
use Rattle.context.specs.Listing.{Item}
use Rattle.serial_groups.specs.Links.{LinkAt}
use Rattle.serial_groups.specs.Groups.{LinkGroup, link_edges, is_joined, group_at, groups_of, in_any_link_group}
use Rattle.serial_groups.specs.Serial.{accepts_serial, serial_links, serial_groups}
use Rattle.serial_groups.specs.Flat.{accepts_flat, flat_links, flat_groups, accepted}
use Rattle.serial_groups.specs.Representative.{retained}
use Rattle.serial_groups.specs.Plan.{merge_plan}
use Rattle.serial_groups.proofs.Groups.{group-joined, group-covers}
use Rattle.serial_groups.proofs.Plan.{in-any, any-in, plan-member, plan-other}

module _ (n : ℕ) (ks : List LinkAt) where
  -- the group of the rank's component_of
  abbrev pub own_group : ℕ → LinkGroup
  own_group i = group_at n ks (component_of (link_edges ks) i)

  of_part : (c i : ℕ) → Memᴰ i (group_at n ks c).ranks → component_of (link_edges ks) i ≡ c
  unfolding group_at
  of_part c i m =
      let k = keep-mem (λ j. is_joined ks j && eqb (component_of (link_edges ks) j) c) (up_from 0 n) m in
      eqb-true (component_of (link_edges ks) i) c (and_parts (is_joined ks i) (eqb (component_of (link_edges ks) i) c) k.1).1

  own_is : {a : LinkGroup} → Memᴰ a (groups_of n ks) → (i : ℕ) → Memᴰ i a.ranks → a ≡ own_group i
  unfolding groups_of
  own_is {a} m i p =
      let w = Memᴰ.of_map (group_at n ks) (keep (begins (is_joined ks) (link_edges ks)) (up_from 0 n)) m in
      sym w.2 ∙ ap (group_at n ks) (sym (of_part w.0 i (subst (λ (b : LinkGroup). Memᴰ i b.ranks) (sym w.2) p)))

  module _ (t : LinkGroup → Bool) where
    abbrev pub taken : ℕ → Bool
    taken i = is_joined ks i && t (own_group i)

    pub taken-mem : (i : ℕ) → i < n → taken i ≡ true → Memᴰ (own_group i) (keep t (groups_of n ks)) × Memᴰ i (own_group i).ranks
    taken-mem i l h =
        let p = and_parts (is_joined ks i) (t (own_group i)) h in
        let w = group-covers n ks i l p.0 in
        let e = own_is w.1 i w.2 in
        (mem-keep t (subst (λ (b : LinkGroup). Memᴰ b (groups_of n ks)) e w.1) p.1, subst (λ (b : LinkGroup). Memᴰ i b.ranks) e w.2)

    pub mem-taken : (i : ℕ) → in_any_link_group (keep t (groups_of n ks)) i ≡ true → taken i ≡ true
    mem-taken i h =
        let w = in-any (keep t (groups_of n ks)) i h in
        let k = keep-mem t (groups_of n ks) w.1 in
        and_both (group-joined n ks k.0 i w.2) (ap t (sym (own_is k.0 i w.2)) ∙ k.1)

    pub taken-any : (i : ℕ) → i < n → in_any_link_group (keep t (groups_of n ks)) i ≡ taken i
    taken-any i l =
        by-test (taken i) (λ h. let m = taken-mem i l h in any-in m.0 m.1 ∙ sym h)
        (λ h. is_false (in_any_link_group (keep t (groups_of n ks)) i) (λ k. clash (mem-taken i k) h) ∙ sym h)

module _ (limits : Limits) (dirs : List ℕ) (g : Grid) (anchors : List WalkPosition) (l : List Item) where
  abbrev pub serial_taken : ℕ → Bool
  serial_taken = taken (length l) (serial_links dirs g anchors l) (accepts_serial limits dirs g l)

  abbrev pub flat_taken : ℕ → Bool
  flat_taken = taken (length l) (flat_links limits dirs g anchors l) (accepts_flat limits dirs g l)

  -- in no accepted serial group
  pub serial-any : (i : ℕ) → i < length l → in_any_link_group (serial_groups limits dirs g anchors l) i ≡ serial_taken i
  unfolding serial_groups
  serial-any i h = taken-any (length l) (serial_links dirs g anchors l) (accepts_serial limits dirs g l) i h

  pub serial-accepted : (i : ℕ) → i < length l → serial_taken i ≡ true →
      Memᴰ (own_group (length l) (serial_links dirs g anchors l) i) (accepted limits dirs g anchors l)
      × Memᴰ i (own_group (length l) (serial_links dirs g anchors l) i).ranks
  unfolding accepted serial_groups
  serial-accepted i h e = let m = taken-mem (length l) (serial_links dirs g anchors l) (accepts_serial limits dirs g l) i h e in
      (Memᴰ.append_left (flat_groups limits dirs g anchors l) m.0, m.1)

  pub flat-accepted : (i : ℕ) → i < length l → flat_taken i ≡ true →
      Memᴰ (own_group (length l) (flat_links limits dirs g anchors l) i) (accepted limits dirs g anchors l)
      × Memᴰ i (own_group (length l) (flat_links limits dirs g anchors l) i).ranks
  unfolding accepted flat_groups
  flat-accepted i h e = let m = taken-mem (length l) (flat_links limits dirs g anchors l) (accepts_flat limits dirs g l) i h e in
      (Memᴰ.append_right (serial_groups limits dirs g anchors l) m.0, m.1)

  pub plan-serial : (i : ℕ) → i < length l → serial_taken i ≡ true
      → merge_plan limits dirs g anchors l i ≡ retained limits l (own_group (length l) (serial_links dirs g anchors l) i).ranks
  plan-serial i h e = let m = serial-accepted i h e in plan-member limits dirs g anchors l m.0 i m.1

  pub plan-flat : (i : ℕ) → i < length l → flat_taken i ≡ true
      → merge_plan limits dirs g anchors l i ≡ retained limits l (own_group (length l) (flat_links limits dirs g anchors l) i).ranks
  plan-flat i h e = let m = flat-accepted i h e in plan-member limits dirs g anchors l m.0 i m.1

  pub plan-stays : (i : ℕ) → serial_taken i ≡ false → flat_taken i ≡ false → merge_plan limits dirs g anchors l i ≡ i
  unfolding accepted serial_groups flat_groups
  plan-stays i s f = plan-other limits dirs g anchors l i (is_false (in_any_link_group (accepted limits dirs g anchors l) i) (λ h.
      let w = in-any (accepted limits dirs g anchors l) i h in
      ⊎_elim
      (λ (m : Memᴰ w.0 (serial_groups limits dirs g anchors l)). clash
      (mem-taken (length l) (serial_links dirs g anchors l) (accepts_serial limits dirs g l) i (any-in m w.2)) s)
      (λ (m : Memᴰ w.0 (flat_groups limits dirs g anchors l)). clash
      (mem-taken (length l) (flat_links limits dirs g anchors l) (accepts_flat limits dirs g l) i (any-in m w.2)) f)
      (Memᴰ.append_cases (serial_groups limits dirs g anchors l) w.1)))
