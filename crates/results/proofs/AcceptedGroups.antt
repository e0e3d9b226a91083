-- The accepted groups are just those of document 01, serial ones before flat ones.
use mathlib.Core.Path.{◌≡◌, refl, sym, ap, ◌∙◌, subst}
use mathlib.Core.Logic.{◌↔◌, inl, inr, ⊎_elim}
use mathlib.Core.Bool.{false}
use mathlib.Core.List.Memᴰ
use mathlib.Core.List.{List, [], ◌∷◌, map, zip_with, Memᴰ}
use mathlib.Core.List.Permᴰ
use Prim.Native.Nat.{ℕ, zero, suc, ◌≤◌}
use native.Mathlib.Omega.{arith}
use borrow.Author.Tests.{eqb-true, eq-eqb}
use lib.Dec.{eqb}
use lib.ListN.{length}
use Rattle.order.specs.Pairs.{Pairs, none}
use Rattle.order.proofs.Bools.{by-test}
use Rattle.order.proofs.Members.{perm-mem}
use Rattle.order.proofs.Pairs.{pairs-all, pairs-append, pairs-imp, pairs-map, pairs-mem}
use Rattle.position.specs.declared.Span.{Span}
use Rattle.format.specs.Bounds.{max_width_bits}
use Rattle.format.specs.Values.{Boundary, Job}
use Rattle.context.specs.Anchors.{anchors_of}
use Rattle.context.specs.Listing.{Item}
use Rattle.serial_links.specs.Limits.{Limits}
use Rattle.serial_groups.specs.Groups as Link
use Rattle.serial_groups.specs.Links.{LinkAt}
use Rattle.serial_groups.specs.Listing.{bits_at}
use Rattle.serial_groups.specs.Serial.{serial_groups}
use Rattle.serial_groups.specs.Flat.{flat_groups, accepted}
use Rattle.serial_groups.specs.Representative.{retained, IsRetained}
use Rattle.serial_groups.specs.ConnectedPart.{ConnectedPart}
use Rattle.serial_groups.specs.Retains.{Retains}
use Rattle.serial_groups.proofs.Representative.{Tolerant, some-eligible}
use Rattle.serial_groups.proofs.Accepted.{groups-disjoint}
use Rattle.serial_groups.proofs.Listing.{listing-perm}
use Rattle.serial_groups.proofs.ConnectedPart.{part-link}
use Rattle.serial_groups.proofs.SerialGroup.{serial-iff}
use Rattle.serial_groups.proofs.FlatGroup.{flat-iff}
use Rattle.serial_groups.proofs.Retains.{retains-iff}
use Rattle.serial_merging.specs.Groups.{Group, all_groups, Disjoint}
use Rattle.serial_merging.specs.Copies.{canon}
use Rattle.serial_merging.specs.Runs.{Run, item_of, items_of, canon_item, groups_of}
use Rattle.results.specs.Rules.{grid_of, listing_of, group_of, rules_of}
use Rattle.results.specs.AcceptedGroups.{SerialRanks, FlatRanks, AcceptedGroup, AcceptedGroups}
use Rattle.results.proofs.Rules.{every-group}

-- an item's boundary is one of the run's
item-boundary : (bs : List Boundary) (ss : List Span) {i : Item} → Memᴰ i (zip_with item_of bs ss) → Memᴰ i.boundary bs
unfolding zip_with
item-boundary [] ss m = absurd (Memᴰ.not-nil m)
item-boundary (b ∷ bs) [] m = absurd (Memᴰ.not-nil m)
item-boundary (b ∷ bs) (s ∷ ss) (Memᴰ.head e) = Memᴰ.head (ap (λ (i : Item). i.boundary) e)
item-boundary (b ∷ bs) (s ∷ ss) (Memᴰ.tail m) = Memᴰ.tail (item-boundary bs ss m)

-- past the last item the width is 0
at_width : (is : List Item) (i : ℕ) → ((x : Item) → Memᴰ x is → x.boundary.bits ≤ max_width_bits) → bits_at is i ≤ max_width_bits
at_width [] i f = omega arith
at_width (x ∷ xs) zero f = f x (Memᴰ.head refl)
at_width (x ∷ xs) (suc i) f = at_width xs i (λ y m. f y (Memᴰ.tail m))

module _ (limits : Limits) (dirs : List ℕ) (j : Job) (ss : List Span) where
  abbrev l : List Item
  l = listing_of j ss

  abbrev run : Run
  run = record { boundaries = j.boundaries; spans = ss }

  abbrev serials : List Link.LinkGroup
  serials = serial_groups limits dirs (grid_of j) (anchors_of j.bases) l

  abbrev flats : List Link.LinkGroup
  flats = flat_groups limits dirs (grid_of j) (anchors_of j.bases) l

  abbrev all : List Link.LinkGroup
  all = accepted limits dirs (grid_of j) (anchors_of j.bases) l

  -- where the numbers agree the groups are those of the listing, and where they differ there are none
  abbrev chosen : List Group
  chosen = all_groups (groups_of (rules_of limits dirs j) run)

  chosen-matched : length j.boundaries ≡ length ss → chosen ≡ map (group_of limits l) all
  unfolding groups_of
  chosen-matched e = let t = eq-eqb (length j.boundaries) (length ss) e in rw t (every-group limits dirs j l)

  chosen-differ : eqb (length j.boundaries) (length ss) ≡ false → chosen ≡ []
  unfolding groups_of all_groups
  chosen-differ e = rw e refl

  matched : {g : Group} → Memᴰ g chosen → length j.boundaries ≡ length ss
  matched m =
      by-test (eqb (length j.boundaries) (length ss)) (λ h. eqb-true (length j.boundaries) (length ss) h)
      (λ h. absurd (Memᴰ.not-nil (rw (chosen-differ h) at m)))

  -- a connected part has a rank, and its ranks ascend
  retains : {L : LinkAt → Type 0} {a : Link.LinkGroup} → ConnectedPart L a → (i : ℕ) → Retains limits l a.ranks i ↔ (retained limits l a.ranks ≡ i)
  retains {L} {a} p i = retains-iff limits l a.ranks p.ascending ((p.ranks p.link.first).1 (p.link, p.has, inl refl)) i

  serial-ranks : (a : Link.LinkGroup) → Memᴰ a serials → SerialRanks limits dirs j ss a.ranks
  serial-ranks a m = record { group = a; serial = (serial-iff limits dirs (grid_of j) (anchors_of j.bases) l a).0 m; own = refl }

  flat-ranks : (a : Link.LinkGroup) → Memᴰ a flats → FlatRanks limits dirs j ss a.ranks
  flat-ranks a m = record { group = a; flat = (flat-iff limits dirs (grid_of j) (anchors_of j.bases) l a).0 m; own = refl }

  group-accepted : length j.boundaries ≡ length ss → (a : Link.LinkGroup) → Memᴰ a all → AcceptedGroup limits dirs j ss (group_of limits l a)
  unfolding accepted
  group-accepted e a m = ⊎_elim serial flat (Memᴰ.append_cases serials m)
    where
      keeps : {L : LinkAt → Type 0} → ConnectedPart L a → Retains limits l a.ranks (retained limits l a.ranks)
      keeps p = (retains p (retained limits l a.ranks)).1 refl

      serial : Memᴰ a serials → AcceptedGroup limits dirs j ss (group_of limits l a)
      serial k =
          let s = (serial-iff limits dirs (grid_of j) (anchors_of j.bases) l a).0 k in
          record { matched = e; kind = inl (serial-ranks a k); retains = keeps s.part }

      flat : Memᴰ a flats → AcceptedGroup limits dirs j ss (group_of limits l a)
      flat k =
          let s = (flat-iff limits dirs (grid_of j) (anchors_of j.bases) l a).0 k in
          record { matched = e; kind = inr (flat-ranks a k); retains = keeps s.part }

  -- the group with these ranks and the member that it keeps
  same-group : (g : Group) (a : Link.LinkGroup) → a.ranks ≡ g.ranks → retained limits l a.ranks ≡ g.retained → group_of limits l a ≡ g
  same-group g a e f = λ i. record { ranks = e i; retained = f i }

  found : (g : Group) (a : Link.LinkGroup) {L : LinkAt → Type 0} → ConnectedPart L a → a.ranks ≡ g.ranks → Retains limits l g.ranks g.retained →
      group_of limits l a ≡ g
  found g a p e w = same-group g a e ((retains p g.retained).0 (subst (λ (is : List ℕ). Retains limits l is g.retained) (sym e) w))

  -- an accepted group is just what document 01 calls one
  pub accepted-iff : (g : Group) →
      Memᴰ g (all_groups (groups_of (rules_of limits dirs j) (record { boundaries = j.boundaries; spans = ss }))) ↔ AcceptedGroup limits dirs j ss g
  unfolding accepted
  accepted-iff g = (to, from)
    where
      to : Memᴰ g chosen → AcceptedGroup limits dirs j ss g
      to m =
          let e = matched m in
          let w = Memᴰ.of_map (group_of limits l) all (rw (chosen-matched e) at m) in
          subst (λ (h : Group). AcceptedGroup limits dirs j ss h) w.2 (group-accepted e w.0 w.1)

      from : AcceptedGroup limits dirs j ss g → Memᴰ g chosen
      from w =
          rw (chosen-matched w.matched)
          (⊎_elim
          (λ (s : SerialRanks limits dirs j ss g.ranks).
          subst (λ (h : Group). Memᴰ h (map (group_of limits l) all)) (found g s.group s.serial.part s.own w.retains)
          (Memᴰ.map (group_of limits l) (Memᴰ.append_left flats ((serial-iff limits dirs (grid_of j) (anchors_of j.bases) l s.group).1 s.serial))))
          (λ (s : FlatRanks limits dirs j ss g.ranks).
          subst (λ (h : Group). Memᴰ h (map (group_of limits l) all)) (found g s.group s.flat.part s.own w.retains)
          (Memᴰ.map (group_of limits l) (Memᴰ.append_right serials ((flat-iff limits dirs (grid_of j) (anchors_of j.bases) l s.group).1 s.flat))))
          w.kind)

  -- no ranks are both those of a serial and of a flat group
  pub kinds-apart : (is : List ℕ) → SerialRanks limits dirs j ss is → FlatRanks limits dirs j ss is → ⊥
  kinds-apart is s f =
      let p = f.flat.part in
      let k = p.link in
      let mine = (p.ranks k.first).1 (k, p.has, inl refl) in
      (part-link p k p.has).first-left s.group s.serial
      (subst (λ (js : List ℕ). Memᴰ k.first js) (f.own ∙ sym s.own) mine)

  -- what holds of all_groups two groups of the listing
  chosen-pairs : (R : Group → Group → Type 0) → Pairs (λ (a b : Link.LinkGroup). R (group_of limits l a) (group_of limits l b)) all → Pairs R chosen
  chosen-pairs R p =
      by-test (eqb (length j.boundaries) (length ss))
      (λ h. rw (chosen-matched (eqb-true (length j.boundaries) (length ss) h)) (pairs-map (group_of limits l) (λ a b r. r) p))
      (λ h. rw (chosen-differ h) none)

  serials-first : Pairs (λ (a b : Link.LinkGroup). SerialRanks limits dirs j ss b.ranks → SerialRanks limits dirs j ss a.ranks) all
  unfolding accepted
  serials-first =
      pairs-append (pairs-imp (λ a b p s. serial-ranks a p.1) (members serials))
      (pairs-imp (λ a b p s. absurd (kinds-apart b.ranks s (flat-ranks b p.2))) (members flats))
      (λ a b m n s. serial-ranks a m)
    where
      members : (gs : List Link.LinkGroup) → Pairs (λ (a b : Link.LinkGroup). Unit {0} × Memᴰ a gs × Memᴰ b gs) gs
      members gs = pairs-mem (pairs-all (λ a b. tt) gs)

  -- the groups that the rules give are the accepted ones
  pub accepted-groups : AcceptedGroups limits dirs j ss (all_groups (groups_of (rules_of limits dirs j) (record { boundaries = j.boundaries; spans = ss })))
  accepted-groups = record {
    each = accepted-iff;
    apart = chosen-pairs Disjoint (groups-disjoint limits dirs (grid_of j) (anchors_of j.bases) l);
    serial-first = chosen-pairs (λ g h. SerialRanks limits dirs j ss h.ranks → SerialRanks limits dirs j ss g.ranks) serials-first;
  }

  -- what holds of the boundaries' widths holds of those of the listing
  listed-width : ((b : Boundary) → Memᴰ b j.boundaries → b.bits ≤ max_width_bits) → (i : Item) → Memᴰ i l → i.boundary.bits ≤ max_width_bits
  unfolding items_of canon_item canon
  listed-width h i m =
      let w = Memᴰ.of_map canon_item (items_of run) (perm-mem (Permᴰ.symm (listing-perm (map canon_item (items_of run)))) m) in
      subst (λ (x : Item). x.boundary.bits ≤ max_width_bits) w.2 (h w.0.boundary (item-boundary j.boundaries ss w.1))

  -- where the widths are those of an accepted job the kept member is the one of 000's `representative`
  pub accepted-representative : Tolerant limits → ((b : Boundary) → Memᴰ b j.boundaries → b.bits ≤ max_width_bits) →
      (g : Group) → AcceptedGroup limits dirs j ss g → IsRetained limits (listing_of j ss) g.ranks g.retained
  accepted-representative o h g w =
      let e = some-eligible o l g.ranks (λ i m. at_width l i (listed-width h)) w.retains.mine in
      w.retains.named e.0 e.1
