-- The listed links are those of the rule, one a region at most, by rising regions.
use mathlib.Core.Path.{◌≡◌, refl, subst}
use mathlib.Core.Logic.{◌↔◌, ◌⊎◌, inl, inr, ⊎_elim}
use mathlib.Core.Bool.{true, not, ◌&&◌}
use mathlib.Core.List.Memᴰ
use mathlib.Core.List.{List, [], ◌∷◌, Memᴰ}
use Prim.Native.Nat.{ℕ, ◌<◌, ◌≤◌}
use native.Mathlib.Omega.{arith}
use borrow.Author.Tests.{eqb-true, eqb-false, ne_eqb, not-true}
use lib.Dec.{eqb}
use lib.ListN.{length}
use Rattle.order.specs.Lists.{keep, up_from}
use Rattle.order.specs.Pairs.{Pairs, none, more}
use Rattle.order.proofs.Bools.{and_parts, and_both}
use Rattle.order.proofs.Pairs.{pairs-map, pairs-ext, pairs-at}
use Rattle.order.proofs.Keep.{keep-mem, mem-keep, keep-pairs}
use Rattle.order.proofs.Numbers.{up_mem, mem_up, up_strict}
use Rattle.position.specs.declared.WalkPosition.{WalkPosition}
use Rattle.grid.specs.Cells.{Grid}
use Rattle.context.specs.FullPair.{touches}
use Rattle.context.specs.Anchors.{is_anchored}
use Rattle.serial_links.specs.Geometry.{squares, doubled_centre}
use Rattle.context.specs.Listing.{Item}
use Rattle.serial_groups.specs.Listing.{ends_at}
use Rattle.serial_groups.specs.Regions.{region_labels, region_count, assess_at, touching}
use Rattle.serial_groups.specs.Links.{LinkAt, centres_differ, linkable, link_at, gives_link, links, IsLink}
use Rattle.order.proofs.Tests.{two-members}

-- the members of a list of two
pub pair-iff : {A : Type 0} (x y z : A) → Memᴰ z (x ∷ y ∷ []) ↔ ((z ≡ x) ⊎ (z ≡ y))
pair-iff {A} x y z = (to, ⊎_elim (λ (e : z ≡ x). Memᴰ.head e) (λ (e : z ≡ y). Memᴰ.tail (Memᴰ.head e)))
  where
    to : Memᴰ z (x ∷ y ∷ []) → (z ≡ x) ⊎ (z ≡ y)
    to (Memᴰ.head e) = inl e
    to (Memᴰ.tail (Memᴰ.head e)) = inr e
    to (Memᴰ.tail (Memᴰ.tail m)) = absurd (Memᴰ.not-nil m)

module _ (dirs : List ℕ) (g : Grid) (anchors : List WalkPosition) (l : List Item) where
  touching-iff : (r i : ℕ) → Memᴰ i (touching dirs g l r) ↔ ((i < length l) × (touches (assess_at dirs g l i) r ≡ true))
  unfolding touching
  touching-iff r i = (
    λ m. let k = keep-mem (λ j. touches (assess_at dirs g l j) r) (up_from 0 (length l)) m in (omega (arith, up_mem 0 (length l) k.0), k.1),
    λ p. mem-keep (λ j. touches (assess_at dirs g l j) r) (mem_up 0 (length l) i (omega arith) (omega (arith, p.0))) p.1,
  )

  touching-rising : (r : ℕ) → Pairs (λ i j. i < j) (touching dirs g l r)
  unfolding touching
  touching-rising r = keep-pairs (λ j. touches (assess_at dirs g l j) r) (up_strict 0 (length l))

  differ-iff : (i j : ℕ) → (centres_differ l i j ≡ true) ↔ (squares (doubled_centre (ends_at l i)) (doubled_centre (ends_at l j)) ≡ 0 → ⊥)
  unfolding centres_differ
  differ-iff i j = (
    λ h. let e = not-true (eqb (squares (doubled_centre (ends_at l i)) (doubled_centre (ends_at l j))) 0) h in
        eqb-false (squares (doubled_centre (ends_at l i)) (doubled_centre (ends_at l j))) 0 e,
    λ h. rw (ne_eqb (squares (doubled_centre (ends_at l i)) (doubled_centre (ends_at l j))) 0 h),
  )

  -- the two ranks of a region that two touch
  touching-two : (r : ℕ) → length (touching dirs g l r) ≡ 2 → touching dirs g l r ≡ (link_at dirs g l r).first ∷ (link_at dirs g l r).second ∷ []
  unfolding link_at
  touching-two r e = two-members (touching dirs g l r) 0 e

  two-touching : (r i j : ℕ) → i < j → ((x : ℕ) → ((x < length l) × (touches (assess_at dirs g l x) r ≡ true)) ↔ ((x ≡ i) ⊎ (x ≡ j)))
      → touching dirs g l r ≡ i ∷ j ∷ []
  two-touching r i j h f =
      pairs-ext (λ x y p q. omega arith) (touching dirs g l r) (i ∷ j ∷ []) (touching-rising r)
      (more (λ y m. ⊎_elim (λ (e : y ≡ j). rw e h) (λ (n : Memᴰ y []). absurd (Memᴰ.not-nil n)) (Memᴰ.cases_cons m))
      (more (λ y m. absurd (Memᴰ.not-nil m)) none))
      (λ x. (λ m. (pair-iff i j x).1 ((f x).0 ((touching-iff r x).0 m)), λ m. (touching-iff r x).1 ((f x).1 ((pair-iff i j x).0 m))))

  gives-is : (r : ℕ) → 0 < r → r ≤ region_count dirs g l → gives_link dirs g anchors l r ≡ true → IsLink dirs g anchors l (link_at dirs g l r)
  unfolding gives_link link_at
  gives-is r z c h = record {
    some = z;
    last = c;
    free = not-true (is_anchored g (region_labels dirs g l) anchors r) q.0;
    rising = pairs-at 0 (touching-rising r) 0 1 (omega arith) (omega (arith, two));
    below = ((touching-iff r k.second).0 (rw e (Memᴰ.tail (Memᴰ.head refl)))).0;
    touching = λ i. (
      λ p. (pair-iff k.first k.second i).0 (rw e at ((touching-iff r i).1 p)),
      λ p. (touching-iff r i).0 (rw e ((pair-iff k.first k.second i).1 p)),
    );
    first-linkable = s.0;
    second-linkable = s.1;
    apart = (differ-iff k.first k.second).0 v.1;
  }
    where
      k : LinkAt
      k = link_at dirs g l r

      p : (not (is_anchored g (region_labels dirs g l) anchors r) && eqb (length (touching dirs g l r)) 2 ≡ true)
          × ((linkable dirs g l k.first && linkable dirs g l k.second) && centres_differ l k.first k.second ≡ true)
      p = and_parts _ _ h

      q : (not (is_anchored g (region_labels dirs g l) anchors r) ≡ true) × (eqb (length (touching dirs g l r)) 2 ≡ true)
      q = and_parts _ _ p.0

      v : (linkable dirs g l k.first && linkable dirs g l k.second ≡ true) × (centres_differ l k.first k.second ≡ true)
      v = and_parts _ _ p.1

      s : (linkable dirs g l k.first ≡ true) × (linkable dirs g l k.second ≡ true)
      s = and_parts _ _ v.0

      two : length (touching dirs g l r) ≡ 2
      two = eqb-true (length (touching dirs g l r)) 2 q.1

      e : touching dirs g l r ≡ k.first ∷ k.second ∷ []
      e = touching-two r two

  is-gives : (k : LinkAt) → IsLink dirs g anchors l k → (link_at dirs g l k.region ≡ k) × (gives_link dirs g anchors l k.region ≡ true)
  unfolding gives_link link_at
  is-gives k w = (rw e, rw (e, w.free) (and_both (and_both w.first-linkable w.second-linkable) ((differ-iff k.first k.second).1 w.apart)))
    where
      e : touching dirs g l k.region ≡ k.first ∷ k.second ∷ []
      e = two-touching k.region k.first k.second w.rising w.touching

  -- the links are just those that the rule names
  pub link-iff : (k : LinkAt) → Memᴰ k (links dirs g anchors l) ↔ IsLink dirs g anchors l k
  unfolding links
  link-iff k = (to, from)
    where
      regions : List ℕ
      regions = up_from 1 (region_count dirs g l)

      to : Memᴰ k (links dirs g anchors l) → IsLink dirs g anchors l k
      to m =
          let w = Memᴰ.of_map (link_at dirs g l) (keep (gives_link dirs g anchors l) regions) m in
          let p = keep-mem (gives_link dirs g anchors l) regions w.1 in
          let u = up_mem 1 (region_count dirs g l) p.0 in
          rw (← w.2) (gives-is w.0 (omega arith) (omega arith) p.1)

      from : IsLink dirs g anchors l k → Memᴰ k (links dirs g anchors l)
      from w =
          let p = is-gives k w in
          let m = Memᴰ.map (link_at dirs g l)
          (mem-keep (gives_link dirs g anchors l) (mem_up 1 (region_count dirs g l) k.region (omega (arith, w.some)) (omega (arith, w.last))) p.1) in
          subst (λ (j : LinkAt). Memᴰ j (links dirs g anchors l)) p.0 m

  -- one a region at most, in the order of the regions
  pub links-rising : Pairs (λ (j k : LinkAt). j.region < k.region) (links dirs g anchors l)
  unfolding links link_at
  links-rising = pairs-map (link_at dirs g l) (λ r s h. h) (keep-pairs (gives_link dirs g anchors l) (up_strict 1 (region_count dirs g l)))
