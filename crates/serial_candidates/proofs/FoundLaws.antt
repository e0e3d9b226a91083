-- What arrays that tell of a listing give are its links.
use mathlib.Core.Path.{◌≡◌, refl, sym, ◌∙◌, ap}
use mathlib.Core.Bool.{Bool, true, false, cond, not, ◌&&◌, ◌||◌}
use mathlib.Core.List.{List, [], ◌∷◌, map, Memᴰ}
use Prim.Native.Nat.{ℕ, ◌<◌, ◌≤◌}
use native.Mathlib.Omega.{arith}
use borrow.Author.Tests.{eqb-true}
use lib.Dec.{eqb}
use lib.ListN.{length, get_or}
use Rattle.order.specs.Lists.{keep, up_from, has}
use Rattle.order.proofs.Bools.{clash, and_parts}
use Rattle.order.proofs.Members.{get_d-mem, map-ext}
use Rattle.order.proofs.Keep.{keep-mem, keep-ext}
use Rattle.order.proofs.Numbers.{up_mem}
use Rattle.position.specs.declared.WalkPosition.{WalkPosition}
use Rattle.grid.specs.Cells.{Grid}
use Rattle.areas.specs.Spans.{span_in}
use Rattle.areas.specs.Assessments.{RegionPair}
use Rattle.areas.proofs.Assessments.{pair-labels}
use Rattle.context.specs.Anchors.{is_anchored}
use Rattle.context.specs.AnchorLoop.{anchor_labels}
use Rattle.context.specs.FullPair.{in_pair, in_pairs, touches, has_full_pair, no_pair}
use Rattle.context.specs.Listing.{Item}
use Rattle.context.proofs.Bases.{among-anchored}
use Rattle.context.proofs.FullPair.{touches-iff, full-pair-iff}
use Rattle.serial_links.specs.Geometry.{squares, doubled_centre}
use Rattle.position.specs.Order.{pos_same}
use Rattle.serial_groups.specs.Listing.{no_item, spans_of, boundary_at, ends_at}
use Rattle.serial_groups.specs.Regions.{region_labels, region_count, assess_at, touching}
use Rattle.serial_groups.specs.Links.{centres_differ, linkable, link_at, gives_link, links}
use Rattle.serial_groups.specs.Tables.{Paired, LinkTable}
use Rattle.serial_candidates.specs.Gives.{has_region, joins_two}
use Rattle.serial_candidates.specs.Found.{Given, found, found_link, AllFound}
use Rattle.serial_candidates.specs.declared.touching.Touching.{Touching}
use Rattle.serial_candidates.proofs.ToucherLaws.{touching-held}

-- the arrays tell of the listing
pub record Tells (dirs : List ℕ) (g : Grid) (anchors : List WalkPosition) (l : List Item) (d : Given) : Type 0 where
  pub ends : (i : ℕ) → i < length l → ends_at l i ≡ span_in d.own i
  pub marks-are : (i : ℕ) → i < length l → get_or d.marks i 0 ≡ cond (linkable dirs g l i) 1 0
  pub firsts : (i : ℕ) → i < length l → (get_or d.lowers i 0 ≡ (get_or (assess_at dirs g l i).pairs 0 no_pair).lower)
      × (get_or d.highers i 0 ≡ (get_or (assess_at dirs g l i).pairs 0 no_pair).higher)
  pub paired : Paired dirs g l d.owners d.lefts d.rights d.count
  pub anchored : d.anchors ≡ anchor_labels g.width (region_labels dirs g l) anchors

-- a region among the only pair is one of its two
only-pair : (r : ℕ) (ps : List RegionPair) → length ps ≡ 1 → in_pairs r ps ≡ true
    → (eqb r (get_or ps 0 no_pair).lower || eqb r (get_or ps 0 no_pair).higher) ≡ true
unfolding in_pairs
only-pair r [] e h = absurd (omega (arith, e))
only-pair r (p ∷ []) e h = or-false (in_pair r p) h
  where
    or-false : (b : Bool) → (b || false) ≡ true → b ≡ true
    or-false true x = refl
    or-false false x = x
only-pair r (p ∷ q ∷ ps) e h = absurd (omega (arith, e))

module _ (dirs : List ℕ) (g : Grid) (anchors : List WalkPosition) (l : List Item) (d : Given) (w : Tells dirs g anchors l d) where
  touching-mem : (r : ℕ) {i : ℕ} → Memᴰ i (touching dirs g l r) → (i < length l) × (touches (assess_at dirs g l i) r ≡ true)
  unfolding touching
  touching-mem r m = let k = keep-mem (λ j. touches (assess_at dirs g l j) r) (up_from 0 (length l)) m in (omega (arith, up_mem 0 (length l) k.0), k.1)

  -- of a rank that touches the region: it can be linked exactly if it is marked and the region is one of its first pair
  has-linkable : (r i : ℕ) → Memᴰ i (touching dirs g l r) → has_region d.marks d.lowers d.highers r i ≡ linkable dirs g l i
  unfolding linkable touches
  has-linkable r i m = go (linkable dirs g l i) refl (w.marks-are i t.0)
    where
      t : (i < length l) × (touches (assess_at dirs g l i) r ≡ true)
      t = touching-mem r m

      go : (b : Bool) → linkable dirs g l i ≡ b → get_or d.marks i 0 ≡ cond b 1 0 → has_region d.marks d.lowers d.highers r i ≡ b
      go true e k =
          let full = (full-pair-iff (assess_at dirs g l i)).0
          (and_parts (not (pos_same (ends_at l i).a (ends_at l i).b) && eqb (boundary_at l i).ramp.end 0) (has_full_pair (assess_at dirs g l i)) e).1 in
          let p = only-pair r (assess_at dirs g l i).pairs full.2 t.1 in
          rw (k, (w.firsts i t.0).0, (w.firsts i t.0).1) p
      go false e k = rw k

  both : (r : ℕ) (x : Bool)
      → (not x && joins_two d.own d.marks d.lowers d.highers r (length (touching dirs g l r)) (get_or (touching dirs g l r) 0 0)
      (get_or (touching dirs g l r) 1 0))
      ≡ ((not x && eqb (length (touching dirs g l r)) 2)
      && ((linkable dirs g l (get_or (touching dirs g l r) 0 0) && linkable dirs g l (get_or (touching dirs g l r) 1 0)) && centres_differ l
      (get_or (touching dirs g l r) 0 0) (get_or (touching dirs g l r) 1 0)))
  unfolding joins_two centres_differ
  both r true = refl
  both r false = go (eqb (length (touching dirs g l r)) 2) refl
    where
      a : ℕ
      a = get_or (touching dirs g l r) 0 0

      b : ℕ
      b = get_or (touching dirs g l r) 1 0

      centres : a < length l → b < length l
          → not (eqb (squares (doubled_centre (span_in d.own a)) (doubled_centre (span_in d.own b))) 0) ≡ not
          (eqb (squares (doubled_centre (ends_at l a)) (doubled_centre (ends_at l b))) 0)
      centres h k = sym (ap (λ s. not (eqb (squares (doubled_centre s) (doubled_centre (ends_at l b))) 0)) (w.ends a h)
          ∙ ap (λ s. not (eqb (squares (doubled_centre (span_in d.own a)) (doubled_centre s)) 0)) (w.ends b k))

      go : (t : Bool) → eqb (length (touching dirs g l r)) 2 ≡ t
          → (t && ((has_region d.marks d.lowers d.highers r a && has_region d.marks d.lowers d.highers r b) && not
          (eqb (squares (doubled_centre (span_in d.own a)) (doubled_centre (span_in d.own b))) 0)))
          ≡ (t && ((linkable dirs g l a && linkable dirs g l b) && not (eqb (squares (doubled_centre (ends_at l a)) (doubled_centre (ends_at l b))) 0)))
      go true e =
          let two = eqb-true (length (touching dirs g l r)) 2 e in
          let ma = get_d-mem (touching dirs g l r) 0 0 (omega (arith, two)) in
          let mb = get_d-mem (touching dirs g l r) 0 1 (omega (arith, two)) in
          let p = has-linkable r a ma in
          let q = has-linkable r b mb in
          let c = centres (touching-mem r ma).0 (touching-mem r mb).0 in
          ap (λ (x : Bool). (x && has_region d.marks d.lowers d.highers r b) && not
          (eqb (squares (doubled_centre (span_in d.own a)) (doubled_centre (span_in d.own b))) 0)) p
          ∙ (ap (λ (x : Bool). (linkable dirs g l a && x) && not (eqb (squares (doubled_centre (span_in d.own a)) (doubled_centre (span_in d.own b))) 0)) q
          ∙ ap (λ (x : Bool). (linkable dirs g l a && linkable dirs g l b) && x) c)
      go false e = refl

  anchored-is : (r : ℕ) → has r d.anchors ≡ is_anchored g (region_labels dirs g l) anchors r
  anchored-is r = ap (has r) w.anchored ∙ among-anchored g (region_labels dirs g l) anchors r

  pub found-is : (r : ℕ) → found d r ≡ gives_link dirs g anchors l r
  unfolding found gives_link link_at
  found-is r =
      ap (λ (t : Touching). not (has r d.anchors) && joins_two d.own d.marks d.lowers d.highers r
      t.count t.first t.second) (touching-held dirs g l w.paired r)
      ∙ (both r (has r d.anchors)
      ∙ ap (λ (x : Bool). (not x && eqb (length (touching dirs g l r)) 2)
      && ((linkable dirs g l (get_or (touching dirs g l r) 0 0) && linkable dirs g l (get_or (touching dirs g l r) 1 0)) && centres_differ l
      (get_or (touching dirs g l r) 0 0) (get_or (touching dirs g l r) 1 0))) (anchored-is r))

  link-is : (r : ℕ) → found_link d r ≡ link_at dirs g l r
  unfolding found_link link_at
  link-is r = ap (λ (t : Touching). record { region = r; first = t.first; second = t.second }) (touching-held dirs g l w.paired r)

  -- a region that a rank touches is one of the map's
  touched-most : (r : ℕ) → found d r ≡ true → r ≤ region_count dirs g l
  unfolding gives_link link_at region_count assess_at
  touched-most r h =
      let p = and_parts (not (is_anchored g (region_labels dirs g l) anchors r) && eqb (length (touching dirs g l r)) 2)
      ((linkable dirs g l (get_or (touching dirs g l r) 0 0) && linkable dirs g l (get_or (touching dirs g l r) 1 0)) && centres_differ l
      (get_or (touching dirs g l r) 0 0) (get_or (touching dirs g l r) 1 0)) (sym (found-is r) ∙ h) in
      let two = eqb-true (length (touching dirs g l r)) 2
      (and_parts (not (is_anchored g (region_labels dirs g l) anchors r)) (eqb (length (touching dirs g l r)) 2) p.0).1 in
      let t = touching-mem r (get_d-mem (touching dirs g l r) 0 0 (omega (arith, two))) in
      let q = (touches-iff (assess_at dirs g l (get_or (touching dirs g l r) 0 0)) r).0 t.1 in
      let b = pair-labels dirs g (spans_of l) (get_or l (get_or (touching dirs g l r) 0 0) no_item).span q.0 q.1 in
      most q.0 b q.2
    where
      most : (p : RegionPair) {n : ℕ} → (0 < p.lower) × (p.lower < p.higher) × (p.higher ≤ n) → in_pair r p ≡ true → r ≤ n
      most p {n} b e = go (eqb r p.lower) refl (eqb r p.higher) refl e
        where
          go : (x : Bool) → eqb r p.lower ≡ x → (y : Bool) → eqb r p.higher ≡ y → (x || y) ≡ true → r ≤ n
          go true f y k z = let u = eqb-true r p.lower f in omega (arith, b.1, b.2)
          go false f true k z = let u = eqb-true r p.higher k in omega (arith, b.2)
          go false f false k z = clash {t = false} z refl

  -- the links found are the map's
  pub linked : {rs fs ss : List ℕ} {n : ℕ} → AllFound d rs fs ss n → LinkTable dirs g anchors l rs fs ss n
  unfolding links
  linked a = record {
    most = a.most;
    all = a.all (region_count dirs g l) (λ y h. none y h)
        ∙ (ap (map (found_link d)) (keep-ext (found d) (gives_link dirs g anchors l) (up_from 1 (region_count dirs g l)) (λ y m. found-is y))
        ∙ map-ext (found_link d) (link_at dirs g l) (keep (gives_link dirs g anchors l) (up_from 1 (region_count dirs g l))) (λ y m. link-is y));
  }
    where
      none : (y : ℕ) → region_count dirs g l < y → found d y ≡ false
      none y h = go (found d y) refl
        where
          go : (b : Bool) → found d y ≡ b → b ≡ false
          go true e = absurd (omega (arith, touched-most y e))
          go false e = refl
