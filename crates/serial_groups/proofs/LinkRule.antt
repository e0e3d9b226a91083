-- The computed rule of a link is document 01's.
use mathlib.Core.Path.{◌≡◌, refl}
use mathlib.Core.Logic.{◌↔◌}
use mathlib.Core.Bool.{true, not, ◌&&◌}
use mathlib.Core.List.{List, Memᴰ}
use Prim.Native.Nat.{ℕ, zero, suc, ◌*◌}
use native.Mathlib.Omega.{arith}
use borrow.Author.Tests.{eqb-true, eq-eqb, not-true}
use lib.Dec.{eqb}
use Rattle.order.proofs.Bools.{clash, is_false, and_parts, and_both}
use Rattle.position.specs.Order.{pos_same}
use Rattle.position.proofs.Order.{same-means}
use Rattle.position.specs.declared.PixelPosition.{PixelPosition}
use Rattle.position.specs.declared.WalkPosition.{WalkPosition}
use Rattle.grid.specs.Cells.{Grid}
use Rattle.areas.specs.Assessments.{Assessment}
use Rattle.context.specs.FullPair.{touches, has_full_pair}
use Rattle.context.specs.Listing.{Item}
use Rattle.context.proofs.Anchors.{anchored-iff}
use Rattle.context.proofs.FullPair.{touches-iff, full-pair-iff}
use Rattle.serial_links.specs.Geometry.{DoubledPoint, apart, squares, doubled_centre}
use Rattle.serial_groups.specs.Listing.{boundary_at, ends_at}
use Rattle.serial_groups.specs.Regions.{region_labels, assess_at}
use Rattle.serial_groups.specs.Links.{LinkAt, linkable, links, IsLink}
use Rattle.serial_groups.specs.LinkRule.{Touches, Linkable, Gives}
use Rattle.order.proofs.Tests.{either-iff}
use Rattle.serial_groups.proofs.Links.{link-iff}

touches-words : (a : Assessment) (r : ℕ) → (touches a r ≡ true) ↔ Touches a r
touches-words a r = (
  λ h.
      let w = (touches-iff a r).0 h in
      record {
        pair = w.0;
        own = w.1;
        either = (either-iff r w.0.lower w.0.higher).0 w.2;
      },
  λ w. (touches-iff a r).1 (w.pair, w.own, (either-iff r w.pair.lower w.pair.higher).1 w.either),
)

same_self : (p : PixelPosition) → pos_same p p ≡ true
unfolding pos_same
same_self p = and_both (eq-eqb p.x p.x refl) (eq-eqb p.y p.y refl)

-- a difference whose square is 0
square-zero : (n : ℕ) → n * n ≡ 0 → n ≡ 0
square-zero zero h = refl
square-zero (suc n) h = absurd (omega arith)

-- the sum of squares is 0 exactly if the centres are one
same-centre : (p q : DoubledPoint) → squares p q ≡ 0 → p ≡ q
unfolding squares
same-centre p q h =
    let x : p.x ≡ q.x = omega (arith, square-zero (apart p.x q.x) (omega arith)) in
    let y : p.y ≡ q.y = omega (arith, square-zero (apart p.y q.y) (omega arith)) in
    λ i. record { x = x i; y = y i }

no-squares : (p : DoubledPoint) → squares p p ≡ 0
unfolding squares
no-squares p =
    let x : apart p.x p.x ≡ 0 = omega arith in
    let y : apart p.y p.y ≡ 0 = omega arith in
    rw (x, y) refl

module _ (dirs : List ℕ) (g : Grid) (l : List Item) where
  linkable-words : (i : ℕ) → (linkable dirs g l i ≡ true) ↔ Linkable dirs g l i
  unfolding linkable
  linkable-words i = (to, from)
    where
      to : linkable dirs g l i ≡ true → Linkable dirs g l i
      to h =
          let p = and_parts (not (pos_same (ends_at l i).a (ends_at l i).b) && eqb (boundary_at l i).ramp.end 0) (has_full_pair (assess_at dirs g l i)) h in
          let q = and_parts (not (pos_same (ends_at l i).a (ends_at l i).b)) (eqb (boundary_at l i).ramp.end 0) p.0 in
          let f = (full-pair-iff (assess_at dirs g l i)).0 p.1 in
          record {
            distinct = λ e. clash (rw e (same_self (ends_at l i).b)) (not-true (pos_same (ends_at l i).a (ends_at l i).b) q.0);
            no-ramp = eqb-true (boundary_at l i).ramp.end 0 q.1;
            full = record { removes = f.0; all-differ = f.1; just-one = f.2 };
          }

      from : Linkable dirs g l i → linkable dirs g l i ≡ true
      from w =
          let d = is_false (pos_same (ends_at l i).a (ends_at l i).b) (λ h. w.distinct (same-means (ends_at l i).a (ends_at l i).b h)) in
          let n : not (pos_same (ends_at l i).a (ends_at l i).b) ≡ true = rw d refl in
          and_both (and_both n (eq-eqb (boundary_at l i).ramp.end 0 w.no-ramp))
          ((full-pair-iff (assess_at dirs g l i)).1 (w.full.removes, w.full.all-differ, w.full.just-one))

module _ (dirs : List ℕ) (g : Grid) (anchors : List WalkPosition) (l : List Item) where
  is-words : (k : LinkAt) → IsLink dirs g anchors l k → Gives dirs g anchors l k
  is-words k w = record {
    some = w.some;
    last = w.last;
    free = λ p m e. clash ((anchored-iff g (region_labels dirs g l) anchors k.region).1 (p, m, e)) w.free;
    rising = w.rising;
    below = w.below;
    touching = λ i. (
      λ p. (w.touching i).0 (p.0, (touches-words (assess_at dirs g l i) k.region).1 p.1),
      λ e. let p = (w.touching i).1 e in (p.0, (touches-words (assess_at dirs g l i) k.region).0 p.1),
    );
    first-linkable = (linkable-words dirs g l k.first).0 w.first-linkable;
    second-linkable = (linkable-words dirs g l k.second).0 w.second-linkable;
    apart = λ e. w.apart (rw e (no-squares (doubled_centre (ends_at l k.second))));
  }

  words-is : (k : LinkAt) → Gives dirs g anchors l k → IsLink dirs g anchors l k
  words-is k w = record {
    some = w.some;
    last = w.last;
    free = is_false _ (λ h. let p = (anchored-iff g (region_labels dirs g l) anchors k.region).0 h in w.free p.0 p.1 p.2);
    rising = w.rising;
    below = w.below;
    touching = λ i. (
      λ p. (w.touching i).0 (p.0, (touches-words (assess_at dirs g l i) k.region).0 p.1),
      λ e. let p = (w.touching i).1 e in (p.0, (touches-words (assess_at dirs g l i) k.region).1 p.1),
    );
    first-linkable = (linkable-words dirs g l k.first).1 w.first-linkable;
    second-linkable = (linkable-words dirs g l k.second).1 w.second-linkable;
    apart = λ h. w.apart (same-centre (doubled_centre (ends_at l k.first)) (doubled_centre (ends_at l k.second)) h);
  }

  -- the listed links are just those that a region gives
  pub gives-iff : (k : LinkAt) → Memᴰ k (links dirs g anchors l) ↔ Gives dirs g anchors l k
  gives-iff k = (λ m. is-words k ((link-iff dirs g anchors l k).0 m), λ w. (link-iff dirs g anchors l k).1 (words-is k w))
