-- Relisted runs have the same canonical listing, and a listing is a relisting of itself.
use mathlib.Core.Path.{◌≡◌, refl, sym, ◌∙◌, ap}
use mathlib.Core.Logic.{by_cases}
use mathlib.Core.List.Permᴰ
use mathlib.Core.List.{List, [], ◌∷◌, map, zip_with, Permᴰ}
use native.Mathlib.Omega.{arith}
use native.Mathlib.Decide.{ℕ_discrete}
use borrow.Author.Tests.{eq-eqb, ne_eqb}
use lib.ListN.{length}
use Rattle.order.specs.Keys.{by_key, sort_by}
use Rattle.order.specs.Pairs.{Pairs, Sorted}
use Rattle.order.specs.Shuffled.{Shuffled, nil, next, swap, then}
use Rattle.order.proofs.Pairs.{pairs-imp, perm-pairs, map-pairs}
use Rattle.order.proofs.Keys.{key-preorder}
use Rattle.order.proofs.Shuffled.{shuffled-refl, shuffled-length, shuffled-map}
use Rattle.order.proofs.Sort.{sort-perm, sort-map}
use Rattle.order.proofs.Stable.{sort_sorted}
use Rattle.order.proofs.Forgets.{sort-forgets-told}
use Rattle.position.specs.declared.Span.{Span}
use Rattle.format.specs.Values.{Observation, Boundary}
use Rattle.context.specs.Listing.{Item, ends_key, listing}
use Rattle.serial_merging.specs.Copies.{canon, copies_of}
use Rattle.serial_merging.specs.Groups.{Groups}
use Rattle.serial_merging.specs.Runs.{Run, Matched, item_of, items_of, canon_item, groups_of}
use Rattle.serial_merging.specs.Relisted.{same, LikeObservation, LikeBoundary, LikeItem, Relisted, matched, unmatched}
use Rattle.serial_merging.proofs.Lists.{apart-told}
use Rattle.serial_merging.proofs.Copies.{canon-like, item-like, key-canon}
use Rattle.serial_merging.proofs.Ends.{Unlike, unlike-symm, copies-unlike}

abbrev boundaries_of : List Item → List Boundary
boundaries_of items = map (λ (i : Item). i.boundary) items

-- The listing's boundaries are the copies in order.
boundaries-of : (r : Run) → Matched r → boundaries_of (items_of r) ≡ r.boundaries
unfolding items_of
boundaries-of r e = go r.boundaries r.spans e
  where
    go : (bs : List Boundary) (ss : List Span) → length bs ≡ length ss → boundaries_of (zip_with item_of bs ss) ≡ bs
    go [] ss e = refl
    go (b ∷ bs) [] e = absurd (omega arith)
    go (b ∷ bs) (s ∷ ss) e = ap (λ (l : List Boundary). b ∷ l) (go bs ss (omega arith))

copied-items : (l : List Item) → boundaries_of (map canon_item l) ≡ map canon (boundaries_of l)
unfolding canon_item
copied-items [] = refl
copied-items (i ∷ is) = ap (λ (l : List Boundary). canon i.boundary ∷ l) (copied-items is)

pub listing-copies : (r : Run) → Matched r → boundaries_of (listing (map canon_item (items_of r))) ≡ copies_of r.boundaries
unfolding copies_of
listing-copies r e = sym
    (sort-map (λ (i : Item). i.boundary) (by_key (λ (i : Item). ends_key i.boundary)) (by_key ends_key) (λ i j. refl) (map canon_item (items_of r)))
    ∙ ap (sort_by ends_key) (copied-items (items_of r) ∙ ap (map canon) (boundaries-of r e))

pub copies-perm : (bs : List Boundary) → Permᴰ (map canon bs) (copies_of bs)
unfolding copies_of
copies-perm bs = sort-perm (by_key ends_key) (map canon bs)

pub copies-sorted : (bs : List Boundary) → Sorted (by_key ends_key) (copies_of bs)
unfolding copies_of
copies-sorted bs = sort_sorted (key-preorder ends_key) (map canon bs)

pub copies_apart : (bs : List Boundary) → Pairs Unlike bs → Pairs Unlike (copies_of bs)
copies_apart bs u = perm-pairs unlike-symm (copies-perm bs) (copies-unlike u)

-- Relisted runs have the same copies.
relisted-boundaries : {r s : Run} → Relisted r s → Shuffled LikeBoundary r.boundaries s.boundaries
relisted-boundaries (matched {r = r} {s = s} e f h) = rw (← boundaries-of r e, ← boundaries-of s f) (go h)
  where
    go : {l m : List Item} → Shuffled LikeItem l m → Shuffled LikeBoundary (boundaries_of l) (boundaries_of m)
    go nil = nil
    go (next x t) = next x.boundary (go t)
    go (swap x y t) = swap x.boundary y.boundary (go t)
    go (then t u) = then (go t) (go u)
relisted-boundaries (unmatched n h k) = h

pub relisted-copies : {r s : Run} → Relisted r s → Permᴰ (map canon r.boundaries) (map canon s.boundaries)
relisted-copies h = shuffled-map canon canon-like (relisted-boundaries h)

pub relisted-unlike : {r s : Run} → Relisted r s → Pairs Unlike r.boundaries → Pairs Unlike s.boundaries
relisted-unlike {s = s} h u = pairs-imp (λ b c f. rw (key-canon b, key-canon c) at f)
    (map-pairs canon s.boundaries (perm-pairs unlike-symm (relisted-copies h) (copies-unlike u)))

pub same-copies : {r s : Run} → Pairs Unlike r.boundaries → Relisted r s → copies_of r.boundaries ≡ copies_of s.boundaries
unfolding copies_of
same-copies u h = sort-forgets-told (key-preorder ends_key) (pairs-imp (apart-told (by_key ends_key)) (copies-unlike u)) (relisted-copies h)

-- And where each span goes with its boundary, the same listing.
same-listing : (r s : Run) → Pairs Unlike r.boundaries → Matched r → Shuffled LikeItem (items_of r) (items_of s)
    → listing (map canon_item (items_of r)) ≡ listing (map canon_item (items_of s))
same-listing r s u e h =
    let u' : Pairs Unlike (boundaries_of (map canon_item (items_of r))) = rw (copied-items (items_of r), boundaries-of r e) (copies-unlike u) in
    sort-forgets-told (key-preorder (λ (i : Item). ends_key i.boundary))
    (pairs-imp (apart-told (by_key (λ (i : Item). ends_key i.boundary))) (map-pairs (λ (i : Item). i.boundary) (map canon_item (items_of r)) u'))
    (shuffled-map canon_item item-like h)

pub same-groups : (rules : List Item → Groups) {r s : Run} → Pairs Unlike r.boundaries → Relisted r s → groups_of rules r ≡ groups_of rules s
unfolding groups_of
same-groups rules u (matched {r = r} {s = s} e f h) =
    rw (eq-eqb (length r.boundaries) (length r.spans) e, eq-eqb (length s.boundaries) (length s.spans) f) (ap rules (same-listing r s u e h))
same-groups rules u (unmatched {r = r} {s = s} n h k) =
    rw (
      ne_eqb (length r.boundaries) (length r.spans) n,
      ne_eqb (length s.boundaries) (length s.spans) (λ q. n (shuffled-length h ∙ (q ∙ sym (shuffled-length k)))),
    )

-- Every run is a relisting of itself.
like-observation : (o : Observation) → LikeObservation o o
like-observation o = record { ends = same; bits = refl; sources = Permᴰ.refl o.sources }

like-boundary : (b : Boundary) → LikeBoundary b b
like-boundary b = record {
  ends = same;
  bits = refl;
  ramp = refl;
  sources = Permᴰ.refl b.sources;
  observations = shuffled-refl like-observation b.observations;
}

pub relisted-itself : (r : Run) → Relisted r r
relisted-itself r =
    by_cases (ℕ_discrete (length r.boundaries) (length r.spans))
    (λ m. matched m m (shuffled-refl (λ i. record { boundary = like-boundary i.boundary; span = same }) (items_of r)))
    (λ n. unmatched n (shuffled-refl like-boundary r.boundaries) (shuffled-refl (λ s. same) r.spans))
