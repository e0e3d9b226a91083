-- What is gathered is what an answer is written from.
use mathlib.Core.Path.{◌≡◌, refl, sym, ◌∙◌, ap, subst}
use mathlib.Core.Bool.{true, false}
use mathlib.Core.List.{List, [], ◌∷◌, map, flat_map, Memᴰ}
use Prim.Native.Nat.{ℕ, ◌≤◌, ◌<◌}
use native.Mathlib.Omega.{arith}
use borrow.Author.Tests.{eqb-true, eq-eqb, ne_eqb}
use lib.Dec.{eqb}
use lib.ListN.{length, get_or, length-map, length-append}
use lib.Seq.{get_or-take}
use Rattle.lists.specs.Rows.{rows, sum}
use Rattle.lists.proofs.Rows.{rows_same, length-rows}
use Rattle.order.specs.Lists.{gather, up_from}
use Rattle.order.specs.Keys.{sort_by, by_key}
use Rattle.order.proofs.Members.{get_d-mem}
use Rattle.order.proofs.Keep.{keep-mem}
use Rattle.order.proofs.Merge.{sort-length}
use Rattle.order.proofs.Numbers.{up_mem, map_at}
use Rattle.format.specs.Values.{Boundary}
use Rattle.format.specs.Encode.{observations_of}
use Rattle.format.specs.Decode.{source_records}
use Rattle.format.specs.declared.records.Source.{Source}
use Rattle.format.specs.declared.records.BoundaryRecord.{BoundaryRecord}
use Rattle.format.specs.declared.records.ObservationRecord.{ObservationRecord}
use Rattle.serial_merging.specs.Kept.{no_boundary}
use Rattle.serial_merging.specs.Keys.{source_key}
use Rattle.serial_merging.specs.Planned.{members, merged}
use Rattle.serial_merging.specs.Sources.{own_sources}
use Rattle.answer_sorting.specs.Parts.{placed_sources}
use Rattle.answer_sources.specs.Laying.{sum_below, elements, seen_count}
use Rattle.answer_sources.specs.Placed.{CopiesPlaced, boundary_rows}
use Rattle.answer_sources.specs.Standing.{Standing}
use Rattle.answer_sources.specs.Gathered.{copies_by, kept_by, PlacesStand, Gathered}
use Rattle.answer_sources.proofs.Merged.{kept-list, kept_at, merged-ends, merged-bits, merged-ramp, merged-own, merged-seen, member_below}
use Rattle.answer_sources.proofs.Merged.{stands-none, stands-append}
use Rattle.answer_gathering.specs.Runs.{Prefix, kept_ranks, going, own_run, seen_run, seen_weight, OwnsBy, SeensBy}
use Rattle.answer_gathering.proofs.Sights.{standing-is}
use Rattle.answer_gathering.proofs.Weights.{lower-all}

-- How many own sources boundaries have, one after another.
own-lengths : (l : List Boundary) → length (own_sources l) ≡ sum_below (λ q. length (get_or l q no_boundary).sources) (length l)
unfolding own_sources gather rows sum
own-lengths [] = refl
own-lengths (b ∷ l) = omega (arith, length-append b.sources (own_sources l), own-lengths l)

-- One of several that observed nothing is marked.
module _ {order plan stands : List ℕ} {seen : ℕ → ℕ} {n : ℕ} (standing : Standing order plan seen n stands) (i : ℕ) (h : i < n) where
  goes-there : (j : ℕ) → Memᴰ j (going plan n i) → get_or plan j 0 ≡ i
  unfolding members
  goes-there j m = eqb-true (get_or plan j 0) i (keep-mem (λ k. eqb (get_or plan k 0) i) (up_from 0 n) m).1

  stands-itself : (length (going plan n i) ≡ 1 → ⊥) → (j : ℕ) → Memᴰ j (going plan n i) → seen (get_or order j 0) ≡ 0 → get_or stands (get_or order j 0) 0 ≡ 1
  stands-itself d j m e =
      let t : eqb (seen (get_or order j 0)) 0 ≡ true = eq-eqb (seen (get_or order j 0)) 0 e in
      let f : eqb (length (going plan n i)) 1 ≡ false = ne_eqb (length (going plan n i)) 1 d in
      standing-is standing (member_below (λ k. get_or plan k 0) n i j m) (goes-there j m) h ∙ rw (t, f) refl

module _ (s : List ℕ) (at from count : ℕ) {os : ℕ → ObservationRecord} {base n : ℕ} {stands firsts first second third starts counts keys : List ℕ}
    (placed : CopiesPlaced (boundary_rows s at) os (source_records s from count) base n stands firsts first second third starts counts keys)
    (order plan : List ℕ) (inside : (j : ℕ) → j < n → get_or order j 0 < n) (standing : Standing order plan (seen_count s at) n stands) where
  abbrev bs : ℕ → BoundaryRecord
  bs = boundary_rows s at

  abbrev ss : List Source
  ss = source_records s from count

  -- What goes into rank i.
  abbrev whole : ℕ → Boundary
  whole i = merged (copies_by bs os ss order n) (going plan n i) i

  abbrev Stays : ℕ → Type 0
  Stays i = (i < n) × (get_or plan i 0 ≡ i)

  own-run : (i : ℕ) → Stays i → own_run s at from base order plan starts n i ≡ (whole i).sources
  unfolding own_run
  own-run i h = sym (merged-own s from count placed order inside (λ j. get_or plan j 0) i h.0 h.1)

  seen-run : (i : ℕ) → Stays i → PlacesStand first second third starts counts keys
      (seen_run base order plan firsts first second third starts counts keys (seen_count s at) n i) (whole i).observations
  unfolding seen_run
  seen-run i h = merged-seen placed order inside (λ j. get_or plan j 0) i h.0 h.1 (stands-itself standing i h.0)

  ranks-stay : (i : ℕ) → Memᴰ i (kept_ranks plan n) → Stays i
  unfolding kept_ranks
  ranks-stay i m =
      let k = keep-mem (λ j. eqb (get_or plan j 0) j) (up_from 0 n) m in
      let u = up_mem 0 n k.0 in
      (omega (arith, u.1), eqb-true (get_or plan i 0) i k.1)

  seens_are : (l : List ℕ) → ((i : ℕ) → Memᴰ i l → Stays i)
      → PlacesStand first second third starts counts keys (gather (seen_run base order plan firsts first second third starts counts keys (seen_count s at) n) l)
      (observations_of (map whole l))
  unfolding observations_of flat_map gather
  seens_are [] h = stands-none
  seens_are (i ∷ l) h = stands-append (seen-run i (h i (Memᴰ.head refl))) (seens_are l (λ j m. h j (Memᴰ.tail m)))

  module _ {heads k r a b : ℕ} {kept owns seens links owned seen : List ℕ}
      (o : OwnsBy s at from base order plan starts heads n n k a kept owns links owned)
      (e : SeensBy base order plan firsts first second third starts counts keys (seen_count s at) n n r b seens seen)
      (few : sum_below (seen_weight order (seen_count s at)) n ≤ 1280) where
    abbrev ranks : List ℕ
    ranks = kept_ranks plan n

    abbrev ks : List Boundary
    ks = kept_by bs os ss order plan n

    ks-are : ks ≡ map whole ranks
    unfolding kept_ranks
    ks-are = kept-list bs os ss order plan n

    ks-long : length ks ≡ length ranks
    ks-long = ap length ks-are ∙ length-map ranks whole

    ks-many : k ≡ length ks
    ks-many = o.kept_there.many ∙ (length-map ranks (λ j. get_or order j 0) ∙ sym ks-long)

    rank-at : (q : ℕ) → q < length ks → Stays (get_or ranks q 0)
    rank-at q h = ranks-stay (get_or ranks q 0) (get_d-mem ranks 0 q (omega (arith, h, ks-long)))

    ks-at : (q : ℕ) → q < length ks → get_or ks q no_boundary ≡ whole (get_or ranks q 0)
    unfolding kept_ranks
    ks-at q h = kept_at bs os ss order plan n q (get_or ranks q 0) (omega (arith, h, ks-long)) refl

    -- What stands in a list that is filled rank by rank.
    filled_at : {l : List ℕ} {m : ℕ} (f : ℕ → ℕ) → Prefix l m (map f ranks) → (q : ℕ) → q < length ks → get_or l q 0 ≡ f (get_or ranks q 0)
    filled_at {l} {m} f g q h =
        let c : q < length ranks = omega (arith, h, ks-long) in
        let d : q < m = omega (arith, c, g.many, length-map ranks f) in
        sym (get_or-take m l q 0 d) ∙ (ap (λ (t : List ℕ). get_or t q 0) g.there ∙ map_at f ranks q 0 0 c)

    kept-is : (q : ℕ) → q < length ks → get_or kept q 0 ≡ get_or order (get_or ranks q 0) 0
    kept-is q h = filled_at (λ j. get_or order j 0) o.kept_there q h

    own-are : (q : ℕ) → q < length ks
        → sort_by source_key (placed_sources s from owned (sum_below (elements owns) q) (get_or owns q 0)) ≡ (get_or ks q no_boundary).sources
    own-are q h =
        o.owned-there q (omega (arith, ks-many, h))
        ∙ (own-run (get_or ranks q 0) (rank-at q h) ∙ ap (λ (z : Boundary). z.sources) (sym (ks-at q h)))

    own-many : (q : ℕ) → q < length ks → get_or owns q 0 ≡ length (get_or ks q no_boundary).sources
    own-many q h =
        let l = placed_sources s from owned (sum_below (elements owns) q) (get_or owns q 0) in
        sym (sort-length (by_key source_key) l ∙ length-rows (get_or owns q 0) _) ∙ ap length (own-are q h)

    owns-long : length (own_sources ks) ≡ a
    owns-long =
        own-lengths ks
        ∙ (ap sum (rows_same (length ks) (λ q. length (get_or ks q no_boundary).sources) (elements owns) (λ q h. sym (own-many q h)))
        ∙ (ap (sum_below (elements owns)) (sym ks-many) ∙ o.total))

    stands-all : PlacesStand first second third starts counts keys
        (gather (seen_run base order plan firsts first second third starts counts keys (seen_count s at) n) ranks) (observations_of ks)
    stands-all = subst (λ (l : List Boundary).
        PlacesStand first second third starts counts keys
        (gather (seen_run base order plan firsts first second third starts counts keys (seen_count s at) n) ranks)
        (observations_of l)) (sym ks-are) (seens_are ranks ranks-stay)

    seens-long : length (observations_of ks) ≡ b
    seens-long = sym stands-all.many ∙ sym e.seen-there.many

    pub gathered : Gathered s at from n ks kept owns seens owned seen first second third starts counts keys × (k ≡ length ks)
    gathered = (
      record {
        few = omega (arith, ks-many, o.few);
        place_in = λ q h. rw (kept-is q h) (inside (get_or ranks q 0) (rank-at q h).0);
        ends-are = λ q h. rw (kept-is q h, ks-at q h) (merged-ends bs os ss order (λ j. get_or plan j 0) n (get_or ranks q 0) (rank-at q h).0 (rank-at q h).1);
        bits_are = λ q h. rw (kept-is q h, ks-at q h) (merged-bits bs os ss order (λ j. get_or plan j 0) n (get_or ranks q 0) (rank-at q h).0 (rank-at q h).1);
        ramp-is = λ q h. rw (kept-is q h, ks-at q h) (merged-ramp bs os ss order (λ j. get_or plan j 0) n (get_or ranks q 0) (rank-at q h).0 (rank-at q h).1);
        own-count = own-many;
        seen-count = λ q h.
            filled_at (λ j. length (seen_run base order plan firsts first second third starts counts keys (seen_count s at) n j)) e.seens-there q h
            ∙ ((seen-run (get_or ranks q 0) (rank-at q h)).many ∙ ap (λ (z : Boundary). length z.observations) (sym (ks-at q h)));
        own_room = omega (arith, owns-long, o.linked.few, o.linked.small);
        own-there = own-are;
        own-inside = λ q h. o.inside q (omega (arith, owns-long, h));
        seen-room = omega (arith, seens-long, e.room, lower-all plan (seen_weight order (seen_count s at)) n n, few);
        seen-there = rw (seens-long, e.seen-there.there) stands-all;
      },
      ks-many,
    )
