-- The rules on a group, by arrays.
use mathlib.Core.Path.{◌≡◌, refl, sym, ◌∙◌, ap}
use mathlib.Core.Bool.{Bool, true, false, not, ◌&&◌}
use mathlib.Core.List.{List, [], ◌∷◌, map, map-map, Memᴰ}
use Prim.Native.Nat.{ℕ, suc, ◌<◌}
use native.Mathlib.Omega.{arith}
use borrow.Author.Tests.{eqb-true}
use lib.Dec.{eqb, leb}
use lib.Ieee.{Float, binary64, le, of_bits}
use lib.ListN.{length, get_or, length-map}
use Rattle.lists.specs.Rows.{at}
use Rattle.order.specs.Lists.{keep}
use Rattle.order.specs.Sorting.{sort}
use Rattle.order.proofs.Keep.{keep-mem, keep-ext, keep-map}
use Rattle.order.proofs.Tests.{every-ext, every_map}
use Rattle.order.proofs.Members.{map-ext, get_d-mem}
use Rattle.order.proofs.Sort.{sort-ext}
use Rattle.length.specs.Floats.{◌⊕◌}
use Rattle.length.specs.Total.{total_le}
use Rattle.length.specs.declared.Length.{Length}
use Rattle.position.specs.declared.Span.{Span}
use Rattle.grid.specs.Cells.{Grid}
use Rattle.areas.specs.Spans.{span_in}
use Rattle.areas.specs.Assessments.{RegionPair, region_pair}
use Rattle.context.specs.FullPair.{other_region}
use Rattle.context.specs.Listing.{Item}
use Rattle.serial_links.specs.Limits.{Limits}
use Rattle.serial_links.specs.Geometry.{centre_distance, centre_length}
use Rattle.serial_links.specs.Parallel.{nearby_parallel}
use Rattle.serial_sums.specs.Sums.{ascending_sum, no_later}
use Rattle.serial_sums.specs.Totals.{all_exact}
use Rattle.serial_links.specs.Sums.{distance_sum}
use Rattle.order.specs.Tests.{every}
use Rattle.serial_groups.specs.Listing.{ends_at, bits_at}
use Rattle.serial_groups.specs.Links.{LinkAt, joins}
use Rattle.serial_groups.specs.Measuring.{passes}
use Rattle.serial_groups.specs.Groups.{LinkGroup}
use Rattle.serial_groups.specs.SimplePath.{links_at, degree, ends_of, is_path, no_link, outer_region, simple_path}
use Rattle.serial_groups.specs.Serial.{rank_distance, chain_sum, end_distance, rank_length, chain_total, accepts_serial}
use Rattle.serial_groups.specs.Flat.{alike, accepts_flat, least_flat_spans}
use Rattle.serial_groups.specs.Representative.{least_width, distance_to, nearer, eligible, retained, width_at}
use Rattle.serial_groups.specs.Tables.{link_row}
use Rattle.serial_plan.specs.Arrays.{is_on, joins_at}
use Rattle.serial_plan.specs.Shape.{degree_in, ends_in, regular_in, gap_in, chain_in, gap_length_in, chain_total_in}
use Rattle.serial_plan.specs.Shape.{outer_in, path_in, alike_in, all_alike_in, least_in, sum_in, nearer_in, fine_in}
use Rattle.serial_plan.specs.Shape.{eligible_in, retained_in}
use Rattle.serial_plan.specs.Told.{group_by, BoundaryTables, Passed, serial_in, flat_in}
use Rattle.serial_plan.proofs.ShapeLaws.{at_each}

map_both : {A B C : Type 0} (f : A → B) (h : B → C) (u : A → C) (l : List A) → ((y : A) → Memᴰ y l → h (f y) ≡ u y) → map h (map f l) ≡ map u l
map_both f h u l e = map-map h f l ∙ map-ext (λ y. h (f y)) u l e

-- the last test matters only where the fourth passes
abbrev shaped : Bool → Bool → Bool → Bool → Bool → Bool → Bool
shaped a b c d e f = ((a && b) && ((c && d) && e)) && f

last-matters : (a b c d e f g : Bool) → (d ≡ true → f ≡ g) → shaped a b c d e f ≡ shaped a b c d e g
last-matters a b c true e f g h = ap (shaped a b c true e) (h refl)
last-matters false b c false e f g h = refl
last-matters true false c false e f g h = refl
last-matters true true false false e f g h = refl
last-matters true true true false e f g h = refl

module _ (regions firsts seconds rs js : List ℕ) where
  abbrev a : LinkGroup
  a = group_by regions firsts seconds rs js

  abbrev near : ℕ → List ℕ
  near i = keep (joins_at firsts seconds i) js

  links-at-is : (i : ℕ) → links_at a i ≡ map (link_row regions firsts seconds) (near i)
  unfolding links_at
  links-at-is i = keep-map (link_row regions firsts seconds) (joins i) (joins_at firsts seconds i) js (λ y m. refl)

  degree-is : (i : ℕ) → degree a i ≡ degree_in firsts seconds js i
  degree-is i = ap (λ (l : List LinkAt). length l) (links-at-is i) ∙ length-map (near i) (link_row regions firsts seconds)

  pub ends_is : ends_of a ≡ ends_in firsts seconds rs js
  unfolding ends_of ends_in
  ends_is = keep-ext (λ i. eqb (degree a i) 1) (λ i. eqb (degree_in firsts seconds js i) 1) rs (λ y m. ap (λ (d : ℕ). eqb d 1) (degree-is y))

  regular-is : every (λ i. leb 1 (degree a i) && leb (degree a i) 2) rs ≡ regular_in firsts seconds rs js
  unfolding regular_in
  regular-is =
      every-ext (λ i. leb 1 (degree a i) && leb (degree a i) 2) (λ i. leb 1 (degree_in firsts seconds js i) && leb (degree_in firsts seconds js i) 2) rs
      (λ y m. ap (λ (d : ℕ). leb 1 d && leb d 2) (degree-is y))

  -- an end is a rank of degree 1
  pub end-in : (j : ℕ) → j < length (ends_in firsts seconds rs js) → Memᴰ (get_or (ends_in firsts seconds rs js) j 0) rs
      × (degree_in firsts seconds js (get_or (ends_in firsts seconds rs js) j 0) ≡ 1)
  unfolding ends_in
  end-in j l =
      let w = keep-mem (λ i. eqb (degree_in firsts seconds js i) 1) rs (get_d-mem (ends_in firsts seconds rs js) 0 j l) in
      (w.0, eqb-true (degree_in firsts seconds js (get_or (ends_in firsts seconds rs js) j 0)) 1 w.1)

  first-region : (ks : List ℕ) → length ks ≡ 1 → (get_or (map (link_row regions firsts seconds) ks) 0 no_link).region ≡ at regions (get_or ks 0 0)
  first-region [] e = absurd (omega arith)
  first-region (k ∷ ks) e = refl

  module _ {dirs : List ℕ} {g : Grid} {l : List Item} {n : ℕ} {own bits lowers highers : List ℕ} (told : BoundaryTables dirs g l n own bits lowers highers)
      (inside : (i : ℕ) → Memᴰ i rs → i < n) where
    outer-is : (i : ℕ) → i < n → degree_in firsts seconds js i ≡ 1 → outer_region dirs g l a i ≡ outer_in lowers highers regions firsts seconds js i
    unfolding outer_region outer_in
    outer-is i h e =
        ap (λ (p : RegionPair). other_region p (get_or (links_at a i) 0 no_link).region) (told.pairs i h)
        ∙ ap (λ (r : ℕ). other_region (region_pair (at lowers i) (at highers i)) r)
        (ap (λ (ks : List LinkAt). (get_or ks 0 no_link).region) (links-at-is i) ∙ first-region (near i) e)

    outer-at : (j : ℕ) → j < length (ends_in firsts seconds rs js)
        → outer_region dirs g l a (get_or (ends_of a) j 0) ≡ outer_in lowers highers regions firsts seconds js (get_or (ends_in firsts seconds rs js) j 0)
    outer-at j h =
        let w = end-in j h in
        ap (λ (es : List ℕ). outer_region dirs g l a (get_or es j 0)) ends_is ∙ outer-is (get_or (ends_in firsts seconds rs js) j 0) (inside _ w.0) w.1

    pub path-is : (limits : Limits) (least : ℕ)
        → simple_path limits dirs g l least a ≡ path_in lowers highers regions firsts seconds least limits.most_spans rs js
    unfolding simple_path is_path path_in
    path-is limits least = ends
        ∙ (tested ∙ last-matters low high (eqb (suc (length js)) (length rs)) two (regular_in firsts seconds rs js) (not (eqb (one 0) (one 1)))
        (not (eqb (other 0) (other 1))) outers)
      where
        one : ℕ → ℕ
        one j = outer_region dirs g l a (get_or (ends_of a) j 0)

        other : ℕ → ℕ
        other j = outer_in lowers highers regions firsts seconds js (get_or (ends_in firsts seconds rs js) j 0)

        low : Bool
        low = leb least (length rs)

        high : Bool
        high = leb (length rs) limits.most_spans

        regular : Bool
        regular = every (λ i. leb 1 (degree a i) && leb (degree a i) 2) rs

        two : Bool
        two = eqb (length (ends_in firsts seconds rs js)) 2

        ends : shaped low high (eqb (suc (length (map (link_row regions firsts seconds) js))) (length rs)) (eqb (length (ends_of a)) 2) regular
            (not (eqb (one 0) (one 1)))
            ≡ shaped low high (eqb (suc (length js)) (length rs)) two regular (not (eqb (one 0) (one 1)))
        ends = ap (λ (m : ℕ). shaped low high (eqb (suc m) (length rs)) (eqb (length (ends_of a)) 2) regular (not (eqb (one 0) (one 1))))
            (length-map js (link_row regions firsts seconds))
            ∙ ap (λ (es : List ℕ). shaped low high (eqb (suc (length js)) (length rs)) (eqb (length es) 2) regular (not (eqb (one 0) (one 1)))) ends_is

        tested : shaped low high (eqb (suc (length js)) (length rs)) two regular (not (eqb (one 0) (one 1)))
            ≡ shaped low high (eqb (suc (length js)) (length rs)) two (regular_in firsts seconds rs js) (not (eqb (one 0) (one 1)))
        tested = ap (λ (b : Bool). shaped low high (eqb (suc (length js)) (length rs)) two b (not (eqb (one 0) (one 1)))) regular-is

        outers : two ≡ true → not (eqb (one 0) (one 1)) ≡ not (eqb (other 0) (other 1))
        outers e =
            let z = eqb-true (length (ends_in firsts seconds rs js)) 2 e in
            let p : one 0 ≡ other 0 = outer-at 0 (omega arith) in
            let q : one 1 ≡ other 1 = outer-at 1 (omega arith) in
            rw (p, q)

module _ {dirs : List ℕ} {g : Grid} {l : List Item} {n : ℕ} {own bits lowers highers : List ℕ} (told : BoundaryTables dirs g l n own bits lowers highers)
    (rs : List ℕ)
    (inside : (i : ℕ) → Memᴰ i rs → i < n) where
  ends_as : (i : ℕ) → Memᴰ i rs → ends_at l i ≡ span_in own i
  ends_as i m = told.ends i (inside i m)

  all-alike-is : (limits : Limits) → every (λ i. every (alike limits l i) rs) rs ≡ all_alike_in limits own rs
  unfolding all_alike_in
  all-alike-is limits =
      every-ext (λ i. every (alike limits l i) rs) (λ i. every (alike_in limits own i) rs) rs
      (λ i m. every-ext (alike limits l i) (alike_in limits own i) rs
      (λ j k. ap (λ (s : Span). nearby_parallel limits s (ends_at l j)) (ends_as i m) ∙ ap (nearby_parallel limits (span_in own i)) (ends_as j k)))

  sum_is : (i : ℕ) → Memᴰ i rs → distance_to l rs i ≡ sum_in own rs i
  unfolding distance_to sum_in
  sum_is i m = ap (λ (s : Span). distance_sum s (map (ends_at l) rs)) (ends_as i m)
      ∙ ap (distance_sum (span_in own i)) (map-ext (ends_at l) (span_in own) rs ends_as)

  least-is : least_width l rs ≡ of_bits binary64 (least_in bits rs)
  unfolding least_width least_in
  least-is = ap (λ (ws : List ℕ). of_bits binary64 (get_or (sort total_le ws) 0 0)) (map-ext (bits_at l) (at bits) rs (λ i m. told.widths i (inside i m)))

  eligible-is : (limits : Limits) → eligible limits l rs ≡ eligible_in limits bits rs
  unfolding eligible eligible_in
  eligible-is limits =
      keep-ext (λ i. le (width_at l i) (least_width l rs ⊕ limits.width)) (fine_in limits bits (of_bits binary64 (least_in bits rs))) rs
      (λ i m. ap (λ (w : ℕ). le (of_bits binary64 w) (least_width l rs ⊕ limits.width)) (told.widths i (inside i m))
      ∙ ap (λ (x : Float). le (of_bits binary64 (at bits i)) (x ⊕ limits.width)) least-is)

  pub retained-by : (limits : Limits) → retained limits l rs ≡ retained_in limits own bits rs
  unfolding retained retained_in nearer nearer_in eligible_in
  retained-by limits =
      ap (λ (es : List ℕ). get_or (sort (nearer l rs) es) 0 (get_or rs 0 0)) (eligible-is limits)
      ∙ ap (λ (es : List ℕ). get_or es 0 (get_or rs 0 0)) (sort-ext (nearer l rs) (nearer_in own rs) (eligible_in limits bits rs)
      (λ i j m k. ap (λ (x : Float). no_later x (distance_to l rs j)) (sum_is i (among m))
      ∙ ap (λ (x : Float). no_later (sum_in own rs i) x) (sum_is j (among k))))
    where
      among : {i : ℕ} → Memᴰ i (eligible_in limits bits rs) → Memᴰ i rs
      among m = (keep-mem (fine_in limits bits (of_bits binary64 (least_in bits rs))) rs m).0

  module _ (regions firsts seconds js : List ℕ) (limits : Limits) where
    pub flat-is : accepts_flat limits dirs g l (group_by regions firsts seconds rs js) ≡ flat_in limits own lowers highers regions firsts seconds rs js
    unfolding accepts_flat flat_in
    flat-is =
        ap (λ (b : Bool). b && every (λ i. every (alike limits l i) rs) rs) (path-is regions firsts seconds rs js told inside limits least_flat_spans)
        ∙ ap (λ (b : Bool). path_in lowers highers regions firsts seconds least_flat_spans limits.most_spans rs js && b) (all-alike-is limits)

    module _ (links : ℕ) (some : 0 < n) (below : (k : ℕ) → Memᴰ k js → k < links)
        (joined : (k : ℕ) → k < links → (at firsts k < n) × (at seconds k < n)) where
      chain-is : chain_sum l (group_by regions firsts seconds rs js) ≡ chain_in firsts seconds own js
      unfolding chain_sum chain_in
      chain-is =
          ap (λ (xs : List Float). ascending_sum xs)
          (map_both (link_row regions firsts seconds) (λ (k : LinkAt). rank_distance l k.first k.second) (gap_in firsts seconds own) js
          (λ k m. let w = joined k (below k m) in
          ap (λ (s : Span). centre_distance s (ends_at l (at seconds k))) (told.ends (at firsts k) w.0)
          ∙ ap (centre_distance (span_in own (at firsts k))) (told.ends (at seconds k) w.1)))

      -- with its mark
      pub chain-total-by : chain_total l (group_by regions firsts seconds rs js) ≡ chain_total_in firsts seconds own js
      chain-total-by = λ i. record { value = chain-is i; exact = ap all_exact lengths i }
        where
          length-of : LinkAt → Length
          length-of k = rank_length l k.first k.second

          lengths : map length-of (map (link_row regions firsts seconds) js) ≡ map (gap_length_in firsts seconds own) js
          lengths =
              map_both (link_row regions firsts seconds) length-of (gap_length_in firsts seconds own) js
              (λ k m. let w = joined k (below k m) in
              ap (λ (s : Span). centre_length s (ends_at l (at seconds k))) (told.ends (at firsts k) w.0)
              ∙ ap (centre_length (span_in own (at firsts k))) (told.ends (at seconds k) w.1))

      end_below : (j : ℕ) → get_or (ends_in firsts seconds rs js) j 0 < n
      unfolding ends_in
      end_below j = at_each (λ x. x < n) (ends_in firsts seconds rs js) j (λ x m. inside x (keep-mem (λ i. eqb (degree_in firsts seconds js i) 1) rs m).0) some

      far-is : end_distance l (group_by regions firsts seconds rs js) ≡ centre_distance (span_in own (get_or (ends_in firsts seconds rs js) 0 0))
          (span_in own (get_or (ends_in firsts seconds rs js) 1 0))
      unfolding end_distance
      far-is =
          ap (λ (es : List ℕ). rank_distance l (get_or es 0 0) (get_or es 1 0)) (ends_is regions firsts seconds rs js)
          ∙ (ap (λ (s : Span). centre_distance s (ends_at l (get_or (ends_in firsts seconds rs js) 1 0)))
          (told.ends (get_or (ends_in firsts seconds rs js) 0 0) (end_below 0))
          ∙ ap (centre_distance (span_in own (get_or (ends_in firsts seconds rs js) 0 0)))
          (told.ends (get_or (ends_in firsts seconds rs js) 1 0) (end_below 1)))

      pub serial-is : (passing : List ℕ) → Passed limits dirs g l regions firsts seconds passing links
          → accepts_serial limits dirs g l (group_by regions firsts seconds rs js) ≡ serial_in limits own lowers highers regions firsts seconds passing rs js
      unfolding accepts_serial serial_in
      serial-is passing passed =
          ap (λ (b : Bool). (b && simple_path limits dirs g l limits.least_spans h) && rest (chain_sum l h) (end_distance l h))
          (every_map (link_row regions firsts seconds) (passes limits dirs g l) (is_on passing) js (λ k m. sym (passed.each k (below k m))))
          ∙ (ap (λ (b : Bool). (every (is_on passing) js && b) && rest (chain_sum l h) (end_distance l h))
          (path-is regions firsts seconds rs js told inside limits limits.least_spans)
          ∙ (ap (λ (x : Float). both-pass && rest x (end_distance l h)) chain-is
          ∙ ap (λ (x : Float). both-pass && rest (chain_in firsts seconds own js) x) far-is))
        where
          h : LinkGroup
          h = group_by regions firsts seconds rs js

          rest : Float → Float → Bool
          rest x y = le x limits.chain && le y limits.chain

          both-pass : Bool
          both-pass = every (is_on passing) js && path_in lowers highers regions firsts seconds limits.least_spans limits.most_spans rs js
