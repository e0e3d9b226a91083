-- What a kept rank's merged boundary has, of the arrays that hold the canonical copies.
use mathlib.Core.Path.{◌≡◌, refl, sym, ◌∙◌, ap, subst}
use mathlib.Core.Bool.{Bool, true, false, cond, ◌&&◌}
use mathlib.Core.List.Memᴰ
use mathlib.Core.List.{List, [], ◌∷◌, ◌++◌, map, append-nil, Memᴰ, Permᴰ}
use mathlib.Core.List.Permᴰ
use Prim.Native.Nat.{ℕ, zero, suc, ◌+◌, ◌*◌, ◌<◌}
use native.Mathlib.Omega.{arith}
use borrow.Author.Tests.{eqb-true, eq-eqb, ne_eqb}
use lib.Dec.{eqb}
use lib.ListN.{length, get_or, take, drop, length-map}
use Rattle.lists.specs.Rows.{rows}
use Rattle.lists.proofs.Rows.{map_rows}
use Rattle.order.specs.Keys.{by_key}
use Rattle.order.specs.Lists.{keep, gather, up_from}
use Rattle.order.specs.Pairs.{SameMembers}
use Rattle.order.specs.Sorting.{sort}
use Rattle.order.proofs.Bools.{clash}
use Rattle.order.proofs.Forgets.{sort-forgets}
use Rattle.order.proofs.Gather.{gather-mem, mem-gather, gather_ext}
use Rattle.order.proofs.Keep.{keep-mem, mem-keep}
use Rattle.order.proofs.Members.{map-ext, perm-mem}
use Rattle.order.proofs.Numbers.{up_mem, mem_up, up-length, map-up-at, map_at}
use Rattle.order.proofs.Once.{once-idem, once-ext, once-members}
use Rattle.order.proofs.Sort.{sort-perm}
use Rattle.position.specs.Order.{canonical}
use Rattle.format.specs.Values.{Observation, Boundary}
use Rattle.format.specs.Decode.{ramp_of, source_records}
use Rattle.format.specs.declared.records.Source.{Source}
use Rattle.format.specs.declared.records.BoundaryRecord.{BoundaryRecord}
use Rattle.format.specs.declared.records.ObservationRecord.{ObservationRecord}
use Rattle.places.specs.Orders.{by_run}
use Rattle.serial_merging.specs.Copies.{sorted_sources, canon, canon_observation, sorted_observations}
use Rattle.serial_merging.specs.Consolidation.{or_itself, observed, consolidate}
use Rattle.serial_merging.specs.Kept.{no_boundary, copy_at}
use Rattle.serial_merging.specs.Keys.{observation_key}
use Rattle.serial_merging.specs.Planned.{members, merged, planned}
use Rattle.serial_merging.proofs.Copies.{source-order, observation-order}
use Rattle.serial_merging.proofs.Planned.{merged_keeps}
use Rattle.answer_sources.specs.Placed.{own_of, seen_of, observation_of, boundary_of, itself, HoldsObservation, CopiesPlaced}
use Rattle.answer_sources.specs.Gathered.{no_observation, copies_by, kept_by, places_from, PlacesStand}
use Rattle.answer_sources.specs.Laying.{first_seen}
use Rattle.answer_sources.proofs.Together.{records-part, records-length, holds-le}
use Rattle.answer_sources.proofs.Matched.{Matched, nil, next, matched-append, matched-length, matched-at, matched-by, matched-gather, matched-sort}
use Rattle.answer_sources.proofs.Matched.{matched-rows}

gather-map : {A B C : Type 0} (f : B → List C) (g : A → B) (l : List A) → gather f (map g l) ≡ gather (λ x. f (g x)) l
unfolding gather
gather-map f g [] = refl
gather-map f g (x ∷ xs) = ap (λ t. f (g x) ++ t) (gather-map f g xs)

-- A list of one member that has i.
only-member : {A : Type 0} {i : A} {l : List A} → Memᴰ i l → length l ≡ 1 → l ≡ i ∷ []
only-member {A = A} {i = i} {l = []} m h = elim m [ ]
only-member {l = x ∷ []} (Memᴰ.head e) h = ap (λ z. z ∷ []) (sym e)
only-member {l = x ∷ []} (Memᴰ.tail m) h = absurd (Memᴰ.not-nil m)
only-member {l = x ∷ y ∷ l} m h = absurd (omega arith)

-- The ranks that go into a rank.
module _ (plan : ℕ → ℕ) (n i : ℕ) where
  pub member_below : (j : ℕ) → Memᴰ j (members plan n i) → j < n
  unfolding members
  member_below j m = let u = up_mem 0 n (keep-mem (λ j. eqb (plan j) i) (up_from 0 n) m).0 in omega arith

  pub member-itself : i < n → plan i ≡ i → Memᴰ i (members plan n i)
  unfolding members
  member-itself h e = mem-keep (λ j. eqb (plan j) i) (mem_up 0 n i (omega arith) (omega arith)) (eq-eqb (plan i) i e)

  pub member-only : i < n → plan i ≡ i → length (members plan n i) ≡ 1 → members plan n i ≡ i ∷ []
  member-only h e k = only-member (member-itself h e) k

module _ (bs : ℕ → BoundaryRecord) (os : ℕ → ObservationRecord) (ss : List Source) (order : List ℕ) where
  -- The copy at a rank.
  abbrev pub copy_of : ℕ → Boundary
  copy_of j = canon (boundary_of bs os ss (get_or order j 0))

  abbrev own : Boundary → List Source
  own b = b.sources

  pub copies_length : (n : ℕ) → length (copies_by bs os ss order n) ≡ n
  copies_length n = length-map (up_from 0 n) copy_of ∙ up-length 0 n

  pub copy-at : (n j : ℕ) → j < n → copy_at (copies_by bs os ss order n) j ≡ copy_of j
  copy-at n j h = map-up-at copy_of 0 n j no_boundary h ∙ ap copy_of (let e : 0 + j ≡ j = omega arith in e)

  pub kept-list : (plan : List ℕ) (n : ℕ)
      → kept_by bs os ss order plan n ≡ map (λ i. merged (copies_by bs os ss order n) (members (λ j. get_or plan j 0) n i) i)
      (keep (λ i. eqb (get_or plan i 0) i) (up_from 0 n))
  unfolding planned
  kept-list plan n = rw (copies_length n) refl

  -- The k-th kept boundary is what goes into the k-th rank that stays.
  pub kept_at : (plan : List ℕ) (n k i : ℕ) → k < length (keep (λ i. eqb (get_or plan i 0) i) (up_from 0 n))
      → get_or (keep (λ i. eqb (get_or plan i 0) i) (up_from 0 n)) k 0 ≡ i
      → get_or (kept_by bs os ss order plan n) k no_boundary ≡ merged (copies_by bs os ss order n) (members (λ j. get_or plan j 0) n i) i
  kept_at plan n k i h e =
      ap (λ (l : List Boundary). get_or l k no_boundary) (kept-list plan n)
      ∙ map_at (λ i. merged (copies_by bs os ss order n) (members (λ j. get_or plan j 0) n i) i)
      (keep (λ i. eqb (get_or plan i 0) i) (up_from 0 n)) k 0 no_boundary h
      ∙ ap (λ (j : ℕ). merged (copies_by bs os ss order n) (members (λ j. get_or plan j 0) n j) j) e

  module _ (plan : ℕ → ℕ) (n i : ℕ) (h : i < n) (stays : plan i ≡ i) where
    copies-are : map (copy_at (copies_by bs os ss order n)) (members plan n i) ≡ map copy_of (members plan n i)
    copies-are = map-ext (copy_at (copies_by bs os ss order n)) copy_of (members plan n i) (λ j m. copy-at n j (member_below plan n i j m))

    pub merged-ends : (merged (copies_by bs os ss order n) (members plan n i) i).ends ≡ canonical (bs (get_or order i 0)).ends
    unfolding canon boundary_of
    merged-ends = (merged_keeps (copies_by bs os ss order n) (members plan n i) i).0 ∙ ap (λ (b : Boundary). b.ends) (copy-at n i h)

    pub merged-bits : (merged (copies_by bs os ss order n) (members plan n i) i).bits ≡ (bs (get_or order i 0)).bits
    unfolding canon boundary_of
    merged-bits = (merged_keeps (copies_by bs os ss order n) (members plan n i) i).1 ∙ ap (λ (b : Boundary). b.bits) (copy-at n i h)

    pub merged-ramp : (merged (copies_by bs os ss order n) (members plan n i) i).ramp ≡ ramp_of (bs (get_or order i 0)).ramp
    unfolding canon boundary_of
    merged-ramp = (merged_keeps (copies_by bs os ss order n) (members plan n i) i).2 ∙ ap (λ (b : Boundary). b.ramp) (copy-at n i h)

    -- a copy's own sources are sorted already
    one-sorted : (copy_of i).sources ≡ sorted_sources (gather own (map copy_of (i ∷ [])))
    unfolding canon gather
    one-sorted = sym (ap sorted_sources (append-nil (copy_of i).sources) ∙ once-idem source-order (boundary_of bs os ss (get_or order i 0)).sources)

    -- alone or not
    merged-sources : (merged (copies_by bs os ss order n) (members plan n i) i).sources ≡ sorted_sources (gather (λ j. (copy_of j).sources) (members plan n i))
    unfolding merged consolidate
    merged-sources = go (eqb (length (members plan n i)) 1) refl ∙ ap sorted_sources (gather-map own copy_of (members plan n i))
      where
        go : (t : Bool) → eqb (length (members plan n i)) 1 ≡ t
            → (cond t (copy_at (copies_by bs os ss order n) i)
            (consolidate (copy_at (copies_by bs os ss order n) i) (map (copy_at (copies_by bs os ss order n)) (members plan n i)))).sources ≡ sorted_sources
            (gather own (map copy_of (members plan n i)))
        go true e = ap own (copy-at n i h) ∙ one-sorted
            ∙ ap (λ (l : List ℕ). sorted_sources (gather own (map copy_of l))) (sym (member-only plan n i h stays (eqb-true (length (members plan n i)) 1 e)))
        go false e = ap (λ (l : List Boundary). sorted_sources (gather own l)) copies-are

-- A sorted list has the members of the list, so that sorting first changes nothing.
sorted-members : {A : Type 0} (f : A → List Source) (l : List A) → SameMembers (gather (λ x. sorted_sources (f x)) l) (gather f l)
sorted-members f l y = (
  λ h. let r = gather-mem (λ x. sorted_sources (f x)) l h in mem-gather f r.1 ((once-members source-order (f r.0) y).0 r.2),
  λ h. let r = gather-mem f l h in mem-gather (λ x. sorted_sources (f x)) r.1 ((once-members source-order (f r.0) y).1 r.2),
)

-- The own sources of a rank as the job has them.
abbrev pub own_part : (s : List ℕ) (from base : ℕ) (order starts : List ℕ) (own : ℕ → ℕ) → ℕ → List Source
own_part s from base order starts own j = source_records s (from + get_or starts (base + get_or order j 0) 0 * 8) (own (get_or order j 0))

module _ (s : List ℕ) (from count : ℕ) {bs : ℕ → BoundaryRecord} {os : ℕ → ObservationRecord} {base n : ℕ}
    {stands firsts first second third starts counts keys : List ℕ}
    (placed : CopiesPlaced bs os (source_records s from count) base n stands firsts first second third starts counts keys)
    (order : List ℕ) (inside : (j : ℕ) → j < n → get_or order j 0 < n) (plan : ℕ → ℕ) (i : ℕ) (h : i < n) (stays : plan i ≡ i) where
  own_is : (j : ℕ) → Memᴰ j (members plan n i)
      → (copy_of bs os (source_records s from count) order j).sources
      ≡ sorted_sources (own_part s from base order starts (own_of bs os (source_records s from count)) j)
  unfolding canon boundary_of
  own_is j m =
      let b = get_or order j 0 in
      let own = (bs b).sources in
      let below = inside j (member_below plan n i j m) in
      ap sorted_sources
      (ap (λ (k : ℕ). take own (drop k (source_records s from count))) (sym (placed.own-start b below))
      ∙ sym (records-part s from count (get_or starts (base + b) 0) own (omega (arith, placed.own_in b below, records-length s from count))))

  -- The members' own sources, sorted and each once.
  pub merged-own : (merged (copies_by bs os (source_records s from count) order n) (members plan n i) i).sources
      ≡ sorted_sources (gather (own_part s from base order starts (own_of bs os (source_records s from count))) (members plan n i))
  merged-own =
      let ss = source_records s from count in
      let part : ℕ → List Source = own_part s from base order starts (own_of bs os ss) in
      merged-sources bs os ss order plan n i h stays
      ∙ ap sorted_sources (gather_ext (λ j. (copy_of bs os ss order j).sources) (λ j. sorted_sources (part j)) (members plan n i) own_is)
      ∙ once-ext source-order (gather (λ j. sorted_sources (part j)) (members plan n i)) (gather part (members plan n i))
      (sorted-members part (members plan n i))

module _ {first second third starts counts keys : List ℕ} where
  stands-matched : {l : List ℕ} {m : List Observation} → PlacesStand first second third starts counts keys l m
      → Matched (HoldsObservation first second third starts counts keys) l m
  stands-matched {l} {m} s = matched-by 0 no_observation l m s.many s.each

  matched-stands : {l : List ℕ} {m : List Observation} → Matched (HoldsObservation first second third starts counts keys) l m
      → PlacesStand first second third starts counts keys l m
  matched-stands s = record { many = matched-length s; each = λ q h. matched-at s 0 no_observation q h }

  pub stands-none : PlacesStand first second third starts counts keys [] []
  stands-none = matched-stands nil

  -- Joined lists stand for joined lists.
  pub stands-append : {k l : List ℕ} {m n : List Observation} → PlacesStand first second third starts counts keys k m
      → PlacesStand first second third starts counts keys l n → PlacesStand first second third starts counts keys (k ++ l) (m ++ n)
  stands-append s t = matched-stands (matched-append (stands-matched s) (stands-matched t))

-- Lists that are alike but for their order, gathered.
gather-alike : {A B : Type 0} (f g : A → List B) (l : List A) → ((x : A) → Permᴰ (f x) (g x)) → Permᴰ (gather f l) (gather g l)
unfolding gather
gather-alike f g [] h = Permᴰ.nil
gather-alike f g (x ∷ xs) h = Permᴰ.trans (Permᴰ.append_right (gather f xs) (h x)) (Permᴰ.append_left (g x) (gather-alike f g xs h))

itself-alike : (c : Boundary) (l m : List Observation) → Permᴰ l m → Permᴰ (or_itself c l) (or_itself c m)
unfolding or_itself
itself-alike c [] [] p = Permᴰ.refl _
itself-alike c [] (o ∷ m) p = absurd (Memᴰ.not-nil (perm-mem (Permᴰ.symm p) (Memᴰ.head refl)))
itself-alike c (o ∷ l) [] p = absurd (Memᴰ.not-nil (perm-mem p (Memᴰ.head refl)))
itself-alike c (o ∷ l) (u ∷ m) p = p

-- A boundary's observations as the job has them, each a canonical copy.
module _ (bs : ℕ → BoundaryRecord) (os : ℕ → ObservationRecord) (ss : List Source) (b : ℕ) where
  abbrev seen_at : ℕ → Observation
  seen_at k = canon_observation (observation_of bs os ss b (first_seen (seen_of bs os ss) b + k))

  seen-rows : map canon_observation (boundary_of bs os ss b).observations ≡ rows (seen_of bs os ss b) seen_at
  unfolding boundary_of
  seen-rows = map_rows canon_observation (seen_of bs os ss b) (λ k. observation_of bs os ss b (first_seen (seen_of bs os ss) b + k))

  seen-sorted : (canon (boundary_of bs os ss b)).observations ≡ sorted_observations (rows (seen_of bs os ss b) seen_at)
  unfolding canon
  seen-sorted = ap sorted_observations seen-rows

  -- what it observed, or itself
  abbrev given : List Observation
  given = or_itself (canon (boundary_of bs os ss b)) (rows (seen_of bs os ss b) seen_at)

  given-alike : Permᴰ given (observed (canon (boundary_of bs os ss b)))
  unfolding observed
  given-alike =
      subst (λ (l : List Observation). Permᴰ given (or_itself (canon (boundary_of bs os ss b)) l)) (sym seen-sorted)
      (itself-alike (canon (boundary_of bs os ss b)) (rows (seen_of bs os ss b) seen_at) (sorted_observations (rows (seen_of bs os ss b) seen_at))
      (sort-perm (by_key observation_key) (rows (seen_of bs os ss b) seen_at)))

-- The places of what a boundary gives.
module _ {R : ℕ → Observation → Type 0} (c : Boundary) (a w : ℕ) (f : ℕ → Observation) where
  given-matched : (m : ℕ) → (m ≡ 0 → R w (itself c)) → ((k : ℕ) → k < m → R (a + k) (f k))
      → Matched R (cond (eqb m 0 && true) (w ∷ []) (up_from a m)) (or_itself c (rows m f))
  unfolding itself or_itself rows
  given-matched zero r h = next (r refl) nil
  given-matched (suc m) r h = rw (ne_eqb (suc m) 0 (λ e. omega arith)) (matched-rows a (suc m) f h)

seen-alone : (t : Bool) (l m : List ℕ) → cond (t && false) l m ≡ m
seen-alone true l m = refl
seen-alone false l m = refl

module _ {bs : ℕ → BoundaryRecord} {os : ℕ → ObservationRecord} {ss : List Source} {base n : ℕ}
    {stands firsts first second third starts counts keys : List ℕ}
    (placed : CopiesPlaced bs os ss base n stands firsts first second third starts counts keys) where
  seen-holds : (b : ℕ) → b < n → (k : ℕ) → k < seen_of bs os ss b
      → HoldsObservation first second third starts counts keys (get_or firsts b 0 + k) (seen_at bs os ss b k)
  seen-holds b h k l = rw (placed.first-there b h) (placed.seen-there b k h l)

  -- of a boundary that others go into, or that goes into another: it stands as an observation where it has none
  places-given : (b : ℕ) → b < n → (seen_of bs os ss b ≡ 0 → get_or stands b 0 ≡ 1)
      → Matched (HoldsObservation first second third starts counts keys) (places_from base firsts (seen_of bs os ss) false b) (given bs os ss b)
  unfolding places_from
  places-given b h t = given-matched (canon (boundary_of bs os ss b)) (get_or firsts b 0) (base + b) (seen_at bs os ss b) (seen_of bs os ss b)
      (λ e. placed.itself-there b h (t e)) (seen-holds b h)

  places-alone : (b : ℕ) → b < n
      → Matched (HoldsObservation first second third starts counts keys) (places_from base firsts (seen_of bs os ss) true b)
      (rows (seen_of bs os ss b) (seen_at bs os ss b))
  unfolding places_from
  places-alone b h = rw (seen-alone (eqb (seen_of bs os ss b) 0) ((base + b) ∷ []) (up_from (get_or firsts b 0) (seen_of bs os ss b)))
      (matched-rows (get_or firsts b 0) (seen_of bs os ss b) (seen_at bs os ss b) (seen-holds b h))

  sorted-matched : {l : List ℕ} {m : List Observation} → Matched (HoldsObservation first second third starts counts keys) l m
      → Matched (HoldsObservation first second third starts counts keys) (sort (by_run first second third starts counts keys) l) (sorted_observations m)
  sorted-matched s = matched-sort (by_run first second third starts counts keys) (by_key observation_key) (λ x y a b r q. holds-le a b r q) s

  module _ (order : List ℕ) (inside : (j : ℕ) → j < n → get_or order j 0 < n) (plan : ℕ → ℕ) (i : ℕ) (h : i < n) (stays : plan i ≡ i) where
    abbrev places_of : Bool → List ℕ → List ℕ
    places_of t js = gather (λ j. places_from base firsts (seen_of bs os ss) t (get_or order j 0)) js

    alone-matched : Matched (HoldsObservation first second third starts counts keys)
        (sort (by_run first second third starts counts keys) (places_of true (i ∷ [])))
        (copy_at (copies_by bs os ss order n) i).observations
    unfolding gather
    alone-matched =
        rw (
          append-nil (places_from base firsts (seen_of bs os ss) true (get_or order i 0)),
          copy-at bs os ss order n i h,
          seen-sorted bs os ss (get_or order i 0),
        )
        (sorted-matched (places-alone (get_or order i 0) (inside i h)))

    -- those without observations of their own stand as observations
    abbrev Stood : Type 0
    Stood = (j : ℕ) → Memᴰ j (members plan n i) → seen_of bs os ss (get_or order j 0) ≡ 0 → get_or stands (get_or order j 0) 0 ≡ 1

    all-given : Stood → Matched (HoldsObservation first second third starts counts keys) (places_of false (members plan n i))
        (gather (λ j. given bs os ss (get_or order j 0)) (members plan n i))
    all-given t = matched-gather (λ j. places_from base firsts (seen_of bs os ss) false (get_or order j 0)) (λ j. given bs os ss (get_or order j 0))
        (members plan n i) (λ j m. places-given (get_or order j 0) (inside j (member_below plan n i j m)) (t j m))

    given-observed : sorted_observations (gather (λ j. given bs os ss (get_or order j 0)) (members plan n i)) ≡ sorted_observations
        (gather observed (map (copy_at (copies_by bs os ss order n)) (members plan n i)))
    given-observed =
        sort-forgets observation-order
        (gather-alike (λ j. given bs os ss (get_or order j 0)) (λ j. observed (copy_of bs os ss order j)) (members plan n i)
        (λ j. given-alike bs os ss (get_or order j 0)))
        ∙ ap sorted_observations (sym (gather-map observed (copy_of bs os ss order) (members plan n i)))
        ∙ ap (λ (l : List Boundary). sorted_observations (gather observed l)) (sym (copies-are bs os ss order plan n i h stays))

    -- The members' places in order stand for the merged boundary's observations.
    pub merged-seen : ((length (members plan n i) ≡ 1 → ⊥) → Stood) → PlacesStand first second third starts counts keys
        (sort (by_run first second third starts counts keys)
        (gather (λ j. places_from base firsts (seen_of bs os ss) (eqb (length (members plan n i)) 1) (get_or order j 0)) (members plan n i)))
        (merged (copies_by bs os ss order n) (members plan n i) i).observations
    unfolding merged consolidate
    merged-seen t = matched-stands (go (eqb (length (members plan n i)) 1) refl)
      where
        go : (t : Bool) → eqb (length (members plan n i)) 1 ≡ t
            → Matched (HoldsObservation first second third starts counts keys)
            (sort (by_run first second third starts counts keys) (places_of t (members plan n i)))
            (cond t (copy_at (copies_by bs os ss order n) i)
            (consolidate (copy_at (copies_by bs os ss order n) i) (map (copy_at (copies_by bs os ss order n)) (members plan n i)))).observations
        go true e = rw (member-only plan n i h stays (eqb-true (length (members plan n i)) 1 e)) alone-matched
        go false e = subst (λ (l : List Observation).
            Matched (HoldsObservation first second third starts counts keys)
            (sort (by_run first second third starts counts keys) (places_of false (members plan n i))) l)
            given-observed (sorted-matched (all-given (t (λ o. clash (eq-eqb (length (members plan n i)) 1 o) e))))
