-- A list of merges leaves what is kept.
use mathlib.Core.Path.{◌≡◌, refl, sym, ◌∙◌, ap}
use mathlib.Core.Bool.{Bool, true, false, cond, not, ◌||◌}
use mathlib.Core.List.Memᴰ
use mathlib.Core.List.Permᴰ
use mathlib.Core.List.{List, [], ◌∷◌, ◌++◌, map, reverse_aux, Memᴰ, Permᴰ}
use Prim.Native.Nat.{ℕ, ◌<◌}
use native.Mathlib.Omega.{arith}
use borrow.Author.Tests.{eqb-true}
use lib.Dec.{eqb}
use lib.ListN.{length}
use Rattle.order.specs.Keys.{by_key}
use Rattle.order.specs.Lists.{keep, up_from, has}
use Rattle.order.specs.Pairs.{Pairs, Sorted}
use Rattle.order.proofs.Members.{perm-mem}
use Rattle.order.proofs.Pairs.{pairs-imp, pairs-at, pairs-both}
use Rattle.order.proofs.Keep.{keep-mem, keep_append, keep-ext, keep_all, keep-none, keep-keep, keep-perm, keep-map}
use Rattle.order.proofs.Numbers.{up_mem, has-mem, map-places}
use Rattle.order.proofs.Keys.{key-preorder}
use Rattle.order.proofs.Sort.{sort-fixed}
use Rattle.order.proofs.Places.{places-told}
use Rattle.order.proofs.Forgets.{sort-forgets-told}
use Rattle.format.specs.Values.{Boundary}
use Rattle.context.specs.Listing.{ends_key}
use Rattle.serial_merging.specs.Copies.{canon, copies_of}
use Rattle.serial_merging.specs.Consolidation.{consolidate}
use Rattle.serial_merging.specs.Groups.{Group, in_any, unmerged, Good, WellGrouped}
use Rattle.serial_merging.specs.Kept.{no_boundary, copy_at, members_of, consolidated, kept}
use Rattle.serial_merging.specs.Follows.{replaced}
use Rattle.serial_merging.specs.Merging.{same_ends, among, is_member, taken, left, MergeStep, Merges, done, merge, WholeGroups}
use Rattle.serial_merging.proofs.Lists.{apart-told, perm-eq}
use Rattle.serial_merging.proofs.Copies.{key-canon}
use Rattle.serial_merging.proofs.Consolidation.{consolidate-canon, consolidate-perm}
use Rattle.serial_merging.proofs.Groups.{retained-below, outside, disjoint-symm, any_false, any-perm, ranks-are, well-perm, Next, next_of}
use Rattle.serial_merging.proofs.Kept.{kept_whole, consolidated-key, slot-key, kept-pairs}
use Rattle.serial_merging.proofs.Ends.{Unlike}

replaced-perm : (copies : List Boundary) {l m : List Group} → Permᴰ l m → Permᴰ (replaced copies l) (replaced copies m)
unfolding replaced unmerged
replaced-perm copies {l} {m} p = Permᴰ.trans (Permᴰ.append_right _ (Permᴰ.map (consolidated copies) p))
    (perm-eq (ap (λ (k : List ℕ). map (consolidated copies) m ++ map (copy_at copies) k)
    (keep-ext (λ i. not (in_any l i)) (λ i. not (in_any m i)) (up_from 0 (length copies)) (λ y n. ap not (any-perm p y)))))

-- Only the ends tell members.
among-key : (copies : List Boundary) (is : List ℕ) (b c : Boundary) → ends_key b ≡ ends_key c → among copies is b ≡ among copies is c
unfolding among
among-key copies [] b c e = refl
among-key copies (i ∷ is) b c e = rw (e, among-key copies is b c e)

pub member-canon : (copies : List Boundary) (g : Group) (b : Boundary) → is_member copies g (canon b) ≡ is_member copies g b
member-canon copies g b = among-key copies g.ranks (canon b) b (key-canon b)

module _ (copies : List Boundary) (unlike : Pairs Unlike copies) where
  abbrev size : ℕ
  size = length copies

  told : (i j : ℕ) → i < size → j < size → same_ends (copy_at copies i) (copy_at copies j) ≡ eqb i j
  told i j h k = places-told (key-preorder ends_key) copies no_boundary unlike i j h k

  among-has : (is : List ℕ) → ((i : ℕ) → Memᴰ i is → i < size) → (i : ℕ) → i < size → among copies is (copy_at copies i) ≡ has i is
  unfolding among has
  among-has [] f i h = refl
  among-has (j ∷ js) f i h = rw (told i j h (f j (Memᴰ.head refl)), among-has js (λ k m. f k (Memᴰ.tail m)) i h)

  pub member-at : (g : Group) → Good size g → (i : ℕ) → i < size → is_member copies g (copy_at copies i) ≡ has i g.ranks
  member-at g good i h = among-has g.ranks good.below i h

  module _ (g : Group) (ds : List Group) (next : Next size g ds) where
    -- A consolidation is no member of another group.
    not-consolidated : (b : Boundary) → Memᴰ b (map (consolidated copies) ds) → is_member copies g b ≡ false
    not-consolidated b m =
        let r = Memᴰ.of_map (consolidated copies) ds m in
        let h = r.0 in
        let good = next.goods h r.1 in
        rw (← r.2) (among-key copies g.ranks (consolidated copies h) (copy_at copies h.retained) (consolidated-key copies h)
        ∙ (member-at g next.good h.retained (retained-below good) ∙ outside h g (disjoint-symm g h (next.apart h r.1)) h.retained good.mine))

    abbrev remaining : List ℕ
    remaining = keep (λ i. not (in_any ds i)) (up_from 0 size)

    member-remaining : (i : ℕ) → Memᴰ i remaining → is_member copies g (copy_at copies i) ≡ has i g.ranks
    member-remaining i m = let r = up_mem 0 size (keep-mem (λ i. not (in_any ds i)) (up_from 0 size) m).0 in member-at g next.good i (omega arith)

    takes : keep (is_member copies g) (replaced copies ds) ≡ members_of copies g
    unfolding replaced unmerged members_of
    takes =
        keep_append (is_member copies g) (map (consolidated copies) ds) (map (copy_at copies) remaining)
        ∙ (ap (λ (l : List Boundary). l ++ keep (is_member copies g) (map (copy_at copies) remaining))
        (keep-none (is_member copies g) (map (consolidated copies) ds) not-consolidated)
        ∙ (keep-map (copy_at copies) (is_member copies g) (λ i. has i g.ranks) remaining member-remaining
        ∙ ap (map (copy_at copies))
        (keep-keep (λ i. has i g.ranks) (λ i. not (in_any ds i)) (λ i. has i g.ranks) (up_from 0 size) (λ i m. both i (has i g.ranks) refl)
        ∙ ranks-are size g next.good)))
      where
        both : (i : ℕ) (t : Bool) → has i g.ranks ≡ t → cond (not (in_any ds i)) t false ≡ t
        both i true e = rw (any_false i ds (λ h m. outside g h (next.apart h m) i (has-mem i g.ranks e)))
        both i false e = go (not (in_any ds i))
          where
            go : (s : Bool) → cond s false false ≡ false
            go true = refl
            go false = refl

    leaves : keep (λ b. not (is_member copies g b)) (replaced copies ds) ≡ map (consolidated copies) ds ++ map (copy_at copies) (unmerged (g ∷ ds) size)
    unfolding replaced unmerged in_any
    leaves =
        keep_append (λ b. not (is_member copies g b)) (map (consolidated copies) ds) (map (copy_at copies) remaining)
        ∙ (ap (λ (l : List Boundary). l ++ keep (λ b. not (is_member copies g b)) (map (copy_at copies) remaining))
        (keep_all (λ b. not (is_member copies g b)) (map (consolidated copies) ds) (λ b m. ap not (not-consolidated b m)))
        ∙ ap (λ (l : List Boundary). map (consolidated copies) ds ++ l)
        (keep-map (copy_at copies) (λ b. not (is_member copies g b)) (λ i. not (has i g.ranks)) remaining (λ i m. ap not (member-remaining i m))
        ∙ ap (map (copy_at copies))
        (keep-keep (λ i. not (has i g.ranks)) (λ i. not (in_any ds i)) (λ i. not (in_any (g ∷ ds) i)) (up_from 0 size)
        (λ i m. both (has i g.ranks) (in_any ds i)))))
      where
        both : (s t : Bool) → cond (not t) (not s) false ≡ not (s || t)
        both true true = refl
        both true false = refl
        both false true = refl
        both false false = refl

    module _ (before : List Boundary) (inv : Permᴰ (map canon before) (replaced copies ds)) where
      pub taken-members : Permᴰ (map canon (taken copies g before)) (members_of copies g)
      unfolding taken
      taken-members = Permᴰ.trans (perm-eq (sym (keep-map canon (is_member copies g) (is_member copies g) before (λ b m. member-canon copies g b))))
          (Permᴰ.trans (keep-perm (is_member copies g) inv) (perm-eq takes))

      left-replaced : Permᴰ (map canon (left copies g before)) (map (consolidated copies) ds ++ map (copy_at copies) (unmerged (g ∷ ds) size))
      unfolding left
      left-replaced = Permᴰ.trans
          (perm-eq (sym (keep-map canon (λ b. not (is_member copies g b)) (λ b. not (is_member copies g b)) before (λ b m. ap not (member-canon copies g b)))))
          (Permᴰ.trans (keep-perm (λ b. not (is_member copies g b)) inv) (perm-eq leaves))

      retained-copy : (r : Boundary) → Memᴰ r (taken copies g before) → same_ends r (copy_at copies g.retained) ≡ true
          → canon r ≡ copy_at copies g.retained
      unfolding members_of
      retained-copy r m e =
          let k = Memᴰ.of_map (copy_at copies) g.ranks (perm-mem taken-members (Memᴰ.map canon m)) in
          let f : ends_key (copy_at copies k.0) ≡ ends_key r = ap ends_key k.2 ∙ key-canon r in
          let h : same_ends (copy_at copies k.0) (copy_at copies g.retained) ≡ true = rw f e in
          let q : k.0 ≡ g.retained = eqb-true k.0 g.retained
          (sym (told k.0 g.retained (next.good.below k.0 k.1) (retained-below next.good)) ∙ h) in
          sym k.2 ∙ ap (copy_at copies) q

      new_is : {after : List Boundary} (s : MergeStep copies g before after)
          → consolidate (canon s.retained) (map canon (taken copies g before)) ≡ consolidated copies g
      unfolding consolidated
      new_is s = ap (λ (b : Boundary). consolidate b (map canon (taken copies g before))) (retained-copy s.retained s.there s.named)
          ∙ consolidate-perm (copy_at copies g.retained) taken-members

      pub step : {after : List Boundary} → MergeStep copies g before after → Permᴰ (map canon after) (replaced copies (g ∷ ds))
      unfolding replaced
      step s = Permᴰ.trans (Permᴰ.map canon s.placed)
          (Permᴰ.cons (consolidate-canon s.retained (taken copies g before) ∙ new_is s) left-replaced)

  -- The merges of ms, after those of ds.
  run : (ds : List Group) {before after : List Boundary} {ms : List Group} → Merges copies before ms after → Permᴰ (map canon before) (replaced copies ds)
      → WellGrouped size (reverse_aux ms ds) → Permᴰ (map canon after) (replaced copies (reverse_aux ms ds))
  run ds done inv w = inv
  run ds (merge {s = before} {g = g} {gs = gs} s more) inv w = run (g ∷ ds) more (step g ds (next_of g gs ds w) before inv s) w

  run-exact : (ds : List Group) {before after : List Boundary} {ms : List Group} (s : Merges copies before ms after)
      → Permᴰ (map canon before) (replaced copies ds) → WellGrouped size (reverse_aux ms ds) → WholeGroups s
  unfolding WholeGroups
  run-exact ds done inv w = tt
  run-exact ds (merge {s = before} {g = g} {gs = gs} s more) inv w =
      let n = next_of g gs ds w in
      (taken-members g ds n before inv, run-exact (g ∷ ds) more (step g ds n before inv s) w)

-- At the start nothing is merged.
pub start : (copies : List Boundary) → Permᴰ copies (replaced copies [])
unfolding replaced unmerged in_any
start copies = perm-eq (sym (ap (map (copy_at copies)) (keep_all (λ i. true) (up_from 0 (length copies)) (λ y m. refl)) ∙ map-places copies no_boundary))

pub turned_round : {ms gs : List Group} → Permᴰ ms gs → Permᴰ (reverse_aux ms []) gs
turned_round {ms} p = Permᴰ.trans (Permᴰ.reverse_aux ms []) (Permᴰ.trans (Permᴰ.append-nil ms) p)

-- Whatever the order and the places, finishing gives what is kept.
module _ (copies : List Boundary) (sorted : Sorted (by_key ends_key) copies) (unlike : Pairs Unlike copies) (gs : List Group)
    (well : WellGrouped (length copies) gs) where
  kept-unlike : Pairs (λ b c. (by_key ends_key b c ≡ true) × Unlike b c) (kept copies gs)
  kept-unlike = kept-pairs copies gs
      (λ i j h k b c m n. rw (slot-key copies gs i b m, slot-key copies gs j c n) (pairs-at no_boundary (pairs-both sorted unlike) i j h k))

  module _ {before after : List Boundary} {ms : List Group} (p : Permᴰ ms gs) (b : Permᴰ (map canon before) copies)
      (s : Merges copies before ms after) where
    pub merged-exact : WholeGroups s
    merged-exact = run-exact copies unlike [] s (Permᴰ.trans b (start copies)) (well-perm (Permᴰ.symm (turned_round p)) well)

    merged-kept : Permᴰ (map canon after) (kept copies gs)
    merged-kept = Permᴰ.trans (run copies unlike [] s (Permᴰ.trans b (start copies)) (well-perm (Permᴰ.symm (turned_round p)) well))
        (Permᴰ.trans (replaced-perm copies (turned_round p)) (Permᴰ.symm (kept_whole copies gs well)))

    pub finished : copies_of after ≡ kept copies gs
    unfolding copies_of
    finished = sym (sort-forgets-told (key-preorder ends_key) (pairs-imp (λ x y h. apart-told (by_key ends_key) x y h.1) kept-unlike) (Permᴰ.symm merged-kept))
        ∙ sort-fixed (by_key ends_key) (kept copies gs) (pairs-imp (λ x y h. h.0) kept-unlike)
