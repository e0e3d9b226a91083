-- What is kept, rank by rank.
use mathlib.Core.Path.{◌≡◌, refl, sym, ◌∙◌, ap}
use mathlib.Core.Bool.{Bool, true, false, cond, not, ◌||◌}
use mathlib.Core.List.Memᴰ
use mathlib.Core.List.{List, [], ◌∷◌, ◌++◌, map, map-map, Memᴰ, Permᴰ}
use mathlib.Core.List.Permᴰ
use Prim.Native.Nat.{ℕ, ◌<◌}
use native.Mathlib.Omega.{arith}
use borrow.Author.Tests.{eqb-true, eq-eqb, ne_eqb}
use lib.Dec.{eqb}
use lib.ListN.{length, get_or}
use Rattle.order.specs.Keys.{by_key}
use Rattle.order.specs.Lists.{keep, gather, up_from, has}
use Rattle.order.specs.Pairs.{Pairs, none, more}
use Rattle.order.proofs.Pairs.{pairs-imp, pairs-mem}
use Rattle.order.proofs.Keep.{keep_all, keep-keep, keep-pairs, mem-keep}
use Rattle.order.proofs.Gather.{gather_pairs}
use Rattle.order.proofs.Numbers.{up_mem, mem_up, up_strict, mem-has}
use Rattle.order.proofs.Keys.{key-preorder}
use Rattle.order.proofs.Sort.{sort-map}
use Rattle.order.proofs.Stable.{sort-stable}
use Rattle.order.proofs.Places.{sort-places}
use Rattle.format.specs.Values.{Boundary}
use Rattle.context.specs.Listing.{ends_key}
use Rattle.serial_merging.specs.Copies.{canon, copies_of}
use Rattle.serial_merging.specs.Consolidation.{consolidate}
use Rattle.serial_merging.specs.Groups.{Group, in_any, unmerged, Disjoint, WellGrouped}
use Rattle.serial_merging.specs.Kept.{no_boundary, copy_at, consolidated, slot, kept}
use Rattle.serial_merging.specs.Follows.{replaced, Earlier, places_of}
use Rattle.serial_merging.proofs.Lists.{perm-eq}
use Rattle.serial_merging.proofs.Copies.{key-canon}
use Rattle.serial_merging.proofs.Groups.{retained-below, outside, disjoint-symm}

module _ (copies : List Boundary) where
  -- one group's part of the ranks, f giving what the others leave
  module _ (g : Group) (c : Boundary) (f : ℕ → List Boundary) where
    pick : ℕ → List Boundary
    pick i = cond (eqb i g.retained) (c ∷ []) (cond (has i g.ranks) [] (f i))

    others : List ℕ → List ℕ
    others l = keep (λ i. not (has i g.ranks)) l

    none-retained : (l : List ℕ) → ((i : ℕ) → Memᴰ i l → i ≡ g.retained → ⊥) → gather pick l ≡ gather f (others l)
    unfolding gather keep pick others
    none-retained [] h = refl
    none-retained (i ∷ is) h = rw (ne_eqb i g.retained (h i (Memᴰ.head refl)))
        (go (has i g.ranks) (none-retained is (λ j m. h j (Memᴰ.tail m))))
      where
        go : (t : Bool) → gather pick is ≡ gather f (others is) → cond t [] (f i) ++ gather pick is ≡ gather f (cond (not t) (i ∷ others is) (others is))
        go true e = e
        go false e = ap (λ (l : List Boundary). f i ++ l) e

    one-retained : (l : List ℕ) → Pairs (λ i j. i < j) l → has g.retained g.ranks ≡ true → Memᴰ g.retained l
        → Permᴰ (gather pick l) (c ∷ gather f (others l))
    unfolding gather keep pick others
    one-retained [] _ e x4 = elim x4 [ ]
    one-retained (i ∷ is) (more h t) e (Memᴰ.head k) =
        let q : eqb i g.retained ≡ true = eq-eqb i g.retained (sym k) in
        let r : has i g.ranks ≡ true = rw (sym k) e in
        rw (q, r) (Permᴰ.cons refl (perm-eq (none-retained is (λ j m z. let w = h j m in absurd (omega arith)))))
    one-retained (i ∷ is) (more h t) e (Memᴰ.tail k) =
        let q : eqb i g.retained ≡ false = ne_eqb i g.retained (λ z. let w = h g.retained k in omega arith) in
        rw q (go (has i g.ranks) (one-retained is t e k))
      where
        go : (t : Bool) → Permᴰ (gather pick is) (c ∷ gather f (others is))
            → Permᴰ (cond t [] (f i) ++ gather pick is) (c ∷ gather f (cond (not t) (i ∷ others is) (others is)))
        go true p = p
        go false p = Permᴰ.trans (Permᴰ.append_left (f i) p) (Permᴰ.middle c (f i) (gather f (others is)))

  all_slots : (gs : List Group) (l : List ℕ) → Pairs (λ i j. i < j) l → ((g : Group) → Memᴰ g gs → Memᴰ g.retained g.ranks)
      → ((g : Group) → Memᴰ g gs → Memᴰ g.retained l) → Pairs Disjoint gs
      → Permᴰ (gather (slot copies gs) l) (map (consolidated copies) gs ++ map (copy_at copies) (keep (λ i. not (in_any gs i)) l))
  unfolding slot in_any pick others gather
  all_slots [] l o mine there apart = perm-eq (singles l ∙ ap (map (copy_at copies)) (sym (keep_all (λ i. true) l (λ y m. refl))))
    where
      singles : (k : List ℕ) → gather (λ i. copy_at copies i ∷ []) k ≡ map (copy_at copies) k
      singles [] = refl
      singles (i ∷ is) = ap (λ (k : List Boundary). copy_at copies i ∷ k) (singles is)
  all_slots (g ∷ gs) l o mine there (more d apart) =
      Permᴰ.trans (one-retained g (consolidated copies g) (slot copies gs) l o (mem-has g.retained g.ranks (mine g (Memᴰ.head refl)))
      (there g (Memᴰ.head refl)))
      (Permᴰ.cons refl (Permᴰ.trans
      (all_slots gs (keep (λ i. not (has i g.ranks)) l) (keep-pairs (λ i. not (has i g.ranks)) o) (λ h m. mine h (Memᴰ.tail m)) there' apart)
      (perm-eq (ap (λ (k : List ℕ). map (consolidated copies) gs ++ map (copy_at copies) k)
      (keep-keep (λ i. not (in_any gs i)) (λ i. not (has i g.ranks)) (λ i. not (has i g.ranks || in_any gs i)) l
      (λ i m. both (has i g.ranks) (in_any gs i)))))))
    where
      there' : (h : Group) → Memᴰ h gs → Memᴰ h.retained (keep (λ i. not (has i g.ranks)) l)
      there' h m = mem-keep (λ i. not (has i g.ranks)) (there h (Memᴰ.tail m))
          (ap not (outside h g (disjoint-symm g h (d h m)) h.retained (mine h (Memᴰ.tail m))))

      both : (s t : Bool) → cond (not s) (not t) false ≡ not (s || t)
      both true t = refl
      both false t = refl

  pub kept_whole : (gs : List Group) → WellGrouped (length copies) gs → Permᴰ (kept copies gs) (replaced copies gs)
  unfolding kept replaced unmerged
  kept_whole gs w = all_slots gs (up_from 0 (length copies)) (up_strict 0 (length copies)) (λ g m. (w.good g m).mine)
      (λ g m. mem_up 0 (length copies) g.retained (omega arith) (let k = retained-below (w.good g m) in omega arith)) w.apart

  pub consolidated-key : (h : Group) → ends_key (consolidated copies h) ≡ ends_key (copy_at copies h.retained)
  unfolding ends_key consolidated consolidate
  consolidated-key h = refl

  -- What is kept at a rank has the ends of its copy, and there is at most one.
  pub slot-key : (gs : List Group) (i : ℕ) (b : Boundary) → Memᴰ b (slot copies gs i) → ends_key b ≡ ends_key (copy_at copies i)
  unfolding slot
  slot-key [] i b m = ap ends_key (Memᴰ.eq_of_singleton m)
  slot-key (g ∷ gs) i b m = go (eqb i g.retained) (has i g.ranks) refl m (slot-key gs i b)
    where
      go : (s t : Bool) → eqb i g.retained ≡ s → Memᴰ b (cond s (consolidated copies g ∷ []) (cond t [] (slot copies gs i)))
          → (Memᴰ b (slot copies gs i) → ends_key b ≡ ends_key (copy_at copies i)) → ends_key b ≡ ends_key (copy_at copies i)
      go true t e n k = ap ends_key (Memᴰ.eq_of_singleton n)
          ∙ (consolidated-key g ∙ ap (λ (j : ℕ). ends_key (copy_at copies j)) (sym (eqb-true i g.retained e)))
      go false true e n k = absurd (Memᴰ.not-nil n)
      go false false e n k = k n

  slot-one : {R : Boundary → Boundary → Type 0} (gs : List Group) (i : ℕ) → Pairs R (slot copies gs i)
  unfolding slot
  slot-one [] i = more (λ y m. absurd (Memᴰ.not-nil m)) none
  slot-one {R} (g ∷ gs) i = go (eqb i g.retained) (has i g.ranks) (slot-one gs i)
    where
      go : (s t : Bool) → Pairs R (slot copies gs i) → Pairs R (cond s (consolidated copies g ∷ []) (cond t [] (slot copies gs i)))
      go true t p = more (λ y m. absurd (Memᴰ.not-nil m)) none
      go false true p = none
      go false false p = p

  -- What holds of what is kept at any two ranks, the lower first, holds of every two that are kept.
  pub kept-pairs : {R : Boundary → Boundary → Type 0} (gs : List Group)
      → ((i j : ℕ) → i < j → j < length copies → (b c : Boundary) → Memᴰ b (slot copies gs i) → Memᴰ c (slot copies gs j) → R b c)
      → Pairs R (kept copies gs)
  unfolding kept
  kept-pairs gs f = gather_pairs (slot copies gs) (slot-one gs)
      (pairs-imp (λ i j h. let u = up_mem 0 (length copies) h.2 in f i j h.0 (omega arith)) (pairs-mem (up_strict 0 (length copies))))

module _ (bs : List Boundary) where
  -- The copies, by the places of the input in order.
  pub copies-places : copies_of bs ≡ map (λ i. canon (get_or bs i no_boundary)) (places_of bs)
  unfolding copies_of places_of
  copies-places =
      sort-map canon (by_key ends_key) (by_key ends_key) (λ b c. rw (key-canon b, key-canon c)) bs
      ∙ (ap (map canon) (sort-places (by_key ends_key) bs no_boundary) ∙ map-map canon (λ i. get_or bs i no_boundary) (places_of bs))

  pub places-order : Pairs (Earlier bs) (places_of bs)
  unfolding places_of
  places-order = sort-stable (key-preorder (λ i. ends_key (get_or bs i no_boundary))) (up_strict 0 (length bs))
