-- The computed test of a simple path is that of a chain, and its two ends are the chain's.
use mathlib.Core.Path.{◌≡◌, refl, sym, ap, ◌∙◌, subst}
use mathlib.Core.Logic.{◌↔◌, ◌⊎◌, inl, inr, ⊎_elim}
use mathlib.Core.List.Memᴰ
use mathlib.Core.List.{List, [], ◌∷◌, Memᴰ}
use Prim.Native.Nat.{ℕ, ◌<◌, ◌≤◌}
use native.Mathlib.Omega.{arith}
use borrow.Author.Tests.{eqb-true, eqb-false, eq-eqb}
use lib.Dec.{eqb}
use lib.ListN.{length, get_or}
use Rattle.order.specs.Pairs.{Pairs, none, more}
use Rattle.order.proofs.Bools.{by-test}
use Rattle.order.proofs.Pairs.{pairs-ext, pairs-at}
use Rattle.order.proofs.Keep.{keep-mem, mem-keep, keep-pairs}
use Rattle.grid.specs.Cells.{Grid}
use Rattle.areas.specs.Assessments.{RegionPair, Assessment}
use Rattle.context.specs.FullPair.{no_pair, full_pair, other_region}
use Rattle.context.specs.Listing.{Item}
use Rattle.serial_links.specs.Limits.{Limits}
use Rattle.serial_groups.specs.Regions.{assess_at}
use Rattle.serial_groups.specs.Links.{LinkAt, joins}
use Rattle.serial_groups.specs.Groups.{LinkGroup}
use Rattle.serial_groups.specs.SimplePath.{links_at, degree, ends_of, first_end, last_end, no_link, outer_region, IsSimplePath}
use Rattle.serial_groups.specs.LinkRule.{Touches, FullPair}
use Rattle.serial_groups.specs.ConnectedPart.{LinkJoins, LinkOf}
use Rattle.serial_groups.specs.Chain.{JoinedByOne, JoinedByTwo, Beyond, Chain}
use Rattle.order.proofs.Tests.{two-members}
use Rattle.serial_groups.proofs.Links.{pair-iff}
use Rattle.serial_groups.proofs.ConnectedPart.{joins-iff}

-- a list of one
one-member : {A : Type 0} (l : List A) (d : A) → length l ≡ 1 → l ≡ get_or l 0 d ∷ []
one-member [] d e = absurd (omega arith)
one-member (x ∷ []) d e = refl
one-member (x ∷ y ∷ ys) d e = absurd (omega arith)

only-iff : {A : Type 0} (x z : A) → Memᴰ z (x ∷ []) ↔ (z ≡ x)
only-iff {A} x z = (to, λ e. Memᴰ.head e)
  where
    to : Memᴰ z (x ∷ []) → z ≡ x
    to (Memᴰ.head e) = e
    to (Memᴰ.tail m) = absurd (Memᴰ.not-nil m)

only-pairs : {A : Type 0} {R : A → A → Type 0} (x : A) → Pairs R (x ∷ [])
only-pairs x = more (λ y m. absurd (Memᴰ.not-nil m)) none

two-pairs : {A : Type 0} {R : A → A → Type 0} (x y : A) → R x y → Pairs R (x ∷ y ∷ [])
two-pairs {A} {R} x y h = more (λ z m. subst (λ (w : A). R x w) (sym ((only-iff y z).0 m)) h) (only-pairs y)

-- one of the pair is the region, and the pair's other region is the other
other-is : (p : RegionPair) (r : ℕ) → (r ≡ p.lower) ⊎ (r ≡ p.higher) →
    ((r ≡ p.lower) × (other_region p r ≡ p.higher)) ⊎ ((r ≡ p.higher) × (other_region p r ≡ p.lower))
unfolding other_region
other-is p r e =
    by-test (eqb p.lower r) (λ h. inl (sym (eqb-true p.lower r h), rw h refl))
    (λ h. ⊎_elim (λ (f : r ≡ p.lower). absurd (eqb-false p.lower r h (sym f))) (λ (f : r ≡ p.higher). inr (f, rw h refl)) e)

is-other : (p : RegionPair) (r x : ℕ) → ((r ≡ p.lower) × (x ≡ p.higher)) ⊎ ((r ≡ p.higher) × (x ≡ p.lower)) → other_region p r ≡ x
unfolding other_region
is-other p r x e =
    by-test (eqb p.lower r)
    (λ h. rw h (⊎_elim (λ (f : Low). sym f.1) (λ (f : High). sym f.0 ∙ sym (eqb-true p.lower r h) ∙ sym f.1) e))
    (λ h. rw h (⊎_elim (λ (f : Low). absurd (eqb-false p.lower r h (sym f.0))) (λ (f : High). sym f.1) e))
  where
    Low : Type 0
    Low = (r ≡ p.lower) × (x ≡ p.higher)

    High : Type 0
    High = (r ≡ p.higher) × (x ≡ p.lower)

-- a full pair is the only pair
pair-only : (s : Assessment) → FullPair s → (p : RegionPair) → Memᴰ p s.pairs ↔ (p ≡ full_pair s)
pair-only s f p = rw (one-member s.pairs no_pair f.just-one) (only-iff (full_pair s) p)

beyond-is : (s : Assessment) (r : ℕ) → FullPair s → Touches s r → Beyond s r (other_region (full_pair s) r)
beyond-is s r f t = record {
  pair = full_pair s;
  own = (pair-only s f (full_pair s)).1 refl;
  other = other-is (full_pair s) r (rw ((pair-only s f t.pair).0 t.own) at t.either);
}

is-beyond : (s : Assessment) (r x : ℕ) → FullPair s → Beyond s r x → other_region (full_pair s) r ≡ x
is-beyond s r x f b = is-other (full_pair s) r x (rw ((pair-only s f b.pair).0 b.own) at b.other)

-- a number is one of two, or neither
pub one_of_three : {X : Type 0} (i m n : ℕ) → (i ≡ m → X) → (i ≡ n → X) → ((i ≡ m → ⊥) → (i ≡ n → ⊥) → X) → X
one_of_three i m n f h k =
    by-test (eqb i m) (λ e. f (eqb-true i m e)) (λ d. by-test (eqb i n) (λ e. h (eqb-true i n e)) (λ e. k (eqb-false i m d) (eqb-false i n e)))

one-or-two : (n : ℕ) → 1 ≤ n → n ≤ 2 → (n ≡ 1) ⊎ (n ≡ 2)
one-or-two n h k = by-test (eqb n 1) (λ e. inl (eqb-true n 1 e)) (λ e. let d = eqb-false n 1 e in inr (omega (arith, h, k, d)))

module _ (a : LinkGroup) (by-region : Pairs (λ (j k : LinkAt). j.region < k.region) a.links) where
  at-iff : (i : ℕ) (h : LinkAt) → Memᴰ h (links_at a i) ↔ (LinkOf a h × LinkJoins h i)
  unfolding links_at
  at-iff i h = (
    λ m. let p = keep-mem (joins i) a.links m in (p.0, (joins-iff h i).0 p.1),
    λ p. mem-keep (joins i) p.0 ((joins-iff h i).1 p.1),
  )

  at-rising : (i : ℕ) → Pairs (λ (j k : LinkAt). j.region < k.region) (links_at a i)
  unfolding links_at
  at-rising i = keep-pairs (joins i) by-region

  -- degree 1 is one link, degree 2 is two
  one_at : (i : ℕ) → Memᴰ i a.ranks → degree a i ≡ 1 → JoinedByOne a i (get_or (links_at a i) 0 no_link)
  one_at i m e = record {
    mine = m;
    just = λ h. (
      λ p. (only-iff (get_or (links_at a i) 0 no_link) h).0 (rw (one-member (links_at a i) no_link e) at ((at-iff i h).1 p)),
      λ q. (at-iff i h).0 (rw (one-member (links_at a i) no_link e) ((only-iff (get_or (links_at a i) 0 no_link) h).1 q)),
    );
  }

  at_one : (i : ℕ) (k : LinkAt) → JoinedByOne a i k → links_at a i ≡ k ∷ []
  at_one i k w =
      pairs-ext (λ x y p q. omega arith) (links_at a i) (k ∷ []) (at-rising i) (only-pairs k)
      (λ h. (λ m. (only-iff k h).1 ((w.just h).0 ((at-iff i h).0 m)), λ m. (at-iff i h).1 ((w.just h).1 ((only-iff k h).0 m))))

  two_at : (i : ℕ) → degree a i ≡ 2 → JoinedByTwo a i
  two_at i e = record {
    lower = x;
    higher = y;
    differ = pairs-at no_link (at-rising i) 0 1 (omega arith) (omega (arith, e));
    just = λ h. (
      λ p. (pair-iff x y h).0 (rw (two-members (links_at a i) no_link e) at ((at-iff i h).1 p)),
      λ q. (at-iff i h).0 (rw (two-members (links_at a i) no_link e) ((pair-iff x y h).1 q)),
    );
  }
    where
      x : LinkAt
      x = get_or (links_at a i) 0 no_link

      y : LinkAt
      y = get_or (links_at a i) 1 no_link

  at-two : (i : ℕ) (w : JoinedByTwo a i) → links_at a i ≡ w.lower ∷ w.higher ∷ []
  at-two i w =
      pairs-ext (λ x y p q. omega arith) (links_at a i) (w.lower ∷ w.higher ∷ []) (at-rising i) (two-pairs w.lower w.higher w.differ)
      (λ h. (
        λ m. (pair-iff w.lower w.higher h).1 ((w.just h).0 ((at-iff i h).0 m)),
        λ m. (at-iff i h).1 ((w.just h).1 ((pair-iff w.lower w.higher h).0 m)),
      ))

  ends-iff : (i : ℕ) → Memᴰ i (ends_of a) ↔ (Memᴰ i a.ranks × (degree a i ≡ 1))
  unfolding ends_of
  ends-iff i = (
    λ m. let p = keep-mem (λ j. eqb (degree a j) 1) a.ranks m in (p.0, eqb-true (degree a i) 1 p.1),
    λ p. mem-keep (λ j. eqb (degree a j) 1) p.0 (eq-eqb (degree a i) 1 p.1),
  )

  module _ (ascending : Pairs (λ i j. i < j) a.ranks) where
    ends-rising : Pairs (λ i j. i < j) (ends_of a)
    unfolding ends_of
    ends-rising = keep-pairs (λ i. eqb (degree a i) 1) ascending

    module _ (limits : Limits) (dirs : List ℕ) (g : Grid) (l : List Item) (least : ℕ)
        (full : (k : LinkAt) → LinkOf a k → (i : ℕ) → LinkJoins k i → FullPair (assess_at dirs g l i) × Touches (assess_at dirs g l i) k.region) where
      -- past a rank with one link lies the computed outer region
      outer-is : (i : ℕ) (k : LinkAt) → JoinedByOne a i k → Beyond (assess_at dirs g l i) k.region (outer_region dirs g l a i)
      unfolding outer_region
      outer-is i k w =
          let h = (w.just k).1 refl in
          let f = full k h.0 i h.1 in
          rw (at_one i k w) (beyond-is (assess_at dirs g l i) k.region f.0 f.1)

      is-outer : (i : ℕ) (k : LinkAt) (x : ℕ) → JoinedByOne a i k → Beyond (assess_at dirs g l i) k.region x → outer_region dirs g l a i ≡ x
      unfolding outer_region
      is-outer i k x w b =
          let h = (w.just k).1 refl in
          rw (at_one i k w) (is-beyond (assess_at dirs g l i) k.region x (full k h.0 i h.1).0 b)

      pub path-chain : IsSimplePath limits dirs g l least a → Chain limits dirs g l least a
      path-chain w = record {
        enough = w.enough;
        most = w.most;
        one_fewer = w.one_fewer;
        first = e;
        last = f;
        rising = pairs-at 0 ends-rising 0 1 (omega arith) (omega (arith, w.two_ends));
        first-link = get_or (links_at a e) 0 no_link;
        last-link = get_or (links_at a f) 0 no_link;
        first-end = first_one;
        last-end = last_one;
        inner = λ i m x y. two_at i (inner-two i m x y);
        first-outer = outer_region dirs g l a e;
        last-outer = outer_region dirs g l a f;
        first-beyond = outer-is e (get_or (links_at a e) 0 no_link) first_one;
        last-beyond = outer-is f (get_or (links_at a f) 0 no_link) last_one;
        outer-differ = w.outer;
      }
        where
          e : ℕ
          e = first_end a

          f : ℕ
          f = last_end a

          both : ends_of a ≡ e ∷ f ∷ []
          both = two-members (ends_of a) 0 w.two_ends

          end-one : (i : ℕ) → (i ≡ e) ⊎ (i ≡ f) → JoinedByOne a i (get_or (links_at a i) 0 no_link)
          end-one i h = let p = (ends-iff i).0 (rw both ((pair-iff e f i).1 h)) in one_at i p.0 p.1

          first_one : JoinedByOne a e (get_or (links_at a e) 0 no_link)
          first_one = end-one e (inl refl)

          last_one : JoinedByOne a f (get_or (links_at a f) 0 no_link)
          last_one = end-one f (inr refl)

          inner-two : (i : ℕ) → Memᴰ i a.ranks → (i ≡ e → ⊥) → (i ≡ f → ⊥) → degree a i ≡ 2
          inner-two i m x y =
              let d = w.degrees i m in
              ⊎_elim (λ (h : degree a i ≡ 1). absurd (⊎_elim x y ((pair-iff e f i).0 (rw both at ((ends-iff i).1 (m, h)))))) (λ (h : degree a i ≡ 2). h)
              (one-or-two (degree a i) d.0 d.1)

      -- the degrees of a chain: 1 at the ends, 2 between
      chain-one : (c : Chain limits dirs g l least a) → (degree a c.first ≡ 1) × (degree a c.last ≡ 1)
      chain-one c = (ap length (at_one c.first c.first-link c.first-end), ap length (at_one c.last c.last-link c.last-end))

      chain-two : (c : Chain limits dirs g l least a) (i : ℕ) → Memᴰ i a.ranks → (i ≡ c.first → ⊥) → (i ≡ c.last → ⊥) → degree a i ≡ 2
      chain-two c i m x y = ap length (at-two i (c.inner i m x y))

      -- the ends that are searched for are the chain's
      chain-both : (c : Chain limits dirs g l least a) → ends_of a ≡ c.first ∷ c.last ∷ []
      chain-both c =
          pairs-ext (λ x y p q. omega arith) (ends_of a) (c.first ∷ c.last ∷ []) ends-rising (two-pairs c.first c.last c.rising)
          (λ i. (λ m. (pair-iff c.first c.last i).1 (to i ((ends-iff i).0 m)), λ m. from i ((pair-iff c.first c.last i).0 m)))
        where
          to : (i : ℕ) → Memᴰ i a.ranks × (degree a i ≡ 1) → (i ≡ c.first) ⊎ (i ≡ c.last)
          to i p =
              one_of_three i c.first c.last (λ e. inl e) (λ e. inr e) (λ x y. absurd (omega (arith, chain-two c i p.0 x y, p.1)))

          from : (i : ℕ) → (i ≡ c.first) ⊎ (i ≡ c.last) → Memᴰ i (ends_of a)
          from i h =
              ⊎_elim (λ (e : i ≡ c.first). rw e ((ends-iff c.first).1 (c.first-end.mine, (chain-one c).0)))
              (λ (e : i ≡ c.last). rw e ((ends-iff c.last).1 (c.last-end.mine, (chain-one c).1))) h

      pub chain-ends : (c : Chain limits dirs g l least a) → (first_end a ≡ c.first) × (last_end a ≡ c.last)
      chain-ends c = (ap (λ (is : List ℕ). get_or is 0 0) (chain-both c), ap (λ (is : List ℕ). get_or is 1 0) (chain-both c))

      pub chain-path : Chain limits dirs g l least a → IsSimplePath limits dirs g l least a
      chain-path c = record {
        enough = c.enough;
        most = c.most;
        one_fewer = c.one_fewer;
        two_ends = ap length (chain-both c);
        degrees = degrees;
        outer = λ h. c.outer-differ (sym first-is ∙ h ∙ last-is);
      }
        where
          first-is : outer_region dirs g l a (first_end a) ≡ c.first-outer
          first-is = ap (outer_region dirs g l a) (chain-ends c).0 ∙ is-outer c.first c.first-link c.first-outer c.first-end c.first-beyond

          last-is : outer_region dirs g l a (last_end a) ≡ c.last-outer
          last-is = ap (outer_region dirs g l a) (chain-ends c).1 ∙ is-outer c.last c.last-link c.last-outer c.last-end c.last-beyond

          either : (i : ℕ) → Memᴰ i a.ranks → (degree a i ≡ 1) ⊎ (degree a i ≡ 2)
          either i m =
              one_of_three i c.first c.last (λ e. inl (ap (degree a) e ∙ (chain-one c).0)) (λ e. inl (ap (degree a) e ∙ (chain-one c).1))
              (λ x y. inr (chain-two c i m x y))

          degrees : (i : ℕ) → Memᴰ i a.ranks → (1 ≤ degree a i) × (degree a i ≤ 2)
          degrees i m =
              ⊎_elim (λ (e : degree a i ≡ 1). (omega (arith, e), omega (arith, e))) (λ (e : degree a i ≡ 2). (omega (arith, e), omega (arith, e))) (either i m)
