-- A connected part that is a chain stands in a row: from its last end on, each rank leads to the next by the link that was not yet gone over.
use mathlib.Core.Path.{◌≡◌, refl, sym, ap, ◌∙◌, subst}
use mathlib.Core.Logic.{◌⊎◌, inl, inr, ⊎_elim}
use mathlib.Core.List.Memᴰ
use mathlib.Core.List.{List, [], ◌∷◌, Memᴰ}
use Prim.Native.Nat.{ℕ, zero, suc, ◌+◌, ◌<◌, ◌≤◌}
use native.Mathlib.Omega.{arith}
use lib.ListN.{length}
use Rattle.order.specs.Pairs.{none, more, Distinct}
use Rattle.position.specs.declared.WalkPosition.{WalkPosition}
use Rattle.grid.specs.Cells.{Grid}
use Rattle.context.specs.Listing.{Item}
use Rattle.serial_links.specs.Limits.{Limits}
use Rattle.serial_groups.specs.Links.{LinkAt}
use Rattle.serial_groups.specs.Groups.{LinkGroup}
use Rattle.serial_groups.specs.ConnectedPart.{LinkJoins, Walk, here, onward, LinkOf, ConnectedPart}
use Rattle.serial_groups.specs.Chain.{JoinedByOne, JoinedByTwo, Chain}
use Rattle.serial_groups.specs.SerialGroup.{SerialGroup}
use Rattle.serial_groups.specs.FlatGroup.{FlatGroup}
use Rattle.serial_groups.specs.Row.{Row, alone, linked, InARow}
use Rattle.serial_groups.proofs.ConnectedPart.{part-link}
use Rattle.serial_groups.proofs.Chain.{one_of_three}

-- a list without one of its members
without-one : {x : ℕ} {m : List ℕ} → Memᴰ x m →
    (n : List ℕ) × (suc (length n) ≡ length m) × ((y : ℕ) → Memᴰ y m → (y ≡ x → ⊥) → Memᴰ y n)
without-one {x} (Memᴰ.head {x = z} {xs = xs} e) = (xs, refl, go)
  where
    go : (y : ℕ) → Memᴰ y (z ∷ xs) → (y ≡ x → ⊥) → Memᴰ y xs
    go y (Memᴰ.head f) h = absurd (h (f ∙ sym e))
    go y (Memᴰ.tail k) h = k
without-one {x} (Memᴰ.tail {x = z} {xs = xs} k) = let r = without-one k in (z ∷ r.0, omega (arith, r.1), go r.0 r.2)
  where
    go : (n : List ℕ) → ((y : ℕ) → Memᴰ y xs → (y ≡ x → ⊥) → Memᴰ y n) → (y : ℕ) → Memᴰ y (z ∷ xs) → (y ≡ x → ⊥) → Memᴰ y (z ∷ n)
    go n f y (Memᴰ.head e) h = Memᴰ.head e
    go n f y (Memᴰ.tail m) h = Memᴰ.tail (f y m h)

-- distinct members of a list are no more than it has
no_more : (l m : List ℕ) → Distinct l → ((y : ℕ) → Memᴰ y l → Memᴰ y m) → length l ≤ length m
no_more [] m d s = omega arith
no_more (x ∷ xs) m (more f d) s =
    let r = without-one (s x (Memᴰ.head refl)) in
    omega (arith, r.1, no_more xs r.0 d (λ y k. r.2 y (s y (Memᴰ.tail k)) (λ e. f y k (sym e))))

distinct_head : {x : ℕ} {l : List ℕ} → Distinct (x ∷ l) → Memᴰ x l → ⊥
distinct_head {x} (more f d) m = f x m refl

distinct_tail : {x : ℕ} {l : List ℕ} → Distinct (x ∷ l) → Distinct l
distinct_tail (more f d) = d

-- a link has just two ranks
just-two : (k : LinkAt) {i j h : ℕ} → LinkJoins k i → LinkJoins k j → (i ≡ j → ⊥) → LinkJoins k h → (h ≡ i) ⊎ (h ≡ j)
just-two k (inl p) (inl q) n r = absurd (n (p ∙ sym q))
just-two k (inl p) (inr q) n (inl r) = inl (r ∙ sym p)
just-two k (inl p) (inr q) n (inr r) = inr (r ∙ sym q)
just-two k (inr p) (inl q) n (inl r) = inr (r ∙ sym q)
just-two k (inr p) (inl q) n (inr r) = inl (r ∙ sym p)
just-two k (inr p) (inr q) n r = absurd (n (p ∙ sym q))

-- the links of a row join none but its ranks
row_inside : {v : List ℕ} {ks : List LinkAt} → Row v ks → Distinct v → {k : LinkAt} {h : ℕ} → Memᴰ k ks → LinkJoins k h → Memᴰ h v
row_inside alone d m q = absurd (Memᴰ.not-nil m)
row_inside (linked {i = i} {j = j} {is = is} {k = o} p q r) d {k} {h} (Memᴰ.head e) s =
    ⊎_elim (λ (f : h ≡ i). Memᴰ.head f) (λ (f : h ≡ j). Memᴰ.tail (Memᴰ.head f))
    (just-two o p q (λ f. distinct_head d (Memᴰ.head f)) (subst (λ (z : LinkAt). LinkJoins z h) e s))
row_inside (linked p q r) d (Memᴰ.tail m) s = Memᴰ.tail (row_inside r (distinct_tail d) m s)

row-head : {x y : ℕ} {rest : List ℕ} {k : LinkAt} {ks : List LinkAt} → Row (x ∷ y ∷ rest) (k ∷ ks) → LinkJoins k x × Row (y ∷ rest) ks
row-head (linked p q r) = (p, r)

-- the other rank of a link
other-rank : (k : LinkAt) → k.first < k.second → {x : ℕ} → LinkJoins k x → (z : ℕ) × LinkJoins k z × (z ≡ x → ⊥)
other-rank k h (inl e) = (k.second, inr refl, λ f. absurd (omega arith))
other-rank k h (inr e) = (k.first, inl refl, λ f. absurd (omega arith))

module _ {L : LinkAt → Type 0} {a : LinkGroup} (p : ConnectedPart L a) (rising : (k : LinkAt) → LinkOf a k → k.first < k.second) where
  -- a row that ends at x: the ranks behind x have no other links
  record Grown (x : ℕ) (rest : List ℕ) (ks : List LinkAt) : Type 0 where
    row : Row (x ∷ rest) ks
    once : Distinct (x ∷ rest)
    mine : (y : ℕ) → Memᴰ y (x ∷ rest) → Memᴰ y a.ranks
    own : (k : LinkAt) → Memᴰ k ks → LinkOf a k
    full : (y : ℕ) → Memᴰ y rest → (k : LinkAt) → LinkOf a k → LinkJoins k y → Memᴰ k ks

  -- over a new link to a new rank
  step : {x : ℕ} {rest : List ℕ} {ks : List LinkAt} → Grown x rest ks → (k : LinkAt) → LinkOf a k → LinkJoins k x → (Memᴰ k ks → ⊥) →
      ((h : LinkAt) → LinkOf a h → LinkJoins h x → (h ≡ k) ⊎ Memᴰ h ks) → (z : ℕ) × Grown z (x ∷ rest) (k ∷ ks)
  step {x} {rest} {ks} g k o q n all = (z, record { row = linked w.1 q g.row; once = more new g.once; mine = mine; own = own; full = full })
    where
      w : (z : ℕ) × LinkJoins k z × (z ≡ x → ⊥)
      w = other-rank k (rising k o) q

      z : ℕ
      z = w.0

      new : (y : ℕ) → Memᴰ y (x ∷ rest) → z ≡ y → ⊥
      new y (Memᴰ.head e) f = w.2 (f ∙ e)
      new y (Memᴰ.tail m) f = n (g.full y m k o (subst (λ (i : ℕ). LinkJoins k i) f w.1))

      mine : (y : ℕ) → Memᴰ y (z ∷ x ∷ rest) → Memᴰ y a.ranks
      mine y (Memᴰ.head e) = rw e ((p.ranks z).1 (k, o, w.1))
      mine y (Memᴰ.tail m) = g.mine y m

      own : (h : LinkAt) → Memᴰ h (k ∷ ks) → LinkOf a h
      own h (Memᴰ.head e) = subst (λ (i : LinkAt). LinkOf a i) (sym e) o
      own h (Memᴰ.tail m) = g.own h m

      full : (y : ℕ) → Memᴰ y (x ∷ rest) → (h : LinkAt) → LinkOf a h → LinkJoins h y → Memᴰ h (k ∷ ks)
      full y (Memᴰ.head e) h b s =
          ⊎_elim (λ (f : h ≡ k). Memᴰ.head f) (λ (m : Memᴰ h ks). Memᴰ.tail m) (all h b (subst (λ (i : ℕ). LinkJoins h i) e s))
      full y (Memᴰ.tail m) h b s = Memᴰ.tail (g.full y m h b s)

  -- where the last rank has no other link the row is the whole part
  done : {x : ℕ} {rest : List ℕ} {ks : List LinkAt} → Grown x rest ks → ((k : LinkAt) → LinkOf a k → LinkJoins k x → Memᴰ k ks) → InARow a
  done {x} {rest} {ks} g all = record {
    order = x ∷ rest;
    between = ks;
    row = g.row;
    once = g.once;
    ranks = λ y. (g.mine y, inside y);
    links = λ k. (g.own k, λ m. let i = (p.ranks k.first).1 (k, m, inl refl) in whole k.first (inside k.first i) k m (inl refl));
  }
    where
      whole : (y : ℕ) → Memᴰ y (x ∷ rest) → (k : LinkAt) → LinkOf a k → LinkJoins k y → Memᴰ k ks
      whole y (Memᴰ.head e) k o s = all k o (subst (λ (i : ℕ). LinkJoins k i) e s)
      whole y (Memᴰ.tail m) k o s = g.full y m k o s

      reach : {i j : ℕ} → Walk (LinkOf a) i j → Memᴰ i (x ∷ rest) → Memᴰ j (x ∷ rest)
      reach here m = m
      reach (onward {i = i} {k = k} o s t w) m = reach w (row_inside g.row g.once (whole i m k o s) t)

      inside : (y : ℕ) → Memᴰ y a.ranks → Memᴰ y (x ∷ rest)
      inside y m = reach (p.joined x y (g.mine x (Memᴰ.head refl)) m) (Memᴰ.head refl)

  module _ {limits : Limits} {dirs : List ℕ} {g : Grid} {l : List Item} {least : ℕ} (c : Chain limits dirs g l least a) where
    -- at an end the row is whole; at any other rank it goes on
    turn : {x y : ℕ} {rest : List ℕ} {k : LinkAt} {ks : List LinkAt} → Grown x (y ∷ rest) (k ∷ ks) →
        ((z : ℕ) (j : LinkAt) → Grown z (x ∷ y ∷ rest) (j ∷ k ∷ ks) → InARow a) → InARow a
    turn {x} {y} {rest} {k} {ks} r next =
        one_of_three x c.first c.last (λ e. whole c.first-link (rw e c.first-end)) (λ e. whole c.last-link (rw e c.last-end))
        (λ u v. two (c.inner x (r.mine x (Memᴰ.head refl)) u v))
      where
        came : LinkJoins k x
        came = (row-head r.row).0

        mine : LinkOf a k
        mine = r.own k (Memᴰ.head refl)

        whole : (j : LinkAt) → JoinedByOne a x j → InARow a
        whole j w = done r (λ h o q. Memᴰ.head ((w.just h).0 (o, q) ∙ sym ((w.just k).0 (mine, came))))

        fresh : (j : LinkAt) → LinkJoins j x → (j ≡ k → ⊥) → Memᴰ j (k ∷ ks) → ⊥
        fresh j q n (Memᴰ.head e) = n e
        fresh j q n (Memᴰ.tail m) = distinct_head r.once (row_inside (row-head r.row).1 (distinct_tail r.once) m q)

        on : (j : LinkAt) → LinkOf a j × LinkJoins j x → (j ≡ k → ⊥) → ((h : LinkAt) → LinkOf a h → LinkJoins h x → (h ≡ j) ⊎ (h ≡ k)) → InARow a
        on j o n all =
            let s = step r j o.0 o.1 (fresh j o.1 n)
            (λ h b q. ⊎_elim (λ (e : h ≡ j). inl e) (λ (e : h ≡ k). inr (Memᴰ.head e)) (all h b q)) in
            next s.0 j s.1

        flip : {h i j : LinkAt} → (h ≡ i) ⊎ (h ≡ j) → (h ≡ j) ⊎ (h ≡ i)
        flip (inl e) = inr e
        flip (inr e) = inl e

        two : JoinedByTwo a x → InARow a
        two w =
            ⊎_elim
            (λ (e : k ≡ w.lower).
            on w.higher ((w.just w.higher).1 (inr refl)) (λ f. apart w (sym e ∙ sym f)) (λ h b q. rw e (flip ((w.just h).0 (b, q)))))
            (λ (e : k ≡ w.higher). on w.lower ((w.just w.lower).1 (inl refl)) (λ f. apart w (f ∙ e)) (λ h b q. rw e ((w.just h).0 (b, q))))
            ((w.just k).0 (mine, came))
          where
            apart : (v : JoinedByTwo a x) → v.lower ≡ v.higher → ⊥
            apart v e = let h = v.differ in absurd (omega (arith, h, ap (λ (i : LinkAt). i.region) e))

    grow : (n : ℕ) {x y : ℕ} {rest : List ℕ} {k : LinkAt} {ks : List LinkAt} → Grown x (y ∷ rest) (k ∷ ks) →
        length a.ranks ≤ n + length (y ∷ rest) → InARow a
    grow zero {x} {y} {rest} r h = absurd (omega (arith, h, no_more (x ∷ y ∷ rest) a.ranks r.once r.mine))
    grow (suc n) r h = turn r (λ z j s. grow n s (omega (arith, h)))

    begin : Grown c.last [] []
    begin = record {
      row = alone;
      once = more (λ y m. absurd (Memᴰ.not-nil m)) none;
      mine = λ y m. go m;
      own = λ k m. absurd (Memᴰ.not-nil m);
      full = λ y m k o q. absurd (Memᴰ.not-nil m);
    }
      where
        go : {y : ℕ} → Memᴰ y (c.last ∷ []) → Memᴰ y a.ranks
        go (Memᴰ.head e) = rw e c.last-end.mine
        go (Memᴰ.tail m) = absurd (Memᴰ.not-nil m)

    -- a chain is a simple path: its ranks stand in a row
    pub chain-row : InARow a
    chain-row =
        let o = (c.last-end.just c.last-link).1 refl in
        let s = step begin c.last-link o.0 o.1 Memᴰ.not-nil (λ h b q. inl ((c.last-end.just h).0 (b, q))) in
        grow (length a.ranks) s.1 (omega arith)

-- so do the ranks of an accepted group
module _ {limits : Limits} {dirs : List ℕ} {g : Grid} {anchors : List WalkPosition} {l : List Item} {a : LinkGroup} where
  pub serial-row : SerialGroup limits dirs g anchors l a → InARow a
  serial-row w = chain-row w.part (λ k h. (part-link w.part k h).gives.rising) w.chain

  pub flat-row : FlatGroup limits dirs g anchors l a → InARow a
  flat-row w = chain-row w.part (λ k h. (part-link w.part k h).gives.rising) w.chain
