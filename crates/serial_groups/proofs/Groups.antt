-- Groups are the connected parts of their links: no rank is in two, and each rank that a link joins is in one.
use mathlib.Core.Path.{◌≡◌, refl, sym, ◌∙◌, subst}
use mathlib.Core.Logic.{◌↔◌}
use mathlib.Core.Bool.{Bool, true, ◌&&◌}
use mathlib.Core.List.Memᴰ
use mathlib.Core.List.{List, Memᴰ}
use Prim.Native.Nat.{ℕ, ◌<◌}
use native.Mathlib.Omega.{arith}
use borrow.Author.Tests.{eqb-true, eq-eqb}
use lib.Dec.{eqb}
use Rattle.order.specs.Lists.{keep, up_from}
use Rattle.order.specs.Pairs.{Pairs}
use Rattle.order.proofs.Bools.{and_parts, and_both, or_right}
use Rattle.order.proofs.Pairs.{pairs-map}
use Rattle.order.proofs.Keep.{keep-mem, mem-keep, keep-pairs}
use Rattle.order.proofs.Numbers.{up_mem, mem_up, up_strict}
use Rattle.graph.specs.Path.{Edge, Path}
use Rattle.graph.specs.Parts.{component_of}
use Rattle.graph.specs.Labels.{begins}
use Rattle.graph.proofs.Paths.{path-kept, path-edge}
use Rattle.graph.proofs.Parts.{part-path, part-iff, part-le, part-idem}
use Rattle.serial_groups.specs.Links.{LinkAt, joins}
use Rattle.serial_groups.specs.Groups.{LinkGroup, link_edge, link_edges, is_joined, group_at, groups_of, LinkGroupsDisjoint}
use Rattle.order.proofs.Tests.{mem-any}

module _ (n : ℕ) (ks : List LinkAt) where
  abbrev member : ℕ → ℕ → Bool
  member c i = is_joined ks i && eqb (component_of (link_edges ks) i) c

  -- the ranks of a group are those below n that a link joins in its component_of
  ranks-iff : (c i : ℕ) → Memᴰ i (group_at n ks c).ranks ↔ ((i < n) × (is_joined ks i ≡ true) × (component_of (link_edges ks) i ≡ c))
  unfolding group_at
  ranks-iff c i = (
    λ m.
        let k = keep-mem (member c) (up_from 0 n) m in
        let p = and_parts (is_joined ks i) (eqb (component_of (link_edges ks) i) c) k.1 in
        (omega (arith, up_mem 0 n k.0), p.0, eqb-true (component_of (link_edges ks) i) c p.1),
    λ p. mem-keep (member c) (mem_up 0 n i (omega arith) (omega (arith, p.0))) (and_both p.1 (eq-eqb (component_of (link_edges ks) i) c p.2)),
  )

  -- each group is that of a first rank
  group-first : {a : LinkGroup} → Memᴰ a (groups_of n ks) → (c : ℕ) × (group_at n ks c ≡ a)
  unfolding groups_of
  group-first m = let w = Memᴰ.of_map (group_at n ks) (keep (begins (is_joined ks) (link_edges ks)) (up_from 0 n)) m in (w.0, w.2)

  -- that rank is in it
  pub group-some : {a : LinkGroup} → Memᴰ a (groups_of n ks) → (i : ℕ) × Memᴰ i a.ranks
  unfolding groups_of begins
  group-some m =
      let w = Memᴰ.of_map (group_at n ks) (keep (begins (is_joined ks) (link_edges ks)) (up_from 0 n)) m in
      let k = keep-mem (begins (is_joined ks) (link_edges ks)) (up_from 0 n) w.1 in
      let p = and_parts (is_joined ks w.0) (eqb (component_of (link_edges ks) w.0) w.0) k.1 in
      let r = (ranks-iff w.0 w.0).1 (omega (arith, up_mem 0 n k.0), p.0, eqb-true (component_of (link_edges ks) w.0) w.0 p.1) in
      (w.0, subst (λ (b : LinkGroup). Memᴰ w.0 b.ranks) w.2 r)

  -- its links stand in the order that all links stand in
  pub group-pairs : {R : LinkAt → LinkAt → Type 0} → Pairs R ks → {a : LinkGroup} → Memᴰ a (groups_of n ks) → Pairs R a.links
  unfolding group_at
  group-pairs p m = let w = group-first m in rw (← w.1) (keep-pairs (λ (k : LinkAt). eqb (component_of (link_edges ks) k.first) w.0) p)

  pub group-below : {a : LinkGroup} → Memᴰ a (groups_of n ks) → (i : ℕ) → Memᴰ i a.ranks → i < n
  group-below m i = let w = group-first m in rw (← w.1) (λ k. ((ranks-iff w.0 i).0 k).0)

  pub group-joined : {a : LinkGroup} → Memᴰ a (groups_of n ks) → (i : ℕ) → Memᴰ i a.ranks → is_joined ks i ≡ true
  group-joined m i = let w = group-first m in rw (← w.1) (λ k. ((ranks-iff w.0 i).0 k).1)

  pub group-rising : {a : LinkGroup} → Memᴰ a (groups_of n ks) → Pairs (λ i j. i < j) a.ranks
  unfolding group_at
  group-rising m = let w = group-first m in rw (← w.1) (keep-pairs (member w.0) (up_strict 0 n))

  -- with a rank the group has just those that a path over the links leads to
  pub group-part : {a : LinkGroup} → Memᴰ a (groups_of n ks) → (i j : ℕ) → Memᴰ i a.ranks →
      Memᴰ j a.ranks ↔ ((j < n) × (is_joined ks j ≡ true) × Path (link_edges ks) i j)
  group-part m i j = let w = group-first m in rw (← w.1) (whole w.0)
    where
      whole : (c : ℕ) → Memᴰ i (group_at n ks c).ranks → Memᴰ j (group_at n ks c).ranks ↔ ((j < n) × (is_joined ks j ≡ true) × Path (link_edges ks) i j)
      whole c k =
          let p = (ranks-iff c i).0 k in (
            λ q. let r = (ranks-iff c j).0 q in (r.0, r.1, (part-iff (link_edges ks) i j).0 (p.2 ∙ sym r.2)),
            λ r. (ranks-iff c j).1 (r.0, r.1, sym ((part-iff (link_edges ks) i j).1 r.2) ∙ p.2),
          )

  pub groups-apart : Pairs LinkGroupsDisjoint (groups_of n ks)
  unfolding groups_of
  groups-apart =
      pairs-map (group_at n ks)
      (λ c d l i p q. absurd (omega (arith, ((ranks-iff c i).0 p).2, ((ranks-iff d i).0 q).2)))
      (keep-pairs (begins (is_joined ks) (link_edges ks)) (up_strict 0 n))

  -- a link joins its two ranks
  pub joined : {k : LinkAt} → Memᴰ k ks → (is_joined ks k.first ≡ true) × (is_joined ks k.second ≡ true)
  unfolding is_joined
  joined {k} m = (
    mem-any (joins k.first) m (let e : eqb k.first k.first ≡ true = eq-eqb k.first k.first refl in rw e),
    mem-any (joins k.second) m (or_right (eqb k.second k.first) (eq-eqb k.second k.second refl)),
  )

  edge-joined : (e : Edge) → Memᴰ e (link_edges ks) → (is_joined ks e.left ≡ true) × (is_joined ks e.right ≡ true)
  unfolding link_edges
  edge-joined e m = let w = Memᴰ.of_map link_edge ks m in rw (← w.2) (joined w.1)

  -- each rank that a link joins is in a group
  pub group-covers : (i : ℕ) → i < n → is_joined ks i ≡ true → (a : LinkGroup) × Memᴰ a (groups_of n ks) × Memᴰ i a.ranks
  unfolding groups_of begins
  group-covers i l h = (
    group_at n ks c,
    Memᴰ.map (group_at n ks) (mem-keep (begins (is_joined ks) (link_edges ks)) (mem_up 0 n c (omega arith) (omega (arith, part-le (link_edges ks) i))) begin),
    (ranks-iff c i).1 (l, h, refl),
  )
    where
      c : ℕ
      c = component_of (link_edges ks) i

      begin : begins (is_joined ks) (link_edges ks) c ≡ true
      begin =
          and_both (path-kept (λ x. is_joined ks x ≡ true) (λ e m. (λ k. (edge-joined e m).1, λ k. (edge-joined e m).0)) (part-path (link_edges ks) i) h)
          (eq-eqb (component_of (link_edges ks) c) c (part-idem (link_edges ks) i))

  -- its links are those whose ranks it has
  module _ (inside : (k : LinkAt) → Memᴰ k ks → (k.first < n) × (k.second < n)) where
    links-iff : (c : ℕ) (k : LinkAt) → Memᴰ k (group_at n ks c).links ↔ (Memᴰ k ks × Memᴰ k.first (group_at n ks c).ranks)
    unfolding group_at
    links-iff c k = (
      λ m.
          let p = keep-mem (λ (j : LinkAt). eqb (component_of (link_edges ks) j.first) c) ks m in
          (p.0, (ranks-iff c k.first).1 ((inside k p.0).0, (joined p.0).0, eqb-true (component_of (link_edges ks) k.first) c p.1)),
      λ p. mem-keep (λ (j : LinkAt). eqb (component_of (link_edges ks) j.first) c) p.0
          (eq-eqb (component_of (link_edges ks) k.first) c ((ranks-iff c k.first).0 p.1).2),
    )

    pub group-links : {a : LinkGroup} → Memᴰ a (groups_of n ks) → (k : LinkAt) → Memᴰ k a.links ↔ (Memᴰ k ks × Memᴰ k.first a.ranks)
    group-links m k = let w = group-first m in rw (← w.1) (links-iff w.0 k)

    pub link-within : {a : LinkGroup} → Memᴰ a (groups_of n ks) → (k : LinkAt) → Memᴰ k a.links → Memᴰ k.first a.ranks
        × Memᴰ k.second a.ranks
    unfolding link_edges
    link-within m k p =
        let w = (group-links m k).0 p in
        (w.1, (group-part m k.first k.second w.1).1 ((inside k w.0).1, (joined w.0).1, path-edge (link_edge k) (Memᴰ.map link_edge w.0)))
