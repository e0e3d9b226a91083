-- The computed groups are the connected parts, and a connected part is known by any of its ranks.
use mathlib.Core.Path.{◌≡◌, refl, sym, ap, ◌∙◌, subst}
use mathlib.Core.Logic.{◌↔◌, inl, inr, ⊎_elim}
use mathlib.Core.Bool.{true}
use mathlib.Core.List.Memᴰ
use mathlib.Core.List.{List, Memᴰ}
use Prim.Native.Nat.{ℕ, ◌<◌}
use native.Mathlib.Omega.{arith}
use Rattle.order.specs.Pairs.{Pairs}
use Rattle.order.proofs.Pairs.{pairs-ext}
use Rattle.graph.specs.Path.{Edge, Path, here, onward, forth, back}
use Rattle.graph.proofs.Paths.{path-trans, path-sym, path-edge, path-eq, path-between}
use Rattle.serial_groups.specs.Links.{LinkAt, joins}
use Rattle.serial_groups.specs.Groups.{LinkGroup, link_edge, link_edges, is_joined, groups_of}
use Rattle.serial_groups.specs.ConnectedPart.{LinkJoins, Walk, LinkOf, ConnectedPart}
use Rattle.serial_groups.specs.ConnectedPart as Words
use Rattle.order.proofs.Tests.{any-mem, either-iff}
use Rattle.serial_groups.proofs.Groups.{group-some, group-pairs, group-rising, group-joined, group-part, group-covers, group-links, link-within, joined}

-- the test of a link's ranks
pub joins-iff : (k : LinkAt) (i : ℕ) → (joins i k ≡ true) ↔ LinkJoins k i
joins-iff k i = either-iff i k.first k.second

-- a group is its ranks and its links
same-group : (a b : LinkGroup) → a.ranks ≡ b.ranks → a.links ≡ b.links → a ≡ b
same-group a b e f = λ i. record { ranks = e i; links = f i }

-- a link of a part is a link of the rule
pub part-link : {L : LinkAt → Type 0} {a : LinkGroup} → ConnectedPart L a → (k : LinkAt) → LinkOf a k → L k
part-link p k h = ((p.links k.first ((p.ranks k.first).1 (k, h, inl refl)) k).0 h).0

-- connected parts that have a rank in common are one
pub part_same : {L : LinkAt → Type 0} {a b : LinkGroup} → ConnectedPart L a → ConnectedPart L b → (i : ℕ) → Memᴰ i a.ranks → Memᴰ i b.ranks
    → a ≡ b
part_same {L} {a} {b} p q i m n = same-group a b ranks links
  where
    links : a.links ≡ b.links
    links =
        pairs-ext (λ j k s t. omega arith) a.links b.links p.by-region q.by-region
        (λ k. (λ h. (q.links i n k).1 ((p.links i m k).0 h), λ h. (p.links i m k).1 ((q.links i n k).0 h)))

    ranks : a.ranks ≡ b.ranks
    ranks =
        pairs-ext (λ j k s t. omega arith) a.ranks b.ranks p.ascending q.ascending (λ x. (
          λ h. let w = (p.ranks x).0 h in (q.ranks x).1 (w.0, rw (← links) w.1, w.2),
          λ h. let w = (q.ranks x).0 h in (p.ranks x).1 (w.0, rw links w.1, w.2),
        ))

-- a walk from a rank of a part goes over links of the part
own-walk : {L : LinkAt → Type 0} {a : LinkGroup} →
    ((i : ℕ) → Memᴰ i a.ranks → (k : LinkAt) → L k → LinkJoins k i → LinkOf a k × ((j : ℕ) → LinkJoins k j → Memᴰ j a.ranks)) →
    {i j : ℕ} → Walk L i j → Memᴰ i a.ranks → Walk (LinkOf a) i j
own-walk f Words.here m = Words.here
own-walk f (Words.onward {i = i} {j = j} {k = k} h p q w) m = let o = f i m k h p in Words.onward o.0 p q (own-walk f w (o.1 j q))

-- for links that are just those of the list, among n ranks and one a region
module _ {L : LinkAt → Type 0} (n : ℕ) (ks : List LinkAt) (is : (k : LinkAt) → Memᴰ k ks ↔ L k)
    (inside : (k : LinkAt) → Memᴰ k ks → (k.first < n) × (k.second < n)) (rising : Pairs (λ (j k : LinkAt). j.region < k.region) ks) where
  -- a link leads from each of its ranks to each
  over : {k : LinkAt} {i j : ℕ} → Memᴰ k ks → LinkJoins k i → LinkJoins k j → Path (link_edges ks) i j
  unfolding link_edges
  over {k} {i} {j} m p q =
      ⊎_elim (λ (e : i ≡ k.first). ⊎_elim (λ (f : j ≡ k.first). path-eq (rw (e, f) refl)) (λ (f : j ≡ k.second). path-between e edge (sym f)) q)
      (λ (e : i ≡ k.second). ⊎_elim (λ (f : j ≡ k.first). path-between e (path-sym edge) (sym f)) (λ (f : j ≡ k.second). path-eq (rw (e, f) refl)) q)
      p
    where
      edge : Path (link_edges ks) k.first k.second
      edge = path-edge (link_edge k) (Memᴰ.map link_edge m)

  walk-path : {i j : ℕ} → Walk L i j → Path (link_edges ks) i j
  walk-path Words.here = here
  walk-path (Words.onward {k = k} h p q w) = path-trans (over ((is k).1 h) p q) (walk-path w)

  path-walk : {i j : ℕ} → Path (link_edges ks) i j → Walk L i j
  unfolding link_edges
  path-walk here = Words.here
  path-walk (onward m (forth x y) p) =
      let w = Memᴰ.of_map link_edge ks m in
      let s = ap (λ (e : Edge). e.left) w.2 ∙ x in
      let t = ap (λ (e : Edge). e.right) w.2 ∙ y in
      Words.onward ((is w.0).0 w.1) (inl (sym s)) (inr (sym t)) (path-walk p)
  path-walk (onward m (back x y) p) =
      let w = Memᴰ.of_map link_edge ks m in
      let s = ap (λ (e : Edge). e.left) w.2 ∙ x in
      let t = ap (λ (e : Edge). e.right) w.2 ∙ y in
      Words.onward ((is w.0).0 w.1) (inr (sym t)) (inl (sym s)) (path-walk p)

  -- some link joins a rank that is joined
  joining : (i : ℕ) → is_joined ks i ≡ true → (k : LinkAt) × Memᴰ k ks × LinkJoins k i
  unfolding is_joined
  joining i h =
      let w = any-mem (joins i) ks h in
      (w.0, w.1, (joins-iff w.0 i).0 w.2)

  module _ {a : LinkGroup} (m : Memᴰ a (groups_of n ks)) where
    -- the group has a link of L with any of its ranks, and then both of them
    whole : (i : ℕ) → Memᴰ i a.ranks → (k : LinkAt) → Memᴰ k ks → Path (link_edges ks) i k.first → LinkOf a k
    whole i p k h w = (group-links n ks inside m k).1 (h, (group-part n ks m i k.first p).1 ((inside k h).0, (joined n ks h).0, w))

    both : (k : LinkAt) → LinkOf a k → (j : ℕ) → LinkJoins k j → Memᴰ j a.ranks
    both k h j e =
        let w = link-within n ks inside m k h in
        ⊎_elim (λ (f : j ≡ k.first). rw f w.0) (λ (f : j ≡ k.second). rw f w.1) e

    links-are : (i : ℕ) → Memᴰ i a.ranks → (k : LinkAt) → LinkOf a k ↔ (L k × Walk L i k.first)
    links-are i p k = (
      λ h. let w = (group-links n ks inside m k).0 h in ((is k).0 w.0, path-walk ((group-part n ks m i k.first p).0 w.1).2),
      λ w. whole i p k ((is k).1 w.0) (walk-path w.1),
    )

    ranks-are : (i : ℕ) → Memᴰ i a.ranks ↔ ((k : LinkAt) × LinkOf a k × LinkJoins k i)
    ranks-are i = (
      λ p. let w = joining i (group-joined n ks m i p) in (w.0, whole i p w.0 w.1 (over w.1 w.2 (inl refl)), w.2),
      λ w. both w.0 w.1 i w.2,
    )

    group-is-part : ConnectedPart L a
    group-is-part =
        let s = group-some n ks m in
        let w = (ranks-are s.0).0 s.1 in
        record {
          link = w.0;
          has = w.1;
          ranks = ranks-are;
          links = links-are;
          joined = λ i j p q.
              own-walk (λ x o k h e. let c = whole x o k ((is k).1 h) (over ((is k).1 h) e (inl refl)) in (c, both k c))
              (path-walk ((group-part n ks m i j p).0 q).2) p;
          ascending = group-rising n ks m;
          by-region = group-pairs n ks rising m;
        }

  -- the computed groups are just the connected parts
  pub parts-iff : (a : LinkGroup) → Memᴰ a (groups_of n ks) ↔ ConnectedPart L a
  parts-iff a = (λ m. group-is-part m, from)
    where
      from : ConnectedPart L a → Memᴰ a (groups_of n ks)
      from p =
          let i = p.link.first in
          let mine = (p.ranks i).1 (p.link, p.has, inl refl) in
          let h = (is p.link).1 (part-link p p.link p.has) in
          let b = group-covers n ks i (inside p.link h).0 (joined n ks h).0 in
          subst (λ (x : LinkGroup). Memᴰ x (groups_of n ks)) (part_same (group-is-part b.1) p i b.2 mine) b.1
