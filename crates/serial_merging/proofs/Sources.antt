-- A merge keeps the sources: the own ones, and those with the observed ones.
use mathlib.Core.Bool.{not}
use mathlib.Core.Path.{◌≡◌, ap}
use mathlib.Core.Logic.{⊎_elim}
use mathlib.Core.List.{List, [], ◌∷◌, ◌++◌, map, Memᴰ}
use mathlib.Core.List.Permᴰ
use mathlib.Core.List.{Permᴰ}
use Prim.Native.Nat.{ℕ}
use native.Mathlib.Omega.{arith}
use lib.ListN.{length}
use Rattle.order.specs.Keys.{by_key}
use Rattle.order.specs.Lists.{gather, up_from}
use Rattle.order.specs.Pairs.{SameMembers}
use Rattle.order.proofs.Members.{get_d-mem, mem-get_d, perm-members, members-sym, members-trans}
use Rattle.order.proofs.Keep.{keep-mem, mem-keep, keep-split}
use Rattle.order.proofs.Bools.{by-test}
use Rattle.order.proofs.Numbers.{up_mem, mem_up}
use Rattle.order.proofs.Gather.{gather_append, gather-mem, mem-gather, gather-perm}
use Rattle.order.proofs.Sort.{sort-perm}
use Rattle.order.proofs.Once.{once-members}
use Rattle.format.specs.Values.{Observation, Boundary}
use Rattle.format.specs.Encode.{sources_with, sources_of}
use Rattle.format.specs.declared.records.Source.{Source}
use Rattle.serial_merging.specs.Keys.{observation_key}
use Rattle.serial_merging.specs.Copies.{sorted_observations, canon_observation, canon, copies_of}
use Rattle.serial_merging.specs.Consolidation.{or_itself, observed, consolidate}
use Rattle.serial_merging.specs.Groups.{Group, in_any, unmerged, WellGrouped}
use Rattle.serial_merging.specs.Kept.{no_boundary, copy_at, members_of, consolidated, kept}
use Rattle.serial_merging.specs.Follows.{replaced}
use Rattle.serial_merging.specs.Merging.{is_member, taken, left, MergeStep, Merges, done, merge, Throughout}
use Rattle.serial_merging.specs.Sources.{own_sources, SameSources}
use Rattle.serial_merging.proofs.Lists.{members-refl, members-eq, append-members, flat-gather, gather-changed}
use Rattle.serial_merging.proofs.Copies.{source-order}
use Rattle.serial_merging.proofs.Groups.{any-group}
use Rattle.serial_merging.proofs.Kept.{kept_whole}
use Rattle.serial_merging.proofs.Listings.{copies-perm}

-- What keeps its members under canonical copies and consolidation keeps them under a merge, and in what is kept.
module _ (q : Boundary → List Source) (copied : (b : Boundary) → SameMembers (q (canon b)) (q b))
    (merged : (r : Boundary) (ms : List Boundary) → SameMembers (q (consolidate r ms)) (gather q ms)) where
  step-members : {copies : List Boundary} {g : Group} {before after : List Boundary} → MergeStep copies g before after
      → SameMembers (gather q before) (gather q after)
  unfolding taken left gather
  step-members {copies} {g} {before} s =
      members-trans (perm-members (gather-perm q (keep-split (is_member copies g) before)))
      (members-trans (members-eq (gather_append q (taken copies g before) (left copies g before)))
      (members-trans (append-members
      (members-trans (members-sym (gather-changed q canon copied (taken copies g before)))
      (members-sym (merged (canon s.retained) (map canon (taken copies g before))))) (members-refl (gather q (left copies g before))))
      (perm-members (gather-perm q (Permᴰ.symm s.placed)))))

  module _ (copies : List Boundary) (gs : List Group) (well : WellGrouped (length copies) gs) where
    group-members : (g : Group) → Memᴰ g gs → (x : Source) → Memᴰ x (q (consolidated copies g)) → Memᴰ x (gather q copies)
    unfolding consolidated members_of
    group-members g k x m =
        let r = gather-mem q (members_of copies g) ((merged (copy_at copies g.retained) (members_of copies g) x).0 m) in
        let i = mathlib.Core.List.Memᴰ.of_map (copy_at copies) g.ranks r.1 in
        mem-gather q (get_d-mem copies no_boundary i.0 ((well.good g k).below i.0 i.1)) (rw i.2 r.2)

    members-group : (g : Group) (i : ℕ) → Memᴰ i g.ranks → (x : Source) → Memᴰ x (q (copy_at copies i)) → Memᴰ x (q (consolidated copies g))
    unfolding consolidated members_of
    members-group g i k x m = (merged (copy_at copies g.retained) (members_of copies g) x).1 (mem-gather q (mathlib.Core.List.Memᴰ.map (copy_at copies) k) m)

    replaced-members : SameMembers (gather q (replaced copies gs)) (gather q copies)
    unfolding replaced unmerged
    replaced-members x = (
      λ m.
          let r = gather-mem q (replaced copies gs) m in
          ⊎_elim
          (λ (n : Memᴰ r.0 (map (consolidated copies) gs)). let g = mathlib.Core.List.Memᴰ.of_map (consolidated copies) gs n in
          group-members g.0 g.1 x (rw g.2 r.2))
          (λ (n : Memᴰ r.0 (map (copy_at copies) (unmerged gs (length copies)))).
          let i = mathlib.Core.List.Memᴰ.of_map (copy_at copies) (unmerged gs (length copies)) n in
          let b = up_mem 0 (length copies) (keep-mem (λ j. not (in_any gs j)) (up_from 0 (length copies)) i.1).0 in
          mem-gather q (get_d-mem copies no_boundary i.0 (omega arith)) (rw i.2 r.2))
          (mathlib.Core.List.Memᴰ.append_cases (map (consolidated copies) gs) r.1),
      λ m.
          let r = gather-mem q copies m in
          let i = mem-get_d no_boundary r.1 in
          let n : Memᴰ x (q (copy_at copies i.0)) = rw i.2 r.2 in
          by-test (in_any gs i.0)
          (λ e. let g = any-group i.0 gs e in
          mem-gather q (mathlib.Core.List.Memᴰ.append_left _ (mathlib.Core.List.Memᴰ.map (consolidated copies) g.1)) (members-group g.0 i.0 g.2 x n))
          (λ e.
          let b = i.1 in
          mem-gather q (mathlib.Core.List.Memᴰ.append_right (map (consolidated copies) gs)
          (mathlib.Core.List.Memᴰ.map (copy_at copies)
          (mem-keep (λ j. not (in_any gs j)) (mem_up 0 (length copies) i.0 (omega arith) (omega arith)) (ap not e)))) n),
    )

abbrev own : Boundary → List Source
own b = b.sources

abbrev of : Observation → List Source
of o = o.sources

own-copied : (b : Boundary) → SameMembers (canon b).sources b.sources
unfolding canon
own-copied b = once-members source-order b.sources

own-merged : (r : Boundary) (ms : List Boundary) → SameMembers (consolidate r ms).sources (gather own ms)
unfolding consolidate
own-merged r ms = once-members source-order (gather own ms)

-- A boundary's own sources, then those of its observations.
with-observed : (b : Boundary) → sources_with b ≡ b.sources ++ gather of b.observations
unfolding sources_with
with-observed b = ap (λ (k : List Source). b.sources ++ k) (flat-gather of b.observations)

sorted-members : (os : List Observation) → SameMembers (gather of (sorted_observations os)) (gather of os)
sorted-members os = members-sym (perm-members (gather-perm of (sort-perm (by_key observation_key) os)))

observation-copied : (o : Observation) → SameMembers (canon_observation o).sources o.sources
unfolding canon_observation
observation-copied o = once-members source-order o.sources

with-copied : (b : Boundary) → SameMembers (sources_with (canon b)) (sources_with b)
unfolding canon
with-copied b = rw (with-observed (canon b), with-observed b)
    (append-members (own-copied b)
    (members-trans (sorted-members (map canon_observation b.observations)) (gather-changed of canon_observation observation-copied b.observations)))

-- What a member gives: its observations' sources, or its own.
observed-with : (b : Boundary) (x : Source) → Memᴰ x (gather of (observed b)) → Memᴰ x (b.sources ++ gather of b.observations)
unfolding observed or_itself gather
observed-with b x m = go b.observations m
  where
    go : (os : List Observation) → Memᴰ x (gather of (or_itself b os)) → Memᴰ x (b.sources ++ gather of os)
    go [] n = n
    go (o ∷ os) n = mathlib.Core.List.Memᴰ.append_right b.sources n

with-given : (b : Boundary) (x : Source) → Memᴰ x (gather of b.observations) → Memᴰ x (gather of (observed b))
unfolding observed or_itself gather
with-given b x m = go b.observations m
  where
    go : (os : List Observation) → Memᴰ x (gather of os) → Memᴰ x (gather of (or_itself b os))
    go [] n = absurd (mathlib.Core.List.Memᴰ.not-nil n)
    go (o ∷ os) n = n

members-with : (ms : List Boundary) → SameMembers (gather own ms ++ gather of (gather observed ms)) (gather sources_with ms)
members-with ms x = (
  λ m. ⊎_elim
      (λ (n : Memᴰ x (gather own ms)). let k = gather-mem own ms n in
      mem-gather sources_with k.1 (rw (with-observed k.0) (mathlib.Core.List.Memᴰ.append_left _ k.2)))
      (λ (n : Memᴰ x (gather of (gather observed ms))).
      let o = gather-mem of (gather observed ms) n in
      let k = gather-mem observed ms o.1 in
      mem-gather sources_with k.1 (rw (with-observed k.0) (observed-with k.0 x (mem-gather of k.2 o.2))))
      (mathlib.Core.List.Memᴰ.append_cases (gather own ms) m),
  λ m.
      let k = gather-mem sources_with ms m in
      let n : Memᴰ x (k.0.sources ++ gather of k.0.observations) = rw (with-observed k.0) at k.2 in
      ⊎_elim (λ (h : Memᴰ x k.0.sources). mathlib.Core.List.Memᴰ.append_left _ (mem-gather own k.1 h))
      (λ (h : Memᴰ x (gather of k.0.observations)).
      let o = gather-mem of (observed k.0) (with-given k.0 x h) in
      mathlib.Core.List.Memᴰ.append_right (gather own ms) (mem-gather of (mem-gather observed k.1 o.1) o.2))
      (mathlib.Core.List.Memᴰ.append_cases k.0.sources n),
)

with-merged : (r : Boundary) (ms : List Boundary) → SameMembers (sources_with (consolidate r ms)) (gather sources_with ms)
unfolding consolidate
with-merged r ms = rw (with-observed (consolidate r ms))
    (members-trans (append-members (own-merged r ms) (sorted-members (gather observed ms))) (members-with ms))

-- Both kinds of sources, from lists gathered.
both-same : {l m : List Boundary} → SameMembers (gather own l) (gather own m) → SameMembers (gather sources_with l) (gather sources_with m) → SameSources l m
unfolding own_sources sources_of
both-same {l} {m} s t = record { own = s; all = rw (flat-gather sources_with l, flat-gather sources_with m) t }

step-sources : {copies : List Boundary} {g : Group} {before after : List Boundary} → MergeStep copies g before after → SameSources before after
step-sources s = both-same (step-members own own-copied own-merged s) (step-members sources_with with-copied with-merged s)

pub sources-canon : (l : List Boundary) → SameSources (map canon l) l
sources-canon l = both-same (gather-changed own canon own-copied l) (gather-changed sources_with canon with-copied l)

pub sources-perm : {l m : List Boundary} → Permᴰ l m → SameSources l m
sources-perm p = both-same (perm-members (gather-perm own p)) (perm-members (gather-perm sources_with p))

pub sources-refl : (l : List Boundary) → SameSources l l
sources-refl l = record { own = members-refl (own_sources l); all = members-refl (sources_of l) }

pub sources-sym : {l m : List Boundary} → SameSources l m → SameSources m l
sources-sym s = record { own = members-sym s.own; all = members-sym s.all }

pub sources-trans : {l m n : List Boundary} → SameSources l m → SameSources m n → SameSources l n
sources-trans s t = record { own = members-trans s.own t.own; all = members-trans s.all t.all }

-- At the start and after every merge.
pub through : {copies origin before after : List Boundary} {ms : List Group} → SameSources origin before → (s : Merges copies before ms after)
    → Throughout (SameSources origin) s
unfolding Throughout
through p done = p
through p (merge s more) = (p, through (sources-trans p (step-sources s)) more)

-- And in what is kept.
pub kept-sources : (bs : List Boundary) (gs : List Group) → WellGrouped (length (copies_of bs)) gs → SameSources bs (kept (copies_of bs) gs)
kept-sources bs gs w =
    let copies = copies_of bs in
    sources-trans (sources-sym (sources-canon bs))
    (sources-trans (sources-perm (copies-perm bs))
    (sources-trans (sources-sym
    (both-same (replaced-members own own-copied own-merged copies gs w) (replaced-members sources_with with-copied with-merged copies gs w)))
    (sources-perm (Permᴰ.symm (kept_whole copies gs w)))))
