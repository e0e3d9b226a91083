-- There is a list of merges, and each can be carried out.
use mathlib.Core.Path.{◌≡◌, refl, sym, ◌∙◌, ap}
use mathlib.Core.Bool.{true, not}
use mathlib.Core.List.Memᴰ
use mathlib.Core.List.{List, [], ◌∷◌, map, reverse_aux, Memᴰ, Permᴰ}
use mathlib.Core.List.Permᴰ
use native.Mathlib.Omega.{arith}
use lib.ListN.{length}
use Rattle.order.specs.Keys.{by_key}
use Rattle.order.specs.Pairs.{Pairs}
use Rattle.order.proofs.Bools.{and_both}
use Rattle.order.proofs.Members.{perm-mem}
use Rattle.order.proofs.Keep.{mem-keep}
use Rattle.order.proofs.Numbers.{mem_up, mem-has}
use Rattle.order.proofs.Keys.{key-preorder}
use Rattle.order.proofs.Stable.{le_refl}
use Rattle.format.specs.Values.{Boundary}
use Rattle.context.specs.Listing.{ends_key}
use Rattle.serial_merging.specs.Copies.{canon}
use Rattle.serial_merging.specs.Consolidation.{consolidate}
use Rattle.serial_merging.specs.Groups.{Group, Groups, no_groups, all_groups, in_any, unmerged, WellGrouped}
use Rattle.serial_merging.specs.Kept.{copy_at, consolidated}
use Rattle.serial_merging.specs.Follows.{replaced}
use Rattle.serial_merging.specs.Merging.{is_member, taken, left, MergeStep, Merges, done, merge, MergeList}
use Rattle.serial_merging.proofs.Lists.{perm-eq}
use Rattle.serial_merging.proofs.Copies.{key-canon}
use Rattle.serial_merging.proofs.Groups.{retained-below, outside, any_false, well-perm, Next, next_of}
use Rattle.serial_merging.proofs.Ends.{Unlike}
use Rattle.serial_merging.proofs.Merges.{member-canon, member-at, step, start, turned_round}

pub first-list : (gs : Groups) → MergeList gs (all_groups gs)
unfolding all_groups
first-list gs = record { first = gs.serial; second = gs.flat; whole = refl; serials = Permᴰ.refl gs.serial; flats = Permᴰ.refl gs.flat }

-- A list of merges names each group once.
pub list-perm : {gs : Groups} {ms : List Group} → MergeList gs ms → Permᴰ ms (all_groups gs)
unfolding all_groups
list-perm {gs} m = Permᴰ.trans (perm-eq m.whole)
    (Permᴰ.trans (Permᴰ.append_right m.second m.serials) (Permᴰ.append_left gs.serial m.flats))

-- "without such groups it is empty"
pub empty-list : {ms : List Group} → MergeList no_groups ms → ms ≡ []
unfolding all_groups
empty-list {ms} m = go ms (list-perm m)
  where
    go : (ms : List Group) → Permᴰ ms [] → ms ≡ []
    go [] p = refl
    go (g ∷ gs) p = absurd (Memᴰ.not-nil (perm-mem p (Memᴰ.head refl)))

module _ (copies : List Boundary) (unlike : Pairs Unlike copies) where
  module _ (g : Group) (ds : List Group) (next : Next (length copies) g ds) (before : List Boundary)
      (inv : Permᴰ (map canon before) (replaced copies ds)) where
    there : Memᴰ (copy_at copies g.retained) (replaced copies ds)
    unfolding replaced unmerged
    there = Memᴰ.append_right (map (consolidated copies) ds) (Memᴰ.map (copy_at copies) (mem-keep (λ i. not (in_any ds i))
        (mem_up 0 (length copies) g.retained (omega arith) (let k = retained-below next.good in omega arith))
        (ap not (any_false g.retained ds (λ h m. outside g h (next.apart h m) g.retained next.good.mine)))))

    a-step : (after : List Boundary) × MergeStep copies g before after
    unfolding taken
    a-step =
        let r = Memᴰ.of_map canon before (perm-mem (Permᴰ.symm inv) there) in
        let e : ends_key r.0 ≡ ends_key (copy_at copies g.retained) = sym (key-canon r.0) ∙ ap ends_key r.2 in
        let alike : by_key ends_key (copy_at copies g.retained) (copy_at copies g.retained) ≡ true =
        le_refl (key-preorder ends_key) (copy_at copies g.retained) in
        let m : is_member copies g r.0 ≡ true = sym (member-canon copies g r.0)
        ∙ (ap (is_member copies g) r.2
        ∙ (member-at copies unlike g next.good g.retained (retained-below next.good) ∙ mem-has g.retained g.ranks next.good.mine)) in (
          consolidate (canon r.0) (map canon (taken copies g before)) ∷ left copies g before,
          record { retained = r.0; there = mem-keep (is_member copies g) r.1 m; named = rw e (and_both alike alike); placed = Permᴰ.refl _ },
        )

  steps-after : (ds : List Group) (before : List Boundary) (ms : List Group) → Permᴰ (map canon before) (replaced copies ds)
      → WellGrouped (length copies) (reverse_aux ms ds) → (after : List Boundary) × Merges copies before ms after
  steps-after ds before [] inv w = (before, done)
  steps-after ds before (g ∷ gs) inv w =
      let n = next_of g gs ds w in
      let s = a-step g ds n before inv in
      let t = steps-after (g ∷ ds) s.0 gs (step copies unlike g ds n before inv s.1) w in
      (t.0, merge s.1 t.1)

  pub steps : (before : List Boundary) (ms : List Group) {gs : List Group} → Permᴰ ms gs → WellGrouped (length copies) gs
      → Permᴰ (map canon before) copies → (after : List Boundary) × Merges copies before ms after
  steps before ms p well b = steps-after [] before ms (Permᴰ.trans b (start copies)) (well-perm (Permᴰ.symm (turned_round p)) well)
