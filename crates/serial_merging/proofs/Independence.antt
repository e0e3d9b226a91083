-- What is kept follows the rules, and demand 3: independence of the listing.
use mathlib.Core.Path.{◌≡◌, sym, ◌∙◌, ap}
use mathlib.Core.Logic.{by_cases}
use mathlib.Core.List.Memᴰ
use mathlib.Core.List.{List, map}
use native.Mathlib.Decide.{ℕ_discrete}
use borrow.Author.Tests.{eq-eqb, ne_eqb}
use lib.ListN.{length, length-map}
use Rattle.order.specs.Pairs.{Pairs, none}
use Rattle.format.specs.Values.{Boundary}
use Rattle.format.specs.Encode.{encode_answer}
use Rattle.context.specs.Listing.{Item, listing}
use Rattle.serial_merging.specs.Copies.{copies_of}
use Rattle.serial_merging.specs.Groups.{Groups, all_groups, WellGrouped}
use Rattle.serial_merging.specs.Runs.{Run, items_of, canon_item, groups_of, kept_of, rules_answer}
use Rattle.serial_merging.specs.Follows.{Follows}
use Rattle.serial_merging.specs.Relisted.{Relisted, DistinctEnds}
use Rattle.serial_merging.specs.Sources.{SameSources}
use Rattle.serial_merging.specs.Demand.{Independent}
use Rattle.serial_merging.proofs.Following.{follows, follows-unique}
use Rattle.serial_merging.proofs.Ends.{Unlike, distinct-unlike}
use Rattle.serial_merging.proofs.Listings.{listing-copies, copies-perm, copies-sorted, copies_apart, relisted-copies, relisted-unlike, same-copies}
use Rattle.serial_merging.proofs.Listings.{same-groups}
use Rattle.serial_merging.proofs.Merges.{merged-exact, finished}
use Rattle.serial_merging.proofs.Exists.{first-list, list-perm, steps}
use Rattle.serial_merging.proofs.Sources.{sources-canon, sources-perm, sources-refl, sources-sym, sources-trans, through, kept-sources}

module _ (rules : List Item → Groups) (well : (items : List Item) → WellGrouped (length items) (all_groups (rules items))) where
  pub groups-well : (r : Run) → WellGrouped (length (copies_of r.boundaries)) (all_groups (groups_of rules r))
  unfolding groups_of all_groups
  groups-well r = by_cases (ℕ_discrete (length r.boundaries) (length r.spans))
      (λ e.
      let items = listing (map canon_item (items_of r)) in
      let n : length items ≡ length (copies_of r.boundaries) = sym (length-map items (λ (i : Item). i.boundary)) ∙ ap length (listing-copies r e) in
      rw (eq-eqb (length r.boundaries) (length r.spans) e, ← n) (well items))
      (λ e. rw (ne_eqb (length r.boundaries) (length r.spans) e) (record { good = λ g m. absurd (Memᴰ.not-nil m); apart = none }))

  -- Of all_groups run.
  pub kept-follows : (r : Run) → Follows r.boundaries (all_groups (groups_of rules r)) (kept_of rules r)
  unfolding kept_of
  kept-follows r = follows r.boundaries (all_groups (groups_of rules r)) (groups-well r)

  -- And no other list follows them.
  pub kept-only : (r : Run) (l : List Boundary) → Follows r.boundaries (all_groups (groups_of rules r)) l → l ≡ kept_of rules r
  kept-only r l f = follows-unique r.boundaries (all_groups (groups_of rules r)) (groups-well r) f (kept-follows r)

  pub run-sources : (r : Run) → SameSources r.boundaries (kept_of rules r)
  unfolding kept_of
  run-sources r = kept-sources r.boundaries (all_groups (groups_of rules r)) (groups-well r)

  same_kept : {a b : Run} → Pairs Unlike a.boundaries → Relisted a b → kept_of rules a ≡ kept_of rules b
  unfolding kept_of
  same_kept u h = rw (same-copies u h, same-groups rules u h)

  pub demand-three : (a b : Run) → DistinctEnds a.boundaries → Relisted a b → Independent rules a b
  unfolding rules_answer kept_of
  demand-three a b d h =
      let u = distinct-unlike d in
      let copies = copies_of b.boundaries in
      let gs = all_groups (groups_of rules b) in
      let sorted = copies-sorted b.boundaries in
      let apart = copies_apart b.boundaries (relisted-unlike h u) in
      let perm = copies-perm b.boundaries in
      record {
        answers = ap encode_answer (same_kept u h);
        merges = λ ms after m s. ap encode_answer (finished copies sorted apart gs (groups-well b) (list-perm m) perm s ∙ sym (same_kept u h));
        exact = λ ms after m s. merged-exact copies sorted apart gs (groups-well b) (list-perm m) perm s;
        came = sources-trans (sources-sym (sources-canon a.boundaries)) (sources-trans (sources-perm (relisted-copies h)) (sources-canon b.boundaries));
        during = λ ms after s. through (sources-refl b.boundaries) s;
        answered = run-sources a;
        one = first-list (groups_of rules b);
        some = λ ms m. steps copies apart b.boundaries ms (list-perm m) (groups-well b) perm;
      }
