-- The answer that the rules give, by the plan of the accepted groups.
use mathlib.Core.Path.{◌≡◌, refl, sym, ◌∙◌, ap}
use mathlib.Core.List.{List, [], ◌∷◌, map, Memᴰ}
use Prim.Native.Nat.{ℕ, ◌≤◌}
use borrow.Author.Tests.{eq-eqb, ne_eqb}
use lib.ListN.{length}
use Rattle.position.specs.declared.Span.{Span}
use Rattle.format.specs.Values.{Job}
use Rattle.format.specs.Encode.{encode_answer}
use Rattle.context.specs.Anchors.{anchors_of}
use Rattle.context.specs.Listing.{Item}
use Rattle.serial_links.specs.Limits.{Limits}
use Rattle.serial_groups.specs.Groups as Link
use Rattle.serial_groups.specs.Flat.{accepted}
use Rattle.serial_groups.specs.Plan.{goes_into, merge_plan}
use Rattle.serial_groups.proofs.Accepted.{accepted-two}
use Rattle.serial_merging.specs.Copies.{copies_of}
use Rattle.serial_merging.specs.Groups.{Group, no_groups, all_groups}
use Rattle.serial_merging.specs.Planned.{goes, planned}
use Rattle.serial_merging.specs.Runs.{Run, groups_of, kept_of, rules_answer}
use Rattle.serial_merging.proofs.Independence.{groups-well}
use Rattle.serial_merging.proofs.Planned.{kept-planned, planned-ext}
use Rattle.results.specs.Rules.{grid_of, listing_of, group_of, rules_of}
use Rattle.results.specs.Results.{answer_of}
use Rattle.results.proofs.Rules.{every-group, rules-well}

goes-into : (limits : Limits) (l : List Item) (hs : List Link.LinkGroup) (i : ℕ) → goes (map (group_of limits l) hs) i ≡ goes_into limits l hs i
unfolding goes goes_into
goes-into limits l [] i = refl
goes-into limits l (a ∷ hs) i = rw (goes-into limits l hs i) refl

module _ (limits : Limits) (dirs : List ℕ) (j : Job) (ss : List Span) where
  abbrev run : Run
  run = record { boundaries = j.boundaries; spans = ss }

  -- what the rules accept has two ranks or more
  pub two-all : (l : List Item) (a : Group) → Memᴰ a (all_groups (rules_of limits dirs j l)) → 2 ≤ length a.ranks
  two-all l a m =
      let n : Memᴰ a (map (group_of limits l) (accepted limits dirs (grid_of j) (anchors_of j.bases) l)) = rw (← every-group limits dirs j l) m in
      let w = mathlib.Core.List.Memᴰ.of_map (group_of limits l) (accepted limits dirs (grid_of j) (anchors_of j.bases) l) n in
      rw (sym w.2) (accepted-two limits dirs (grid_of j) (anchors_of j.bases) l w.1)

  groups-matched : length j.boundaries ≡ length ss → groups_of (rules_of limits dirs j) run ≡ rules_of limits dirs j (listing_of j ss)
  unfolding groups_of
  groups-matched e = rw (eq-eqb (length j.boundaries) (length ss) e) refl

  pub groups-unmatched : (length j.boundaries ≡ length ss → ⊥) → groups_of (rules_of limits dirs j) run ≡ no_groups
  unfolding groups_of
  groups-unmatched n = rw (ne_eqb (length j.boundaries) (length ss) n) refl

  -- spans and boundaries are alike in number
  pub matched-answer : length j.boundaries ≡ length ss
      → answer_of limits dirs j ss ≡ encode_answer
      (planned (copies_of j.boundaries) (merge_plan limits dirs (grid_of j) (anchors_of j.bases) (listing_of j ss)))
  unfolding rules_answer kept_of merge_plan
  matched-answer e =
      let l = listing_of j ss in
      let gs : groups_of (rules_of limits dirs j) run ≡ rules_of limits dirs j l = groups-matched e in
      let w = groups-well (rules_of limits dirs j) (rules-well limits dirs j) run in
      ap encode_answer (kept-planned (copies_of j.boundaries) (all_groups (groups_of (rules_of limits dirs j) run)) w (λ a m. two-all l a (rw (← gs) m))
      ∙ planned-ext (copies_of j.boundaries) _ _
      (λ i h. ap (λ hs. goes (all_groups hs) i) gs
      ∙ (ap (λ hs. goes hs i) (every-group limits dirs j l) ∙ goes-into limits l (accepted limits dirs (grid_of j) (anchors_of j.bases) l) i)))

  -- they differ in number
  pub unmatched-answer : (length j.boundaries ≡ length ss → ⊥) → answer_of limits dirs j ss ≡ encode_answer (planned (copies_of j.boundaries) (λ i. i))
  unfolding rules_answer kept_of all_groups goes
  unmatched-answer n =
      let gs = groups-unmatched n in
      let w = groups-well (rules_of limits dirs j) (rules-well limits dirs j) run in
      ap encode_answer (kept-planned (copies_of j.boundaries) (all_groups (groups_of (rules_of limits dirs j) run)) w
      (λ a m. let z : Memᴰ a [] = rw (← ap all_groups gs) m in absurd (mathlib.Core.List.Memᴰ.not-nil z))
      ∙ planned-ext (copies_of j.boundaries) _ _ (λ i h. ap (λ hs. goes (all_groups hs) i) gs))
