-- The rules' groups are well formed, for all_groups job, direction set and limits; so what is proved of any rules holds of them.
use mathlib.Core.Path.{◌≡◌, sym}
use mathlib.Core.List.Memᴰ
use mathlib.Core.List.{List, map, map-append, Memᴰ}
use Prim.Native.Nat.{ℕ}
use lib.ListN.{length}
use Rattle.order.specs.Pairs.{Pairs}
use Rattle.order.proofs.Pairs.{pairs-map}
use Rattle.format.specs.Values.{Job}
use Rattle.context.specs.Anchors.{anchors_of}
use Rattle.context.specs.Listing.{Item}
use Rattle.serial_links.specs.Limits.{Limits}
use Rattle.serial_groups.specs.Serial.{serial_groups}
use Rattle.serial_groups.specs.Flat.{flat_groups, accepted}
use Rattle.serial_groups.proofs.Accepted.{groups-disjoint, accepted-rising, accepted-below}
use Rattle.serial_groups.proofs.Plan.{accepted-retained}
use Rattle.serial_merging.specs.Groups.{Group, all_groups, Good, Disjoint, WellGrouped}
use Rattle.serial_merging.specs.Runs.{Run, groups_of, kept_of}
use Rattle.serial_merging.specs.Follows.{Follows}
use Rattle.serial_merging.specs.Relisted.{Relisted, DistinctEnds}
use Rattle.serial_merging.specs.Demand.{Independent}
use Rattle.serial_merging.proofs.Independence.{kept-follows, demand-three}
use Rattle.results.specs.Rules.{grid_of, group_of, rules_on, rules_of}

module _ (limits : Limits) (dirs : List ℕ) (j : Job) where
  pub every-group : (l : List Item) → all_groups (rules_of limits dirs j l) ≡ map (group_of limits l) (accepted limits dirs (grid_of j) (anchors_of j.bases) l)
  unfolding all_groups rules_on accepted
  every-group l = sym (map-append (group_of limits l) (serial_groups limits dirs (grid_of j) (anchors_of j.bases) l)
      (flat_groups limits dirs (grid_of j) (anchors_of j.bases) l))

  pub rules-well : (l : List Item) → WellGrouped (length l) (all_groups (rules_of limits dirs j l))
  rules-well l = rw every-group (record { good = good; apart = apart })
    where
      good : (g : Group) → Memᴰ g (map (group_of limits l) (accepted limits dirs (grid_of j) (anchors_of j.bases) l)) → Good (length l) g
      good g m =
          let w = Memᴰ.of_map (group_of limits l) (accepted limits dirs (grid_of j) (anchors_of j.bases) l) m in
          rw (sym w.2) (record {
            ascending = accepted-rising limits dirs (grid_of j) (anchors_of j.bases) l w.1;
            below = accepted-below limits dirs (grid_of j) (anchors_of j.bases) l w.1;
            mine = accepted-retained limits dirs (grid_of j) (anchors_of j.bases) l w.1;
          })

      apart : Pairs Disjoint (map (group_of limits l) (accepted limits dirs (grid_of j) (anchors_of j.bases) l))
      apart = pairs-map (group_of limits l) (λ a b d. d) (groups-disjoint limits dirs (grid_of j) (anchors_of j.bases) l)

  -- "the list follows the merging rules"
  pub list-follows : (r : Run) → Follows r.boundaries (all_groups (groups_of (rules_of limits dirs j) r)) (kept_of (rules_of limits dirs j) r)
  list-follows = kept-follows (rules_of limits dirs j) rules-well

  -- Demand 3 for these rules.
  pub listing-independent : (a b : Run) → DistinctEnds a.boundaries → Relisted a b → Independent (rules_of limits dirs j) a b
  listing-independent = demand-three (rules_of limits dirs j) rules-well
