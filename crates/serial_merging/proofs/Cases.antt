-- Small runs, by computing.
use mathlib.Core.Path.{◌≡◌, refl, ◌∙◌, ap}
use mathlib.Core.List.Memᴰ
use mathlib.Core.List.{List, [], ◌∷◌, map, flat_map, Memᴰ}
use Prim.Native.Nat.{ℕ, ◌<◌}
use native.Mathlib.Omega.{arith}
use lib.ListN.{length, get_or}
use Rattle.order.specs.Sorting.{sort, insert, sort_once, include}
use Rattle.order.specs.Keys.{lex_le}
use Rattle.order.specs.Lists.{gather, up_from, has}
use Rattle.order.specs.Pairs.{Pairs, more}
use Rattle.position.specs.Order.{pos_le, canonical}
use Rattle.position.specs.declared.Span.{Span}
use Rattle.format.specs.Values.{Ramp, Observation, Boundary}
use Rattle.format.specs.Encode.{sources_with, sources_of, observations_of, encode_answer}
use Rattle.format.specs.declared.records.Source.{Source}
use Rattle.format.proofs.AnswerTrip.{length-encode_answer}
use Rattle.context.specs.Listing.{Item, ends_key, span_key}
use Rattle.length.specs.Total.{total_key}
use Rattle.serial_merging.specs.Keys.{source_key, sources_key, observation_key}
use Rattle.serial_merging.specs.Copies.{canon_observation, canon, copies_of}
use Rattle.serial_merging.specs.Consolidation.{or_itself, observed, consolidate}
use Rattle.serial_merging.specs.Groups.{Group, Groups, no_groups, all_groups, Good, WellGrouped}
use Rattle.serial_merging.specs.Kept.{no_boundary, copy_at, members_of, consolidated, slot, kept}
use Rattle.serial_merging.specs.Runs.{reduce_run, groups_of, kept_of, rules_answer}
use Rattle.serial_merging.specs.Follows.{Follows}
use Rattle.serial_merging.proofs.Following.{follows, follows-unique}

abbrev span : ℕ → ℕ → ℕ → ℕ → Span
span a b c d = record { a = record { x = a; y = b }; b = record { x = c; y = d } }

abbrev source : ℕ → ℕ → Source
source a b = record { from = a; to = b }

abbrev no_ramp : Ramp
no_ramp = record { end = 0; lower = 0; upper = 0; id = 0 }

-- The bits of 8, as an f64.
abbrev eight : ℕ
eight = 0x4020_0000_0000_0000

-- The corridor of document 01's case 12.
abbrev corridor : List Boundary
corridor =
    record { ends = span 8 0 8 8; bits = eight; ramp = no_ramp; sources = source 1 2 ∷ []; observations = [] }
    ∷ record { ends = span 16 0 16 8; bits = eight; ramp = no_ramp; sources = source 2 1 ∷ []; observations = [] }
    ∷ []

-- The other boundary first, its ends swapped.
abbrev relisted : List Boundary
relisted =
    record { ends = span 16 8 16 0; bits = eight; ramp = no_ramp; sources = source 2 1 ∷ []; observations = [] }
    ∷ record { ends = span 8 0 8 8; bits = eight; ramp = no_ramp; sources = source 1 2 ∷ []; observations = [] }
    ∷ []

-- One flat group of the first two boundaries.
abbrev first_two : List Item → Groups
first_two items = record { serial = []; flat = record { ranks = 0 ∷ 1 ∷ []; retained = 0 } ∷ [] }

abbrev corridor_kept : List Boundary
corridor_kept = record {
  ends = span 8 0 8 8;
  bits = eight;
  ramp = no_ramp;
  sources = source 1 2 ∷ source 2 1 ∷ [];
  observations =
      record { ends = span 8 0 8 8; bits = eight; sources = source 1 2 ∷ [] }
      ∷ record { ends = span 16 0 16 8; bits = eight; sources = source 2 1 ∷ [] }
      ∷ [];
} ∷ []

corridor-kept : kept_of first_two (reduce_run corridor) ≡ corridor_kept
unfolding kept_of groups_of all_groups kept slot consolidated consolidate members_of observed or_itself copies_of canon canon_observation canonical pos_le
    ends_key span_key
    source_key sources_key observation_key total_key sort insert sort_once include lex_le gather up_from has
corridor-kept = refl

relisted-kept : kept_of first_two (reduce_run relisted) ≡ corridor_kept
unfolding kept_of groups_of all_groups kept slot consolidated consolidate members_of observed or_itself copies_of canon canon_observation canonical pos_le
    ends_key span_key
    source_key sources_key observation_key total_key sort insert sort_once include lex_le gather up_from has
relisted-kept = refl

-- "Job 148 bytes, answer 152."
corridor-bytes : length (rules_answer first_two (reduce_run corridor)) ≡ 152
unfolding rules_answer observations_of sources_of sources_with flat_map
corridor-bytes = ap (λ (bs : List Boundary). length (encode_answer bs)) corridor-kept ∙ length-encode_answer corridor_kept

-- Equal ends stay in input order, whichever way round they are listed.
abbrev wide : Span → ℕ → Boundary
wide ends bits = record { ends = ends; bits = bits; ramp = no_ramp; sources = []; observations = [] }

abbrev none : List Item → Groups
none items = no_groups

equal-ends : kept_of none (reduce_run (wide (span 8 8 8 0) 7 ∷ wide (span 0 0 0 8) 1 ∷ wide (span 8 0 8 8) 2 ∷ []))
    ≡ wide (span 0 0 0 8) 1 ∷ wide (span 8 0 8 8) 7 ∷ wide (span 8 0 8 8) 2 ∷ []
unfolding kept_of groups_of all_groups kept slot copies_of canon canon_observation canonical pos_le ends_key span_key source_key sources_key observation_key
    total_key sort insert sort_once include lex_le gather up_from
equal-ends = refl

-- Observations alike in ends: −1 before 1, those of one width by their sources, sorted and each once; equal ones all stay.
abbrev one : ℕ
one = 0x3FF0_0000_0000_0000

abbrev minus_one : ℕ
minus_one = 0xBFF0_0000_0000_0000

abbrev seen : ℕ → List Source → Observation
seen bits sources = record { ends = span 0 0 0 8; bits = bits; sources = sources }

abbrev with : List Observation → Boundary
with observations = record { ends = span 0 0 0 8; bits = eight; ramp = no_ramp; sources = []; observations = observations }

observations-ordered :
    canon (with (seen one (source 3 1 ∷ source 2 9 ∷ source 3 1 ∷ []) ∷ seen one (source 2 9 ∷ []) ∷ seen minus_one [] ∷ seen minus_one [] ∷ []))
    ≡ with (seen minus_one [] ∷ seen minus_one [] ∷ seen one (source 2 9 ∷ []) ∷ seen one (source 2 9 ∷ source 3 1 ∷ []) ∷ [])
unfolding canon canon_observation canonical pos_le span_key source_key sources_key observation_key total_key sort insert sort_once include lex_le
observations-ordered = refl

-- Every group is merged, each at its retained boundary's place.
abbrev two_pairs : List Item → Groups
two_pairs items = record { serial = record { ranks = 0 ∷ 3 ∷ []; retained = 3 } ∷ []; flat = record { ranks = 1 ∷ 2 ∷ []; retained = 1 } ∷ [] }

two-groups : map (λ (b : Boundary). b.bits)
    (kept_of two_pairs (reduce_run (wide (span 0 0 0 8) 1 ∷ wide (span 1 0 1 8) 2 ∷ wide (span 2 0 2 8) 3 ∷ wide (span 3 0 3 8) 4 ∷ []))) ≡ 2 ∷ 4 ∷ []
unfolding kept_of groups_of all_groups kept slot consolidated consolidate copies_of canon canon_observation canonical pos_le ends_key span_key sort insert
    lex_le gather up_from has
two-groups = refl

-- Three boundaries with equal ends, the first and the last merged into the last: what is kept follows the rules, and the list that has the merged one
-- at its group's first rank does not, for it counts as its retained member.
abbrev equals : List Boundary
equals = wide (span 0 0 0 8) 1 ∷ wide (span 0 0 0 8) 2 ∷ wide (span 0 0 0 8) 3 ∷ []

abbrev outer : Group
outer = record { ranks = 0 ∷ 2 ∷ []; retained = 2 }

outer-well : WellGrouped (length (copies_of equals)) (outer ∷ [])
unfolding copies_of canon canonical pos_le ends_key span_key sort insert lex_le
outer-well = record { good = λ g m. good g (Memᴰ.eq_of_singleton m); apart = more (λ h m. absurd (Memᴰ.not-nil m)) Pairs.none }
  where
    below : (i : ℕ) → Memᴰ i (0 ∷ 2 ∷ []) → i < 3
    below i (Memᴰ.head e) = omega arith
    below i (Memᴰ.tail (Memᴰ.head e)) = omega arith
    below i (Memᴰ.tail (Memᴰ.tail m)) = elim m [ ]

    later : (j : ℕ) → Memᴰ j (2 ∷ []) → 0 < j
    later j m = let e : j ≡ 2 = Memᴰ.eq_of_singleton m in omega arith

    ascending : Pairs (λ i j. i < j) (0 ∷ 2 ∷ [])
    ascending = more {x = 0} later (more (λ j m. absurd (Memᴰ.not-nil m)) Pairs.none)

    good : (g : Group) → g ≡ outer → Good 3 g
    good g e = rw e (record { ascending = ascending; below = below; mine = Memᴰ.tail (Memᴰ.head refl) })

abbrev at_first : List Boundary
at_first = consolidated (copies_of equals) outer ∷ copy_at (copies_of equals) 1 ∷ []

at-first-refused : Follows equals (outer ∷ []) at_first → ⊥
unfolding kept slot consolidated consolidate copies_of canon canon_observation canonical pos_le ends_key span_key sort insert lex_le gather up_from has
at-first-refused f =
    let e : at_first ≡ kept (copies_of equals) (outer ∷ []) = follows-unique equals (outer ∷ []) outer-well f (follows equals (outer ∷ []) outer-well) in
    let z : ◌≡◌ {A = ℕ} 3 2 = ap (λ (l : List Boundary). (get_or l 0 no_boundary).bits) e in
    omega arith
