-- What is gathered for each kept rank, and how much of the room it takes.
use Rattle.std.specs.Prelude.{◌≡◌, cond, List, ◌++◌, map, ℕ, suc, ◌+◌, ◌*◌, ◌≤◌, ◌<◌, eqb, ltb, length, get_or, take}
use Rattle.order.specs.Lists.{keep, gather, up_from}
use Rattle.order.specs.Sorting.{sort, sort_once}
use Rattle.order.specs.Keys.{sort_by}
use Rattle.format.specs.Sizes.{source_size}
use Rattle.format.specs.Decode.{source_records}
use Rattle.format.specs.declared.records.Source.{Source}
use Rattle.places.specs.Orders.{by_run}
use Rattle.serial_merging.specs.Copies.{sorted_sources}
use Rattle.serial_merging.specs.Keys.{source_key}
use Rattle.serial_merging.specs.Planned.{members}
use Rattle.answer_sorting.specs.Parts.{placed_sources}
use Rattle.answer_firsts.specs.Links.{Linked}
use Rattle.answer_firsts.specs.Firsts.{FirstSources}
use Rattle.answer_sources.specs.Laying.{sum_below, elements, own_count}
use Rattle.answer_sources.specs.Gathered.{places_from}

-- The first n elements of l are xs.
pub record Prefix (l : List ℕ) (n : ℕ) (xs : List ℕ) : Type 0 where
  pub many : n ≡ length xs
  pub there : take n l ≡ xs

-- `more` written after the first `from` elements: up to r.
pub record Appended (before : List ℕ) (from : ℕ) (more after : List ℕ) (r : ℕ) : Type 0 where
  pub long : length after ≡ length before
  pub ends : r ≡ from + length more
  pub there : take r after ≡ take from before ++ more

-- The ranks that a plan keeps, of the first n.
unfoldable pub kept_ranks : (plan : List ℕ) → ℕ → List ℕ
unfolding keep up_from
kept_ranks plan n = keep (λ i. eqb (get_or plan i 0) i) (up_from 0 n)

-- Of n ranks, those that go into rank i.
abbrev pub going : (plan : List ℕ) → ℕ → ℕ → List ℕ
going plan n i = members (λ j. get_or plan j 0) n i

-- The own sources of rank j, as they stand in the job, whose sources begin at `from`.
abbrev pub own_at : (s : List ℕ) (at from base : ℕ) (order starts : List ℕ) → ℕ → List Source
own_at s at from base order starts j = source_records s (from + get_or starts (base + get_or order j 0) 0 * source_size) (own_count s at (get_or order j 0))

-- All own sources of those of the first n ranks that go into rank i.
abbrev pub own_into : (s : List ℕ) (at from base : ℕ) (order plan starts : List ℕ) → ℕ → ℕ → List Source
own_into s at from base order plan starts n i = gather (own_at s at from base order starts) (going plan n i)

-- These, sorted, each once.
unfoldable pub own_run : (s : List ℕ) (at from base : ℕ) (order plan starts : List ℕ) → ℕ → ℕ → List Source
unfolding members gather sort_once source_key source_records
own_run s at from base order plan starts n i = sorted_sources (own_into s at from base order plan starts n i)

-- The places of what rank j observed.
abbrev pub places_at : (base : ℕ) (order firsts : List ℕ) (seen : ℕ → ℕ) (among : ℕ) → ℕ → List ℕ
places_at base order firsts seen among j = places_from base firsts seen (eqb among 1) (get_or order j 0)

-- The places of all that those observed that go into rank i, sorted.
unfoldable pub seen_run : (base : ℕ) (order plan firsts first second third starts counts keys : List ℕ) (seen : ℕ → ℕ) → ℕ → ℕ → List ℕ
unfolding members gather places_from sort by_run
seen_run base order plan firsts first second third starts counts keys seen n i =
    sort (by_run first second third starts counts keys) (gather (places_at base order firsts seen (length (going plan n i))) (going plan n i))

-- How many own sources rank j has, and how many places its observations take at most.
abbrev pub own_weight : (s : List ℕ) (at : ℕ) (order : List ℕ) → ℕ → ℕ
own_weight s at order j = own_count s at (get_or order j 0)

abbrev pub seen_weight : (order : List ℕ) (seen : ℕ → ℕ) → ℕ → ℕ
seen_weight order seen j = suc (seen (get_or order j 0))

-- A weight of those that go into rank i, and of those that go into a lower one.
abbrev pub into : (plan : List ℕ) (weight : ℕ → ℕ) → ℕ → ℕ → ℕ
into plan weight i j = cond (eqb (get_or plan j 0) i) (weight j) 0

abbrev pub lower : (plan : List ℕ) (weight : ℕ → ℕ) → ℕ → ℕ → ℕ
lower plan weight i j = cond (ltb (get_or plan j 0) i) (weight j) 0

-- The own sources of those of the first j ranks that go into rank i: each kind once, at the places with the numbers from `first` up to
-- `count`. The places before are as they were.
pub record FirstsBy (s : List ℕ) (at from base : ℕ) (order plan starts : List ℕ) (heads first i j count : ℕ) (before links owned : List ℕ) : Type 0 where
  pub firsts : FirstSources heads s from first count links owned (own_into s at from base order plan starts j i)
  pub old : (q : ℕ) → q < first → get_or owned q 0 ≡ get_or before q 0
  pub room : count ≤ first + sum_below (into plan (own_weight s at order) i) j

-- The own sources of the k kept ranks below i, whose places end at a: each one's place, how many kinds of own sources it has, and the places
-- of these, which give its own sources once they are sorted.
pub record OwnsBy (s : List ℕ) (at from base : ℕ) (order plan starts : List ℕ) (heads n i k a : ℕ) (kept owns links owned : List ℕ) : Type 0 where
  pub few : k ≤ i
  pub kept_there : Prefix kept k (map (λ j. get_or order j 0) (kept_ranks plan i))
  pub total : sum_below (elements owns) k ≡ a
  pub owned-there : (q : ℕ) → q < k
      → sort_by source_key (placed_sources s from owned (sum_below (elements owns) q) (get_or owns q 0)) ≡ own_run s at from base order plan starts n
      (get_or (kept_ranks plan i) q 0)
  pub inside : (q : ℕ) → q < a → from + (get_or owned q 0 + 1) * source_size ≤ length s
  pub linked : Linked heads s from a a links owned
  pub room : a ≤ sum_below (lower plan (own_weight s at order) i) n

-- The places of their observations, which end at a: how many each one has, and these.
pub record SeensBy (base : ℕ) (order plan firsts first second third starts counts keys : List ℕ) (count : ℕ → ℕ) (n i k a : ℕ) (seens seen : List ℕ) : Type
    0 where
  pub few : k ≤ i
  pub seens-there : Prefix seens k (map (λ j. length (seen_run base order plan firsts first second third starts counts keys count n j)) (kept_ranks plan i))
  pub seen-there : Prefix seen a (gather (seen_run base order plan firsts first second third starts counts keys count n) (kept_ranks plan i))
  pub room : a ≤ sum_below (lower plan (seen_weight order count) i) n

-- How many places of observations are gathered in all.
abbrev pub seen_total : (base : ℕ) (order plan firsts first second third starts counts keys : List ℕ) (count : ℕ → ℕ) → ℕ → ℕ
seen_total base order plan firsts first second third starts counts keys count n =
    length (gather (seen_run base order plan firsts first second third starts counts keys count n) (kept_ranks plan n))
