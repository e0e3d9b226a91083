-- Groups by arrays: rs are the ranks of a group, js the numbers of its links.
use Rattle.std.specs.Prelude.{Bool, ◌&&◌, List, map, ℕ, suc, Float, length, get_or}
use Rattle.std.proofs.Math.Bool.{not}
use Rattle.std.proofs.Math.Dec.{leb, eqb}
use Rattle.std.specs.Float.{binary64}
use Rattle.std.specs.Float.Ieee.{le, of_bits}
use Rattle.areas.specs.Assessments.{region_pair}
use Rattle.lists.specs.Rows.{at}
use Rattle.order.specs.Lists.{keep}
use Rattle.order.specs.Sorting.{sort}
use Rattle.length.specs.Floats.{◌⊕◌}
use Rattle.length.specs.Total.{total_le}
use Rattle.length.specs.declared.Length.{Length}
use Rattle.areas.specs.Spans.{span_in}
use Rattle.context.specs.FullPair.{other_region}
use Rattle.serial_links.specs.Limits.{Limits}
use Rattle.serial_links.specs.Geometry.{squares, centre_distance, centre_length}
use Rattle.serial_links.specs.Parallel.{nearby_parallel}
use Rattle.serial_sums.specs.Sums.{added_to, sum_of, no_later, ascending_sum}
use Rattle.serial_sums.specs.Totals.{all_exact}
use Rattle.serial_links.specs.Sums.{distance_sum, distance_total}
use Rattle.order.specs.Tests.{every}
use Rattle.serial_plan.specs.Arrays.{is_on, joins_at}

module _ (firsts seconds : List ℕ) where
  -- how many of the links join a rank
  abbrev pub degree_in : List ℕ → ℕ → ℕ
  degree_in js i = length (keep (joins_at firsts seconds i) js)

  -- the ranks of degree 1
  unfoldable pub ends_in : List ℕ → List ℕ → List ℕ
  unfolding keep
  ends_in rs js = keep (λ i. eqb (degree_in js i) 1) rs

  -- each has degree 1 or 2
  unfoldable pub regular_in : List ℕ → List ℕ → Bool
  unfolding every keep
  regular_in rs js = every (λ i. leb 1 (degree_in js i) && leb (degree_in js i) 2) rs

  -- the centre distance of a link's two ranks
  abbrev pub gap_in : List ℕ → ℕ → Float
  gap_in own k = centre_distance (span_in own (at firsts k)) (span_in own (at seconds k))

  unfoldable pub chain_in : List ℕ → List ℕ → Float
  unfolding ascending_sum sum_of added_to sort total_le squares span_in
  chain_in own js = ascending_sum (map (gap_in own) js)

  -- the same with their marks
  abbrev pub gap_length_in : List ℕ → ℕ → Length
  gap_length_in own k = centre_length (span_in own (at firsts k)) (span_in own (at seconds k))

  abbrev pub chain_total_in : List ℕ → List ℕ → Length
  chain_total_in own js = record { value = chain_in own js; exact = all_exact (map (gap_length_in own) js) }

module _ (lowers highers regions firsts seconds : List ℕ) where
  -- the region on the other side of an end
  unfoldable pub outer_in : List ℕ → ℕ → ℕ
  unfolding keep other_region
  outer_in js i = other_region (region_pair (at lowers i) (at highers i)) (at regions (get_or (keep (joins_at firsts seconds i) js) 0 0))

  unfoldable pub path_in : ℕ → ℕ → List ℕ → List ℕ → Bool
  unfolding ends_in regular_in outer_in
  path_in least most rs js =
      ((leb least (length rs) && leb (length rs) most)
      && ((eqb (suc (length js)) (length rs) && eqb (length (ends_in firsts seconds rs js)) 2) && regular_in firsts seconds rs js))
      && not (eqb (outer_in js (get_or (ends_in firsts seconds rs js) 0 0)) (outer_in js (get_or (ends_in firsts seconds rs js) 1 0)))

module _ (limits : Limits) (own : List ℕ) where
  abbrev pub alike_in : ℕ → ℕ → Bool
  alike_in i j = nearby_parallel limits (span_in own i) (span_in own j)

  -- every ordered pair of ranks is nearby and parallel
  unfoldable pub all_alike_in : List ℕ → Bool
  unfolding every nearby_parallel span_in
  all_alike_in rs = every (λ i. every (alike_in i) rs) rs

-- the least of the ranks' width bits
unfoldable pub least_in : List ℕ → List ℕ → ℕ
unfolding sort total_le
least_in bits rs = get_or (sort total_le (map (at bits) rs)) 0 0

-- the sum of a rank's distances to the ranks
unfoldable pub sum_in : List ℕ → List ℕ → ℕ → Float
unfolding distance_sum sum_of added_to squares span_in
sum_in own rs i = distance_sum (span_in own i) (map (span_in own) rs)

-- the same with its mark
abbrev pub sum_total_in : List ℕ → List ℕ → ℕ → Length
sum_total_in own rs i = record { value = sum_in own rs i; exact = (distance_total (span_in own i) (map (span_in own) rs)).exact }

unfoldable pub nearer_in : List ℕ → List ℕ → ℕ → ℕ → Bool
unfolding sum_in total_le
nearer_in own rs i j = no_later (sum_in own rs i) (sum_in own rs j)

-- no wider than the least width and the tolerance
abbrev pub fine_in : Limits → List ℕ → Float → ℕ → Bool
fine_in limits bits least i = le (of_bits binary64 (at bits i)) (least ⊕ limits.width)

unfoldable pub eligible_in : Limits → List ℕ → List ℕ → List ℕ
unfolding keep least_in
eligible_in limits bits rs = keep (fine_in limits bits (of_bits binary64 (least_in bits rs))) rs

unfoldable pub retained_in : Limits → List ℕ → List ℕ → List ℕ → ℕ
unfolding eligible_in nearer_in sort
retained_in limits own bits rs = get_or (sort (nearer_in own rs) (eligible_in limits bits rs)) 0 (get_or rs 0 0)

-- both ranks are marked
abbrev pub both_on : List ℕ → ℕ → ℕ → Bool
both_on marks i j = is_on marks i && is_on marks j

-- the link is marked, no group has its ranks, and the first is alike to the second
abbrev pub flat_link_in : Limits → List ℕ → List ℕ → ℕ → ℕ → ℕ → Bool
flat_link_in limits own into flat i j = eqb flat 1 && ((eqb (at into i) 256 && eqb (at into j) 256) && nearby_parallel limits (span_in own i) (span_in own j))
