-- Sums of the distances between spans.
use Rattle.std.specs.Prelude.{List, map, Float}
use Rattle.position.specs.declared.Span.{Span}
use Rattle.length.specs.declared.Length.{Length}
use Rattle.serial_sums.specs.Sums.{sum_of}
use Rattle.serial_sums.specs.Totals.{all_exact}
use Rattle.serial_links.specs.Geometry.{centre_distance, centre_length}

-- 000's `representative`: the distances from a member's centre to those of all members, in the order in which these stand.
unfoldable pub distance_sum : Span → List Span → Float
distance_sum s members = sum_of (map (centre_distance s) members)

-- With its mark: exact exactly if each of the distances is.
abbrev pub distance_total : Span → List Span → Length
distance_total s members = record { value = distance_sum s members; exact = all_exact (map (centre_length s) members) }
