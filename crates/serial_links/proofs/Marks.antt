-- Lengths with their marks: the values are those of the unmarked definitions, so that nothing that is summed or compared moves.
use mathlib.Core.Path.{◌≡◌, refl, sym, ap}
use mathlib.Core.List.{List, map, map-map}
use Rattle.position.specs.declared.PixelPosition.{PixelPosition}
use Rattle.position.specs.declared.Span.{Span}
use Rattle.serial_sums.specs.Sums.{sum_of}
use Rattle.serial_sums.specs.Totals.{length_value, total_of}
use Rattle.serial_links.specs.Geometry.{DoubledPoint, distance, point_distance, centre_distance, length_between, point_length, centre_length}
use Rattle.serial_links.specs.Sums.{distance_sum, distance_total}

pub values_same : (p q : DoubledPoint) (a b : PixelPosition) (s t : Span) (members : List Span)
    → ((length_between p q).value ≡ distance p q)
    × ((point_length a b).value ≡ point_distance a b)
    × ((centre_length s t).value ≡ centre_distance s t)
    × ((distance_total s members).value ≡ distance_sum s members)
values_same p q a b s t members = (refl, refl, refl, refl)

-- the sum of a member's distances is the total of their lengths, in their order
pub distance-total-is : (s : Span) (members : List Span) → distance_total s members ≡ total_of (map (centre_length s) members)
unfolding distance_sum
distance-total-is s members =
    λ i. record { value = ap sum_of (sym (map-map length_value (centre_length s) members)) i; exact = (distance_total s members).exact }
