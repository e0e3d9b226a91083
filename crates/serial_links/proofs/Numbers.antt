-- Distances and their sums are no NaNs.
use mathlib.Core.List.{List, [], ◌∷◌, map}
use lib.Dec.{T}
use lib.Ieee.{Float}
use Rattle.length.specs.Floats.{◌⊕◌}
use Rattle.position.specs.declared.Span.{Span}
use Rattle.serial_sums.specs.Numbers.{Number, upward}
use Rattle.serial_sums.specs.Sums.{added_to, sum_of}
use Rattle.serial_sums.proofs.Numbers.{upward-number, sum-upward, length-upward}
use Rattle.serial_links.specs.Geometry.{centre_distance, doubled_centre, squares}
use Rattle.serial_links.specs.Sums.{distance_sum}

pub added-upward : (s : Span) (x : Float) (ms : List Span) → T (upward x) → T (upward (added_to x (map (centre_distance s) ms)))
unfolding added_to
added-upward s x [] h = h
added-upward s x (m ∷ ms) h = added-upward s (x ⊕ centre_distance s m) ms
    (sum-upward x (centre_distance s m) h (length-upward (squares (doubled_centre s) (doubled_centre m))))

-- what `no_later` asks of a sum of distances
distance-upward : (s t : Span) → T (upward (centre_distance s t))
distance-upward s t = length-upward (squares (doubled_centre s) (doubled_centre t))

pub distance-sum-number : (s m : Span) (ms : List Span) → Number (distance_sum s (m ∷ ms))
unfolding distance_sum sum_of
distance-sum-number s m ms = upward-number (added_to (centre_distance s m) (map (centre_distance s) ms))
    (added-upward s (centre_distance s m) ms (distance-upward s m))
