-- Regions that give a link, by what arrays say.
use Rattle.std.specs.Prelude.{◌≡◌, Bool, not, ◌&&◌, ◌||◌, List, ℕ, ◌<◌, eqb, get_or}
use Rattle.areas.specs.Spans.{span_in}
use Rattle.serial_links.specs.Geometry.{squares, doubled_centre}
use Rattle.serial_links.specs.Held.{SpanBounded}

-- the rank is marked, and the region is one of its pair
abbrev pub has_region : List ℕ → List ℕ → List ℕ → ℕ → ℕ → Bool
has_region marks lowers highers r i = eqb (get_or marks i 0) 1 && (eqb r (get_or lowers i 0) || eqb r (get_or highers i 0))

-- the first n spans are of a map
pub record OwnBounded (own : List ℕ) (n : ℕ) : Type 0 where
  pub each : (i : ℕ) → i < n → SpanBounded (span_in own i)

-- if just two touch a region, they are of the first n ranks
pub record TwoBelow (count first second n : ℕ) : Type 0 where
  pub both : count ≡ 2 → (first < n) × (second < n)

-- just two touch the region, both can be linked, and their centres differ
unfoldable pub joins_two : List ℕ → List ℕ → List ℕ → List ℕ → ℕ → ℕ → ℕ → ℕ → Bool
unfolding squares span_in
joins_two own marks lowers highers r count first second =
    eqb count 2
    && ((has_region marks lowers highers r first && has_region marks lowers highers r second) && not
    (eqb (squares (doubled_centre (span_in own first)) (doubled_centre (span_in own second))) 0))
