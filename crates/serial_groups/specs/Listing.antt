-- The boundaries of a listing by rank. All rules of this crate are over the listing.
use Rattle.std.specs.Prelude.{List, [], map, ℕ, get_or}
use Rattle.position.specs.declared.PixelPosition.{PixelPosition}
use Rattle.position.specs.declared.Span.{Span}
use Rattle.format.specs.Values.{Boundary}
use Rattle.context.specs.Listing.{Item}

abbrev pub no_position : PixelPosition
no_position = record { x = 0; y = 0 }

abbrev pub no_span : Span
no_span = record { a = no_position; b = no_position }

abbrev pub no_item : Item
no_item = record {
  boundary = record { ends = no_span; bits = 0; ramp = record { end = 0; lower = 0; upper = 0; id = 0 }; sources = []; observations = [] };
  span = no_span;
}

module _ (l : List Item) where
  -- the spans, by rank
  abbrev pub spans_of : List Span
  spans_of = map (λ (i : Item). i.span) l

  -- the boundary of a rank, its own ends and its width bits
  abbrev pub boundary_at : ℕ → Boundary
  boundary_at i = (get_or l i no_item).boundary

  abbrev pub ends_at : ℕ → Span
  ends_at i = (boundary_at i).ends

  abbrev pub bits_at : ℕ → ℕ
  bits_at i = (boundary_at i).bits
