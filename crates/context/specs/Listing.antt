-- The canonical listing of boundaries with their spans: 001's `compare_boundaries`, stably. The rules are stated over it, and a
-- boundary's rank is its place in it.
use Rattle.std.specs.Prelude.{List, [], ◌∷◌, ℕ}
use Rattle.order.specs.Keys.{sort_by}
use Rattle.position.specs.Order.{canonical}
use Rattle.position.specs.declared.Span.{Span}
use Rattle.format.specs.Values.{Boundary}

-- "PixelPosition, ordered by column, then row": the first end, then the second.
unfoldable pub span_key : Span → List ℕ
span_key s = s.a.x ∷ s.a.y ∷ s.b.x ∷ s.b.y ∷ []

-- "ordered by canonical ends"
unfoldable pub ends_key : Boundary → List ℕ
unfolding span_key canonical
ends_key b = span_key (canonical b.ends)

-- "span i belongs to boundary i and moves with it"
pub record Item : Type 0 where
  pub boundary : Boundary
  pub span : Span

abbrev pub item_key : Item → List ℕ
item_key i = ends_key i.boundary

-- "ordered by canonical ends, equal ones by input order"
abbrev pub listing : List Item → List Item
listing items = sort_by item_key items
