-- The order of positions and canonical ends. Document 01: "PixelPosition, ordered by column, then row";
-- "a, b, the earlier by 006's order first however they were listed".
use Rattle.std.specs.Prelude.{Bool, true, false, cond, ◌&&◌, leb, ltb, eqb}
use Rattle.position.specs.declared.PixelPosition.{PixelPosition}
use Rattle.position.specs.declared.Span.{Span}

-- p is no later than q: by column, then by row.
unfoldable pub pos_le : PixelPosition → PixelPosition → Bool
pos_le p q = cond (ltb p.x q.x) true (cond (ltb q.x p.x) false (leb p.y q.y))

unfoldable pub pos_same : PixelPosition → PixelPosition → Bool
pos_same p q = eqb p.x q.x && eqb p.y q.y

abbrev pub swapped : Span → Span
swapped s = record { a = s.b; b = s.a }

-- The earlier end first.
unfoldable pub canonical : Span → Span
unfolding pos_le
canonical s = cond (pos_le s.a s.b) s (swapped s)
