-- Cases 2, 3 and 4 of document 01's table: a map of 2 × 1 walkable cells, whatever else their bytes say.
use Rattle.std.specs.Prelude.{◌≡◌, true, [], ◌∷◌, ℕ, ◌%◌}
use Rattle.position.specs.declared.Span.{Span}
use Rattle.graph.specs.Bridges.{is_bridge}
use Rattle.grid.specs.Cells.{Grid}
use Rattle.grid.specs.Directions.{eight}
use Rattle.areas.specs.Areas.{area_labels}
use Rattle.areas.specs.Assessments.{assess, records}

abbrev pub span_of : ℕ → ℕ → ℕ → ℕ → Span
span_of x y u v = record { a = record { x = x; y = y }; b = record { x = u; y = v } }

abbrev pub two_cells : ℕ → ℕ → Grid
two_cells m n = record { width = 2; height = 1; cells = m ∷ n ∷ [] }

-- the one span removes one step and separates it, and is a bridge
pub record Divides (g : Grid) (s : Span) : Type 0 where
  pub labels : area_labels eight g (s ∷ []) ≡ 1 ∷ 2 ∷ []
  pub removed : (assess eight g (s ∷ []) s).removed ≡ 1
  pub separated : (assess eight g (s ∷ []) s).separated ≡ 1
  pub bridge : is_bridge (records eight g (s ∷ [])) 0 ≡ true

-- it removes none
pub record Spares (g : Grid) (s : Span) : Type 0 where
  pub labels : area_labels eight g (s ∷ []) ≡ 1 ∷ 1 ∷ []
  pub removed : (assess eight g (s ∷ []) s).removed ≡ 0

pub record CutCases : Type 0 where
  -- 2: span (8,0)-(8,8): labels 1, 2; one removed, one separated; bridge
  pub case2 : (m n : ℕ) → m % 2 ≡ 1 → n % 2 ≡ 1 → Divides (two_cells m n) (span_of 8 0 8 8)
  -- 3: span (4,0)-(4,8), its ends listed either way: cut
  pub case3 : (m n : ℕ) → m % 2 ≡ 1 → n % 2 ≡ 1 → Divides (two_cells m n) (span_of 4 0 4 8) × Divides (two_cells m n) (span_of 4 8 4 0)
  -- 4: span (12,0)-(12,8): not cut, labels 1, 1
  pub case4 : (m n : ℕ) → m % 2 ≡ 1 → n % 2 ≡ 1 → Spares (two_cells m n) (span_of 12 0 12 8)
