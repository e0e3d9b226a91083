-- Small maps, by computing; cases 2, 3 and 4 of the table.
use mathlib.Core.Path.{◌≡◌, refl, ◌∙◌, ap}
use mathlib.Core.List.{List, [], ◌∷◌}
use Prim.Native.Nat.{ℕ, zero, suc, ◌%◌}
use Rattle.order.specs.Lists.{up_from}
use Rattle.position.specs.declared.Span.{Span}
use Rattle.graph.specs.Parts.{component_of}
use Rattle.graph.specs.Labels.{count}
use Rattle.graph.specs.Records.{Record}
use Rattle.graph.specs.Bridges.{is_bridge}
use Rattle.grid.specs.Cells.{Grid, walkable}
use Rattle.grid.specs.Directions.{eight}
use Rattle.areas.specs.Areas.{area_labels, area_count, cell_count}
use Rattle.areas.specs.Assessments.{RegionPair, Assessment, assess, record_of, records}
use Rattle.areas.specs.Cases.{span_of, two_cells, Divides, Spares, CutCases}
use Rattle.areas.proofs.Walkable.{same-labels, same-assess, same-records}

-- with bytes of 1, and so with every two that are walkable
abbrev plain : Grid
plain = two_cells 1 1

module _ (m n : ℕ) (h : m % 2 ≡ 1) (k : n % 2 ≡ 1) where
  same : (i : ℕ) → walkable (two_cells m n) i ≡ walkable plain i
  unfolding walkable
  same zero = rw h
  same (suc zero) = rw k
  same (suc (suc i)) = refl

  divides : (s : Span) → Divides plain s → Divides (two_cells m n) s
  divides s p = record {
    labels = same-labels plain (m ∷ n ∷ []) refl same eight (s ∷ []) ∙ p.labels;
    removed = ap (λ (a : Assessment). a.removed) (same-assess plain (m ∷ n ∷ []) refl same eight (s ∷ []) s) ∙ p.removed;
    separated = ap (λ (a : Assessment). a.separated) (same-assess plain (m ∷ n ∷ []) refl same eight (s ∷ []) s) ∙ p.separated;
    bridge = ap (λ (rs : List Record). is_bridge rs 0) (same-records plain (m ∷ n ∷ []) refl same eight (s ∷ [])) ∙ p.bridge;
  }

  spares : (s : Span) → Spares plain s → Spares (two_cells m n) s
  spares s p = record {
    labels = same-labels plain (m ∷ n ∷ []) refl same eight (s ∷ []) ∙ p.labels;
    removed = ap (λ (a : Assessment). a.removed) (same-assess plain (m ∷ n ∷ []) refl same eight (s ∷ []) s) ∙ p.removed;
  }

cut-middle : Divides plain (span_of 8 0 8 8)
unfolding area_labels assess records is_bridge component_of count up_from
cut-middle = record { labels = refl; removed = refl; separated = refl; bridge = refl }

-- the first centre is on the line, and counts with what is left of it
cut-first : Divides plain (span_of 4 0 4 8)
unfolding area_labels assess records is_bridge component_of count up_from
cut-first = record { labels = refl; removed = refl; separated = refl; bridge = refl }

cut-first-swapped : Divides plain (span_of 4 8 4 0)
unfolding area_labels assess records is_bridge component_of count up_from
cut-first-swapped = record { labels = refl; removed = refl; separated = refl; bridge = refl }

-- the second centre is on the line, and counts with the first
spared-second : Spares plain (span_of 12 0 12 8)
unfolding area_labels assess component_of count up_from
spared-second = record { labels = refl; removed = refl }

pub cut-cases : CutCases
cut-cases = record {
  case2 = λ m n h k. divides m n h k (span_of 8 0 8 8) cut-middle;
  case3 = λ m n h k. (divides m n h k (span_of 4 0 4 8) cut-first, divides m n h k (span_of 4 8 4 0) cut-first-swapped);
  case4 = λ m n h k. spares m n h k (span_of 12 0 12 8) spared-second;
}

-- two rows of three cells, and a span on each side of the middle column
abbrev block : Grid
block = record { width = 3; height = 2; cells = 1 ∷ 1 ∷ 1 ∷ 1 ∷ 1 ∷ 1 ∷ [] }

abbrev both : List Span
both = span_of 16 16 16 0 ∷ span_of 8 0 8 16 ∷ []

abbrev pair : ℕ → ℕ → RegionPair
pair l h = record { lower = l; higher = h }

columns : area_labels eight block both ≡ 1 ∷ 2 ∷ 3 ∷ 1 ∷ 2 ∷ 3 ∷ []
unfolding area_labels component_of count up_from
columns = refl

three-areas : (area_count eight block both ≡ 3) × (cell_count (1 ∷ 2 ∷ 3 ∷ 1 ∷ 2 ∷ 3 ∷ []) 2 ≡ 2)
unfolding area_count cell_count component_of count
three-areas = (refl, refl)

-- a span cuts two straight steps and two diagonal ones, and they are one pair
one-pair : assess eight block both (span_of 16 16 16 0) ≡ record { removed = 4; separated = 4; pairs = pair 2 3 ∷ [] }
unfolding assess component_of count up_from
one-pair = refl

two_records : records eight block both ≡ record_of 0 (pair 2 3) ∷ record_of 1 (pair 1 2) ∷ []
unfolding records component_of count up_from
two_records = refl

-- a span that ends within the map removes steps and separates none
bypassed : assess eight block (span_of 8 0 8 4 ∷ []) (span_of 8 0 8 4) ≡ record { removed = 1; separated = 0; pairs = [] }
unfolding assess component_of count up_from
bypassed = refl
