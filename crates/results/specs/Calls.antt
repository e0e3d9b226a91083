-- The calls: eight directions; of Reduce and Reduce by list, the limits of the block that they are lent.
use Rattle.std.specs.Prelude.{List, ℕ}
use Rattle.grid.specs.Directions.{eight}
use Rattle.results.specs.Results.{Outcome, reduce_with, reduce_by_list_with, mark_with, cards_with}

unfoldable pub reduce_result : List ℕ → List ℕ → List ℕ → List ℕ → Outcome
unfolding reduce_with
reduce_result job thresholds work answer = reduce_with eight job thresholds work answer

unfoldable pub reduce_by_list_result : List ℕ → List ℕ → List ℕ → List ℕ → List ℕ → Outcome
unfolding reduce_by_list_with
reduce_by_list_result job list thresholds work answer = reduce_by_list_with eight job list thresholds work answer

unfoldable pub mark_result : List ℕ → List ℕ → List ℕ → Outcome
unfolding mark_with
mark_result job work marks = mark_with eight job work marks

unfoldable pub cards_result : List ℕ → List ℕ → List ℕ → Outcome
unfolding cards_with
cards_result job work cards = cards_with eight job work cards
