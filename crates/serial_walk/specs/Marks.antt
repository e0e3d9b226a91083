-- What the walk answers: a mark for each boundary, by the definition of a bridge.
use Rattle.std.specs.Prelude.{cond, List, ℕ}
use Rattle.graph.specs.Records.{Record}
use Rattle.graph.specs.Bridges.{is_bridge}
use Rattle.lists.specs.Rows.{rows}

-- for each of n boundaries 1 if it is a bridge of the records, 0 if it is none
unfoldable pub bridge_marks : List Record → ℕ → List ℕ
bridge_marks rs n = rows n (λ b. cond (is_bridge rs b) 1 0)
