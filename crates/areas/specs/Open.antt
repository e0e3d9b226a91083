-- The open steps of a map, in a byte a cell: bit k says whether a step that no span cuts leads from the cell in direction 5 + k. These four directions
-- lead to later cells, so that each step has its bit at its earlier cell.
use Rattle.std.specs.Prelude.{Bool, cond, not, ◌&&◌, List, map, ℕ, ◌+◌, ◌*◌, ◌-◌, ◌/◌, ◌%◌, ◌^◌, eqb, length, get_or}
use Rattle.order.specs.Lists.{keep, gather, up_from, has}
use Rattle.position.specs.declared.Span.{Span}
use Rattle.graph.specs.Path.{Edge}
use Rattle.grid.specs.Cells.{Grid}
use Rattle.grid.specs.Steps.{has_step, neighbour, step_of}
use Rattle.areas.specs.Cuts.{is_cut}

-- direction 5 + k is in the set, and a step that no span cuts leads from the cell in it
unfoldable pub is_open : List ℕ → Grid → List Span → ℕ → ℕ → Bool
unfolding is_cut has_step has
is_open dirs g ss i k = has (5 + k) dirs && (has_step g i (5 + k) && not (is_cut g ss (step_of i (neighbour g i (5 + k)))))

abbrev pub bit_of : Bool → ℕ
bit_of b = cond b 1 0

-- the byte of a cell
unfoldable pub open_byte : List ℕ → Grid → List Span → ℕ → ℕ
unfolding is_open
open_byte dirs g ss i =
    bit_of (is_open dirs g ss i 0) + 2 * bit_of (is_open dirs g ss i 1) + 4 * bit_of (is_open dirs g ss i 2) + 8 * bit_of (is_open dirs g ss i 3)

-- how many cells later the cell in direction 5 + k is, on a map of the given width: to the right; below to the left, below, below to the right
unfoldable pub later : ℕ → ℕ → ℕ
later width k = cond (eqb k 0) 1 (width + k - 2)

-- bit k of a byte
abbrev pub bit_at : ℕ → ℕ → Bool
bit_at b k = eqb (b / 2 ^ k % 2) 1

-- the steps that the byte of cell i names
unfoldable pub named_from : ℕ → ℕ → ℕ → List Edge
unfolding later keep
named_from width b i = map (λ k. step_of i (i + later width k)) (keep (bit_at b) (up_from 0 4))

-- the steps that bytes name, one a cell
unfoldable pub named : ℕ → List ℕ → List Edge
unfolding named_from gather
named width bytes = gather (λ i. named_from width (get_or bytes i 0) i) (up_from 0 (length bytes))
