-- What of the open bytes is left to join once the runs are: a run is cells one after another, each joined to the next by a step to the right.
use Rattle.std.specs.Prelude.{◌≡◌, Bool, cond, not, ◌&&◌, List, ◌∷◌, ℕ, zero, suc, ◌+◌, ◌*◌, ◌%◌, ◌≤◌, length, get_or}
use Rattle.lists.specs.Rows.{rows}
use Rattle.wire.specs.Bytes.{part, splice}
use Rattle.areas.specs.Open.{bit_at, bit_of}

-- the due bits of a cell of open byte v, where l is the byte of the cell before, e that of the cell below the cell before, and d that of the
-- cell below: a step is not due where runs and the step below this cell, or the one below the cell before, lead to the same cell
module _ (v l e d : ℕ) where
  abbrev pub left_due : Bool
  left_due = (bit_at v 1 && not (bit_at l 0 && bit_at l 2)) && not (bit_at v 2 && bit_at e 0)

  abbrev pub below_due : Bool
  below_due = bit_at v 2 && not ((bit_at l 0 && bit_at l 2) && bit_at e 0)

  abbrev pub right_due : Bool
  right_due = bit_at v 3 && not (bit_at v 2 && bit_at d 0)

  unfoldable pub due_of : ℕ
  due_of = 2 * bit_of left_due + 4 * bit_of below_due + 8 * bit_of right_due

-- the bytes of the cell before cell i, and of cell i
abbrev pub before_in : List ℕ → ℕ → ℕ
before_in bytes i = get_or (0 ∷ bytes) i 0

abbrev pub byte_in : List ℕ → ℕ → ℕ
byte_in bytes i = get_or bytes i 0

-- the due byte of a cell
unfoldable pub due_byte : ℕ → List ℕ → ℕ → ℕ
unfolding due_of
due_byte width bytes i = due_of (byte_in bytes i) (before_in bytes i) (before_in bytes (i + width)) (byte_in bytes (i + width))

unfoldable pub dues : ℕ → List ℕ → List ℕ
unfolding due_byte rows
dues width bytes = rows (length bytes) (due_byte width bytes)

-- the steps to the right alone
unfoldable pub runs : List ℕ → List ℕ
unfolding rows
runs bytes = rows (length bytes) (λ i. byte_in bytes i % 2)

-- the first cell of the run that a cell is in
unfoldable pub run_start : List ℕ → ℕ → ℕ
run_start bytes zero = 0
run_start bytes (suc i) = cond (bit_at (byte_in bytes i) 0) (run_start bytes i) (suc i)

-- w is s with the due bytes of the first i cells after the n open bytes, which stand from base on
pub record DueTo (n width base i : ℕ) (s w : List ℕ) : Type 0 where
  pub below : i ≤ n
  pub long : length w ≡ length s
  pub same : w ≡ splice s (base + n) (rows i (due_byte width (part s base n)))
