-- The cell at a position. Document 01: "Off the map there is no cell."
use Rattle.std.specs.Prelude.{cond, ◌&&◌, List, ℕ, ltb, length, get_or, Option, Some, None}
use Rattle.position.specs.declared.WalkPosition.{WalkPosition}
use Rattle.grid.specs.Cells.{Grid, index_of}

-- its number in row order
unfoldable pub index_at : Grid → WalkPosition → Option ℕ
index_at g p = cond (ltb p.x g.width && ltb p.y g.height) (Some (index_of g p.x p.y)) None

-- the byte at a place, where there is one
abbrev pub byte_at : List ℕ → ℕ → Option ℕ
byte_at cs i = cond (ltb i (length cs)) (Some (get_or cs i 0)) None

abbrev pub byte_of : List ℕ → Option ℕ → Option ℕ
byte_of cs None = None
byte_of cs (Some i) = byte_at cs i

-- its byte
unfoldable pub cell_on : Grid → WalkPosition → Option ℕ
unfolding index_at
cell_on g p = byte_of g.cells (index_at g p)
