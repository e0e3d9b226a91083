-- A map of cells in row order, and what the byte of a cell says.
use Rattle.std.specs.Prelude.{◌≡◌, Bool, List, ℕ, ◌+◌, ◌*◌, ◌/◌, ◌%◌, eqb, length, get_or}
use Rattle.position.specs.declared.PixelPosition.{PixelPosition}

pub record Grid : Type 0 where
  pub width : ℕ
  pub height : ℕ
  pub cells : List ℕ

-- there is a byte for each cell, and no other
abbrev pub Whole : Grid → Type 0
Whole g = length g.cells ≡ g.width * g.height

abbrev pub size : Grid → ℕ
size g = length g.cells

-- the same map with other bytes
abbrev pub with_cells : Grid → List ℕ → Grid
with_cells g cs = record { width = g.width; height = g.height; cells = cs }

-- the byte of a cell; "off the map there is no cell": 0, which is blocked
abbrev pub cell_at : Grid → ℕ → ℕ
cell_at g i = get_or g.cells i 0

-- "Cell, 1 byte: bit 0 walkable, 1 buildable, 2 ramp, 3 and 4 elevation"
unfoldable pub walkable : Grid → ℕ → Bool
walkable g i = eqb (cell_at g i % 2) 1

unfoldable pub buildable : Grid → ℕ → Bool
buildable g i = eqb (cell_at g i / 2 % 2) 1

unfoldable pub ramp_cell : Grid → ℕ → Bool
ramp_cell g i = eqb (cell_at g i / 4 % 2) 1

unfoldable pub elevation : Grid → ℕ → ℕ
elevation g i = cell_at g i / 8 % 4

-- the cell at a column and a row, and back
abbrev pub index_of : Grid → ℕ → ℕ → ℕ
index_of g column row = row * g.width + column

abbrev pub column_of : Grid → ℕ → ℕ
column_of g i = i % g.width

abbrev pub row_of : Grid → ℕ → ℕ
row_of g i = i / g.width

-- "Cell centres are (8c + 4, 8r + 4)"
abbrev pub centre : Grid → ℕ → PixelPosition
centre g i = record { x = 8 * column_of g i + 4; y = 8 * row_of g i + 4 }

-- a map of a width, a height and its cells
abbrev pub map_of : ℕ → ℕ → List ℕ → Grid
map_of width height cells = record { width = width; height = height; cells = cells }
