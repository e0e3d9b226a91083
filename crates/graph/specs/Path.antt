-- Edges between numbered vertices, and the paths over them. Vertices are cells, regions or boundaries.
use Rattle.std.specs.Prelude.{◌≡◌, ℕ}
use mathlib.Core.List.{List, Memᴰ}

-- an edge joins two vertices; which of them is called left is of no account
pub record Edge : Type 0 where
  pub left : ℕ
  pub right : ℕ

-- the edge leads from a to b, forth or back
pub data Joins (e : Edge) (a b : ℕ) : Type 0 where
  forth : e.left ≡ a → e.right ≡ b → Joins e a b
  back : e.left ≡ b → e.right ≡ a → Joins e a b

-- a path over the edges leads from the first vertex to the second
pub data Path (es : List Edge) : ℕ → ℕ → Type 0 where
  here : {a : ℕ} → Path es a a
  onward : {a b c : ℕ} {e : Edge} → Memᴰ e es → Joins e a b → Path es b c → Path es a c
