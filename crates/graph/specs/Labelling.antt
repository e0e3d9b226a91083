-- What it is to label the vertices 0, …, n - 1 by their parts.
use Rattle.std.specs.Prelude.{◌≡◌, ◌↔◌, Bool, true, false, ℕ, ◌<◌}
use mathlib.Core.List.{List, Memᴰ}
use Rattle.graph.specs.Path.{Edge, Path}

-- the edges are among the vertices that are in
abbrev pub Among : (ℕ → Bool) → List Edge → Type 0
Among on es = (e : Edge) → Memᴰ e es → (on e.left ≡ true) × (on e.right ≡ true)

-- a vertex that is out has label 0 and one that is in a label above 0; two that are in have one label exactly if a path joins them;
-- and each label smaller than a vertex's own stands at an earlier vertex: labels are 1, 2, … by first vertex
pub record Labelling (n : ℕ) (on : ℕ → Bool) (es : List Edge) (lab : ℕ → ℕ) : Type 0 where
  pub out : (i : ℕ) → i < n → on i ≡ false → lab i ≡ 0
  pub some : (i : ℕ) → i < n → on i ≡ true → 0 < lab i
  pub same : (i j : ℕ) → i < n → j < n → on i ≡ true → on j ≡ true → (lab i ≡ lab j) ↔ Path es i j
  pub order : (i : ℕ) → i < n → (v : ℕ) → 0 < v → v < lab i → (j : ℕ) × (j < i) × (lab j ≡ v)
