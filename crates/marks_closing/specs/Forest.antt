-- Parents and heights in two lists of one length, and what they say about the parts of a graph. A vertex that is its own parent is a root.
use Rattle.std.specs.Prelude.{◌≡◌, List, ℕ, ◌<◌, length}
use Rattle.lists.specs.Rows.{at}
use Rattle.graph.specs.Path.{Edge}
use Rattle.graph.specs.Parts.{component_of}

-- a parent is a vertex, and is higher than a vertex that is no root
pub record HeightTrees (parents heights : List ℕ) : Type 0 where
  pub sized : length heights ≡ length parents
  pub inside : (i : ℕ) → i < length parents → at parents i < length parents
  pub rising : (i : ℕ) → i < length parents → (at parents i ≡ i → ⊥) → at heights i < at heights (at parents i)

-- a parent is in its vertex's part
abbrev pub Along : List Edge → List ℕ → Type 0
Along es parents = (i : ℕ) → i < length parents → component_of es (at parents i) ≡ component_of es i

-- and a part has one root
pub record RootedForest (es : List Edge) (parents : List ℕ) : Type 0 where
  pub along : Along es parents
  pub one : (i j : ℕ) → i < length parents → j < length parents → at parents i ≡ i → at parents j ≡ j → component_of es i ≡ component_of es j → i ≡ j

-- r is the root above x
pub record Root (parents : List ℕ) (x r : ℕ) : Type 0 where
  pub inside : r < length parents
  pub own : at parents r ≡ r
  pub same : (es : List Edge) → Along es parents → component_of es r ≡ component_of es x
