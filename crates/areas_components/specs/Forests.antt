-- Parents in a row of u32 words at the start of lent bytes, and what they say about the parts of a graph.
use Rattle.std.specs.Prelude.{◌≡◌, List, ℕ, ◌+◌, ◌*◌, ◌≤◌, ◌<◌, length, drop}
use Rattle.graph.specs.Path.{Edge}
use Rattle.graph.specs.Parts.{component_of}
use Rattle.areas.specs.Words.{word}

-- i fits a word, the words up to i are in the bytes, and no parent comes after its vertex
pub record Usable (i : ℕ) (w : List ℕ) : Type 0 where
  pub small : i < 4294967296
  pub room : 4 * i + 4 ≤ length w
  pub falls : (j : ℕ) → j ≤ i → word w j ≤ j

-- parents p of the vertices 0, …, n - 1: none comes after its vertex, each is in its vertex's component_of, and a vertex that is its own parent is the first
-- of its component_of
pub record Forest (es : List Edge) (n : ℕ) (p : ℕ → ℕ) : Type 0 where
  pub falls : (i : ℕ) → i < n → p i ≤ i
  pub along : (i : ℕ) → i < n → component_of es (p i) ≡ component_of es i
  pub top : (i : ℕ) → i < n → p i ≡ i → component_of es i ≡ i

-- the bytes past the first n words are as they were
pub record Kept (n : ℕ) (s w : List ℕ) : Type 0 where
  pub size : length w ≡ length s
  pub rest : drop (4 * n) w ≡ drop (4 * n) s

-- the first vertex r of the component_of of i was found, and the parents say the same
pub record Found (i r : ℕ) (s w : List ℕ) : Type 0 where
  pub below : r ≤ i
  pub usable : (m : ℕ) → Usable m s → Usable m w
  pub kept : (n : ℕ) → i < n → Kept n s w
  pub forest : (n : ℕ) (es : List Edge) → i < n → Forest es n (word s) → Forest es n (word w)
  pub first : (n : ℕ) (es : List Edge) → i < n → Forest es n (word s) → r ≡ component_of es i
