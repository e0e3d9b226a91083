-- The edges that open bytes name, joined cell by cell.
use Rattle.std.specs.Prelude.{◌≡◌, Bool, true, cond, List, ◌∷◌, ◌++◌, ℕ, zero, suc, ◌+◌, ◌*◌, ◌<◌, ◌≤◌, length, get_or}
use Rattle.wire.specs.Bytes.{part}
use Rattle.graph.specs.Path.{Edge}
use Rattle.graph.specs.Labelling.{Among}
use Rattle.grid.specs.Steps.{step_of}
use Rattle.areas.specs.Open.{later, bit_at, named}
use Rattle.areas.specs.Words.{word}
use Rattle.areas_components.specs.Forests.{Usable, Forest, Kept}
use Rattle.areas_components.specs.Numbered.{walks}

-- every edge that the open bytes name leads between two walkable cells
pub record OpenBytesSound (cells : List ℕ) (width : ℕ) (bytes : List ℕ) : Type 0 where
  pub ends : Among (walks cells) (named width bytes)

-- with one more edge, if it is there
abbrev pub added : Bool → Edge → List Edge → List Edge
added b e es = cond b (e ∷ es) es

-- the edge that bit k of the byte of cell i names
abbrev pub edge_at : ℕ → ℕ → ℕ → Edge
edge_at width i k = step_of i (i + later width k)

-- with the edges that the byte of cell i names
unfoldable pub added_from : ℕ → ℕ → ℕ → List Edge → List Edge
unfolding later
added_from width b i es =
    added (bit_at b 3) (edge_at width i 3) (added (bit_at b 2) (edge_at width i 2)
    (added (bit_at b 1) (edge_at width i 1) (added (bit_at b 0) (edge_at width i 0) es)))

-- the edges with those that the first i bytes name, the newest first
unfoldable pub joined_to : ℕ → List ℕ → List Edge → ℕ → List Edge
unfolding added_from
joined_to width bytes es zero = es
joined_to width bytes es (suc i) = added_from width (get_or bytes i 0) i (joined_to width bytes es i)

-- the parents after i and j were joined, if the test says so
pub record Joined (on : Bool) (i j : ℕ) (s w : List ℕ) : Type 0 where
  pub usable : (m : ℕ) → Usable m s → Usable m w
  pub kept : (n : ℕ) → i < n → (on ≡ true → j < n) → Kept n s w
  pub forest : (n : ℕ) (es : List Edge) → i < n → (on ≡ true → j < n) → Forest es n (word s) → Forest (added on (step_of i j) es) n (word w)

-- cell i and those that its byte leads to are below n
pub record StepsWithin (n width b i : ℕ) : Type 0 where
  pub here : i < n
  pub there : (k : ℕ) → k < 4 → bit_at b k ≡ true → i + later width k < n

-- the words of these cells can be used
pub record WordsReady (width b i : ℕ) (w : List ℕ) : Type 0 where
  pub here : Usable i w
  pub there : (k : ℕ) → k < 4 → bit_at b k ≡ true → Usable (i + later width k) w

-- the parents after the edges of the byte of cell i were joined
pub record JoinedFrom (width b i : ℕ) (s w : List ℕ) : Type 0 where
  pub usable : (m : ℕ) → Usable m s → Usable m w
  pub kept : (n : ℕ) → StepsWithin n width b i → Kept n s w
  pub forest : (n : ℕ) (es : List Edge) → StepsWithin n width b i → Forest es n (word s) → Forest (added_from width b i es) n (word w)

-- and after those of the first i of the n bytes from base on
pub record Joining (n width base i : ℕ) (s w : List ℕ) : Type 0 where
  pub below : i ≤ n
  pub kept : Kept n s w
  pub usable : (m : ℕ) → m < n → Usable m w
  pub forest : (es : List Edge) → Forest es n (word s) → Forest (joined_to width (part s base n) es i) n (word w)

-- a map of n cells and of the given width, with a byte a cell from base on, whose parents can be joined
pub record Joinable (n width base : ℕ) (w : List ℕ) : Type 0 where
  pub some : 0 < width
  pub narrow : width < 4294967296
  pub few : n ≤ 1048576
  pub apart : 4 * n ≤ base
  pub room : base + n ≤ length w
  pub usable : (m : ℕ) → m < n → Usable m w
  pub within : (i : ℕ) → i < n → StepsWithin n width (get_or w (base + i) 0) i

-- after those of all
pub record JoinedAll (n width : ℕ) (bytes s w : List ℕ) : Type 0 where
  pub kept : Kept n s w
  pub forest : (es : List Edge) → Forest es n (word s) → Forest (named width bytes ++ es) n (word w)
