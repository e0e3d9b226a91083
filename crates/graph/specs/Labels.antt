-- The labels, computed: a vertex's label is how many parts begin at or before the first vertex of its own component_of.
use Rattle.std.specs.Prelude.{Bool, ◌&&◌, List, map, ℕ, zero, suc, ◌+◌, eqb}
use Rattle.std.proofs.Math.Bool.{cond}
use Rattle.order.specs.Lists.{up_from}
use Rattle.graph.specs.Path.{Edge}
use Rattle.graph.specs.Parts.{component_of}

-- how many of the numbers below n pass the test
unfoldable pub count : (ℕ → Bool) → ℕ → ℕ
count t zero = 0
count t (suc n) = cond (t n) 1 0 + count t n

module _ (on : ℕ → Bool) (es : List Edge) where
  -- a component_of begins at the vertex
  unfoldable pub begins : ℕ → Bool
  begins i = on i && eqb (component_of es i) i

  -- its label, 0 where it is out
  unfoldable pub label : ℕ → ℕ
  unfolding begins
  label i = cond (on i) (count begins (suc (component_of es i))) 0

-- the labels of the vertices 0, …, n - 1
unfoldable pub labels : ℕ → (ℕ → Bool) → List Edge → List ℕ
unfolding label
labels n on es = map (label on es) (up_from 0 n)

-- how many parts there are among them
unfoldable pub label_count : ℕ → (ℕ → Bool) → List Edge → ℕ
unfolding begins
label_count n on es = count (begins on es) n
