-- The connected parts of a graph, computed by joining one edge at a time. A component_of is known by its first vertex.
use Rattle.std.specs.Prelude.{Bool, cond, List, [], ◌∷◌, ℕ, min, max, eqb}
use Rattle.graph.specs.Path.{Edge}

-- the parts of first vertices a and b made one: it has the smaller of the two
unfoldable pub join : ℕ → ℕ → ℕ → ℕ
join a b c = cond (eqb c (max a b)) (min a b) c

-- the first vertex of the component_of that a vertex is in: without edges each is a component_of of its own
unfoldable pub component_of : List Edge → ℕ → ℕ
unfolding join
component_of [] = λ c. c
component_of (e ∷ es) = let p = component_of es in let a = p e.left in let b = p e.right in λ c. join a b (p c)

-- the two are in one component_of
unfoldable pub same_part : List Edge → ℕ → ℕ → Bool
unfolding component_of
same_part es a b = let p = component_of es in eqb (p a) (p b)
