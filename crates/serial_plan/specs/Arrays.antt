-- Arrays by rank or by link, and what is chosen by them.
use Rattle.std.specs.Prelude.{◌≡◌, Bool, ◌&&◌, ◌||◌, List, map, ℕ, ◌<◌, ◌≤◌, eqb, length}
use Rattle.lists.specs.Rows.{at}
use Rattle.order.specs.Lists.{keep, up_from}
use Rattle.graph.specs.Path.{Edge}
use Rattle.graph.specs.Parts.{component_of}
use Rattle.order.specs.Tests.{any}

abbrev pub is_on : List ℕ → ℕ → Bool
is_on xs i = eqb (at xs i) 1

abbrev pub edge_row : List ℕ → List ℕ → ℕ → Edge
edge_row firsts seconds k = record { left = at firsts k; right = at seconds k }

-- the chosen ones of m links from k on, by number
unfoldable pub chosen_from : List ℕ → ℕ → ℕ → List ℕ
unfolding keep up_from
chosen_from chosen k m = keep (is_on chosen) (up_from k m)

-- the component_of of a rank in the graph that they make
unfoldable pub part_from : List ℕ → List ℕ → List ℕ → ℕ → ℕ → ℕ → ℕ
unfolding chosen_from component_of
part_from chosen firsts seconds k m i = component_of (map (edge_row firsts seconds) (chosen_from chosen k m)) i

-- link k joins the rank i
abbrev pub joins_at : List ℕ → List ℕ → ℕ → ℕ → Bool
joins_at firsts seconds i k = eqb i (at firsts k) || eqb i (at seconds k)

-- one of the chosen links joins the rank
unfoldable pub joined_from : List ℕ → List ℕ → List ℕ → ℕ → ℕ → ℕ → Bool
unfolding chosen_from any
joined_from chosen firsts seconds k m i = any (joins_at firsts seconds i) (chosen_from chosen k m)

-- the links join ranks below n
pub record LinkRanks (n : ℕ) (firsts seconds : List ℕ) (links : ℕ) : Type 0 where
  pub few : links ≤ 256
  pub first-in : (k : ℕ) → k < links → at firsts k < n
  pub second-in : (k : ℕ) → k < links → at seconds k < n

-- rank i is joined, and in the component_of of c
abbrev pub in_part : List ℕ → List ℕ → ℕ → ℕ → Bool
in_part joined parts c i = is_on joined i && eqb (at parts i) c

-- link k is chosen, and in the component_of of c
abbrev pub link_in_part : List ℕ → List ℕ → List ℕ → ℕ → ℕ → Bool
link_in_part chosen firsts parts c k = is_on chosen k && eqb (at parts (at firsts k)) c

-- an array of 256 numbers, of which the first n are those of f
pub record FirstAre (f : ℕ → ℕ) (n : ℕ) (xs : List ℕ) : Type 0 where
  pub size : length xs ≡ 256
  pub each : (i : ℕ) → i < n → at xs i ≡ f i

-- the ranks and the links of component_of c
abbrev pub ranks_in : ℕ → List ℕ → List ℕ → ℕ → List ℕ
ranks_in n joined parts c = keep (in_part joined parts c) (up_from 0 n)

abbrev pub numbers_in : ℕ → List ℕ → List ℕ → List ℕ → ℕ → List ℕ
numbers_in links chosen firsts parts c = keep (link_in_part chosen firsts parts c) (up_from 0 links)
