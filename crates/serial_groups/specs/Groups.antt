-- The connected parts of some links: 000's `connected_link_groups`.
use Rattle.std.specs.Prelude.{Bool, ◌&&◌, ℕ, eqb}
use mathlib.Core.List.{List, map, Memᴰ}
use Rattle.order.specs.Lists.{keep, up_from, has}
use Rattle.graph.specs.Path.{Edge}
use Rattle.graph.specs.Parts.{component_of}
use Rattle.graph.specs.Labels.{begins}
use Rattle.order.specs.Tests.{any}
use Rattle.serial_groups.specs.Links.{LinkAt, joins}

-- ranks in ascending order, and the links between them
pub record LinkGroup : Type 0 where
  pub ranks : List ℕ
  pub links : List LinkAt

abbrev pub link_edge : LinkAt → Edge
link_edge k = record { left = k.first; right = k.second }

-- the graph of ranks that the links make
unfoldable pub link_edges : List LinkAt → List Edge
link_edges ks = map link_edge ks

-- some link joins the rank
unfoldable pub is_joined : List LinkAt → ℕ → Bool
unfolding any
is_joined ks i = any (joins i) ks

-- of n ranks, those that the links join in the component_of of the rank c, with the links of that component_of
unfoldable pub group_at : ℕ → List LinkAt → ℕ → LinkGroup
unfolding component_of link_edges is_joined keep up_from
group_at n ks c = record {
  ranks = keep (λ i. is_joined ks i && eqb (component_of (link_edges ks) i) c) (up_from 0 n);
  links = keep (λ k. eqb (component_of (link_edges ks) k.first) c) ks;
}

-- in the order of their first ranks
unfoldable pub groups_of : ℕ → List LinkAt → List LinkGroup
unfolding group_at begins
groups_of n ks = map (group_at n ks) (keep (begins (is_joined ks) (link_edges ks)) (up_from 0 n))

-- the rank is in one of the groups
unfoldable pub in_any_link_group : List LinkGroup → ℕ → Bool
unfolding any has
in_any_link_group gs i = any (λ h. has i h.ranks) gs

-- no rank is in both
abbrev pub LinkGroupsDisjoint : LinkGroup → LinkGroup → Type 0
LinkGroupsDisjoint a b = (i : ℕ) → Memᴰ i a.ranks → Memᴰ i b.ranks → ⊥
