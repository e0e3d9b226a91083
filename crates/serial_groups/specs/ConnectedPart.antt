-- The connected parts of the links that a rule names: no list of links and no search is in it.
use Rattle.std.specs.Prelude.{◌≡◌, ◌↔◌, ◌⊎◌, ℕ, ◌<◌}
use mathlib.Core.List.{Memᴰ}
use Rattle.order.specs.Pairs.{Pairs}
use Rattle.serial_groups.specs.Links.{LinkAt}
use Rattle.serial_groups.specs.Groups.{LinkGroup}

-- the rank is one of the link's two
abbrev pub LinkJoins : LinkAt → ℕ → Type 0
LinkJoins k i = (i ≡ k.first) ⊎ (i ≡ k.second)

-- a walk over links of L leads from the first rank to the second
pub data Walk (L : LinkAt → Type 0) : ℕ → ℕ → Type 0 where
  here : {i : ℕ} → Walk L i i
  onward : {i j h : ℕ} {k : LinkAt} → L k → LinkJoins k i → LinkJoins k j → Walk L j h → Walk L i h

-- the group has the link
abbrev pub LinkOf : LinkGroup → LinkAt → Type 0
LinkOf a k = Memᴰ k a.links

pub record ConnectedPart (L : LinkAt → Type 0) (a : LinkGroup) : Type 0 where
  -- it has a link
  pub link : LinkAt
  pub has : LinkOf a link
  -- its ranks are those that its links join
  pub ranks : (i : ℕ) → Memᴰ i a.ranks ↔ ((k : LinkAt) × LinkOf a k × LinkJoins k i)
  -- from each of its ranks, its links are just the links of L that walks over L lead to
  pub links : (i : ℕ) → Memᴰ i a.ranks → (k : LinkAt) → LinkOf a k ↔ (L k × Walk L i k.first)
  -- and its own links lead to each of its ranks
  pub joined : (i j : ℕ) → Memᴰ i a.ranks → Memᴰ j a.ranks → Walk (LinkOf a) i j
  -- ranks ascend, and links by their regions: with one of its ranks nothing of it is free
  pub ascending : Pairs (λ i j. i < j) a.ranks
  pub by-region : Pairs (λ (j k : LinkAt). j.region < k.region) a.links
