-- Sources found to be the first of their kind, as numbers: each linked from the head of its hash, by the binary digits of the source.
use Rattle.std.specs.Prelude.{◌≡◌, Bool, true, false, List, ℕ, zero, suc, ◌+◌, ◌-◌, ◌*◌, ◌/◌, ◌%◌, ◌≤◌, ◌<◌, length, get_or}
use Rattle.answer_sorting.specs.Keys.{key_in}

-- a number below 2^14 that a source tells
unfoldable pub mix : ℕ → ℕ
mix x = (x / 0x1_0000_0000 * 0x5F35_6495 + x % 0x1_0000_0000 * 0x4CF5_AD43) / 0x4_0000 % 0x4000

-- the head of a source: any number below `heads` that it tells
unfoldable pub head_of : ℕ → ℕ → ℕ
unfolding mix
head_of heads x = mix x * heads / 0x4000

-- a number halved so often
unfoldable pub halves : ℕ → ℕ → ℕ
halves x zero = x
halves x (suc d) = halves x d / 2

-- the cell that d links lead to; a cell has a number and 1, and number k has two cells of its own
unfoldable pub link_cell : ℕ → List ℕ → ℕ → ℕ → ℕ
unfolding head_of halves
link_cell heads links x zero = head_of heads x
link_cell heads links x (suc d) = heads + 2 * (get_or links (link_cell heads links x d) 0 - 1) + halves x d % 2

-- what the cell holds to which d links lead
abbrev pub link_at : ℕ → List ℕ → ℕ → ℕ → ℕ
link_at heads links x d = get_or links (link_cell heads links x d) 0

-- the source with number k
abbrev pub source_no : List ℕ → ℕ → List ℕ → ℕ → ℕ
source_no job base places k = key_in job base (get_or places k 0)

-- links lead to number k, over numbers from `first` on
pub record Reached (heads first : ℕ) (links : List ℕ) (x k : ℕ) : Type 0 where
  pub steps : ℕ
  pub there : link_at heads links x steps ≡ k + 1
  pub along : (e : ℕ) → e < steps → first < link_at heads links x e

-- the numbers from `first` up to `count`: their places are places of sources, which differ, and each is reached; there are four heads for each
-- place that there is room for, so that few sources share one
pub record Linked (heads : ℕ) (job : List ℕ) (base first count : ℕ) (links places : List ℕ) : Type 0 where
  pub small : heads ≤ 0x4000
  pub few : 4 * count ≤ heads
  pub cells-long : 2 * length links ≡ 3 * heads
  pub places-long : 4 * length places ≡ heads
  pub cells : (c : ℕ) → c < heads + 2 * count → get_or links c 0 ≤ count
  pub onward : (c : ℕ) → c < heads + 2 * count → first < get_or links c 0 → c < heads + 2 * (get_or links c 0 - 1)
  pub inside : (k : ℕ) → first ≤ k → k < count → base + 8 * get_or places k 0 + 8 ≤ length job
  pub reach : (k : ℕ) → first ≤ k → k < count → Reached heads first links (source_no job base places k) k
  pub differ : (i j : ℕ) → first ≤ i → i < j → j < count → source_no job base places i ≡ source_no job base places j → ⊥

-- x is one of the numbers' sources
pub record Numbered (job : List ℕ) (base first count : ℕ) (places : List ℕ) (x : ℕ) : Type 0 where
  pub number : ℕ
  pub low : first ≤ number
  pub high : number < count
  pub is : source_no job base places number ≡ x

-- links for x lead to an empty cell, and x is none of the numbers' sources
pub record Missing (heads : ℕ) (job : List ℕ) (base first count : ℕ) (links places : List ℕ) (x cell : ℕ) : Type 0 where
  pub steps : ℕ
  pub there : cell ≡ link_cell heads links x steps
  pub empty : get_or links cell 0 ≤ first
  pub along : (e : ℕ) → e < steps → first < link_at heads links x e
  pub none : (k : ℕ) → first ≤ k → k < count → source_no job base places k ≡ x → ⊥

-- so far: no source that was passed is x
pub record Walking (heads : ℕ) (job : List ℕ) (base first : ℕ) (links places : List ℕ) (x cell y v : ℕ) : Type 0 where
  pub steps : ℕ
  pub there : cell ≡ link_cell heads links x steps
  pub digits : y ≡ halves x steps
  pub value : v ≡ get_or links cell 0
  pub along : (e : ℕ) → e < steps → first < link_at heads links x e
  pub passed : (e : ℕ) → e < steps → source_no job base places (link_at heads links x e - 1) ≡ x → ⊥

-- what is known of x where its walk ends: it is there, or it is to be linked from this cell
pub record Looked (heads : ℕ) (job : List ℕ) (base first count : ℕ) (links places : List ℕ) (x cell : ℕ) (there : Bool) : Type 0 where
  pub within : cell < heads + 2 * count
  pub found : there ≡ true → Numbered job base first count places x
  pub missing : there ≡ false → Missing heads job base first count links places x cell

-- place p is there, and at most one number is new: that of p
pub record PlaceAdded (heads : ℕ) (job : List ℕ) (base first count p : ℕ) (places links after : List ℕ) (more : ℕ) : Type 0 where
  pub linked : Linked heads job base first more links after
  pub least : count ≤ more
  pub most : more ≤ count + 1
  pub old : (k : ℕ) → k < count → get_or after k 0 ≡ get_or places k 0
  pub new : (k : ℕ) → count ≤ k → k < more → get_or after k 0 ≡ p
  pub there : Numbered job base first more after (key_in job base p)

-- the first n places from `from` on are there, and each new number is one of them
pub record Covers (heads : ℕ) (job : List ℕ) (base first count from n : ℕ) (places links after : List ℕ) (more : ℕ) : Type 0 where
  pub linked : Linked heads job base first more links after
  pub least : count ≤ more
  pub most : more ≤ count + n
  pub old : (k : ℕ) → k < count → get_or after k 0 ≡ get_or places k 0
  pub new : (k : ℕ) → count ≤ k → k < more → (from ≤ get_or after k 0) × (get_or after k 0 < from + n)
  pub there : (j : ℕ) → j < n → Numbered job base first more after (key_in job base (from + j))
