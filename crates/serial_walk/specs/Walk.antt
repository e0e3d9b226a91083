-- The state of a bridge walk over K records, whose ends are lf k and rt k.
-- disc x is when region x was found, 0 if it was not. The stack has h frames: frame m stands at region st m, was entered over record pr m, has looked
-- at the records below nx m, and lw m is the earliest region that it knows to be joined with it behind its own entry.
use Rattle.std.specs.Prelude.{◌≡◌, ◌⊎◌, Bool, true, false, ℕ, zero, suc, ◌+◌, ◌≤◌, ◌<◌, eqb}
use Rattle.serial_walk.specs.Steps.{Connected}

-- 1 at true
abbrev pub unit : Bool → ℕ
unit true = 1
unit false = 0

-- how many of the first n values are 0
abbrev pub zero_count : (ℕ → ℕ) → ℕ → ℕ
zero_count f zero = 0
zero_count f (suc n) = unit (eqb (f n) 0) + zero_count f n

-- record k joins a and b
pub data RecordJoins (lf rt : ℕ → ℕ) (k a b : ℕ) : Type 0 where
  forth : lf k ≡ a → rt k ≡ b → RecordJoins lf rt k a b
  back : lf k ≡ b → rt k ≡ a → RecordJoins lf rt k a b

-- record k has region x for an end
abbrev pub RecordTouches : (ℕ → ℕ) → (ℕ → ℕ) → ℕ → ℕ → Type 0
RecordTouches lf rt k x = (lf k ≡ x) ⊎ (rt k ≡ x)

module _ (K : ℕ) (lf rt : ℕ → ℕ) where
  -- j is the first record from `from` on that touches region x, and no record of the K where there is none
  pub record First (from x j : ℕ) : Type 0 where
    pub onward : from ≤ j
    pub between : (i : ℕ) → from ≤ i → i < j → i < K → RecordTouches lf rt i x → ⊥
    pub touches : j < K → RecordTouches lf rt j x

  -- a step over a record that is not k
  pub record Without (k a b : ℕ) : Type 0 where
    pub by : ℕ
    pub below : by < K
    pub other : by ≡ k → ⊥
    pub joins : RecordJoins lf rt by a b

  -- removing record k alone leaves its ends unconnected
  abbrev pub Parted : ℕ → Type 0
  Parted k = Connected (Without k) (lf k) (rt k) → ⊥

  -- a step over a record by which none of the frames up to m was entered
  pub record Avoid (pr : ℕ → ℕ) (m a b : ℕ) : Type 0 where
    pub by : ℕ
    pub below : by < K
    pub other : (i : ℕ) → i ≤ m → by ≡ pr i → ⊥
    pub joins : RecordJoins lf rt by a b

  -- every frame at region u has looked at record j; so it is where there is none
  abbrev pub Scanned : (st nx : ℕ → ℕ) (h u j : ℕ) → Type 0
  Scanned st nx h u j = (m : ℕ) → m < h → st m ≡ u → j < nx m

  pub record OnStack (st : ℕ → ℕ) (h x : ℕ) : Type 0 where
    pub place : ℕ
    pub below : place < h
    pub is : st place ≡ x

  pub record Lowest (disc st pr lw : ℕ → ℕ) (m : ℕ) : Type 0 where
    pub to : ℕ
    pub upto : to ≤ m
    pub is : lw m ≡ disc (st to)
    pub path : Connected (Avoid pr m) (st m) (st to)

  pub record Reach (disc lw : ℕ → ℕ) (m h w : ℕ) : Type 0 where
    pub place : ℕ
    pub from : m ≤ place
    pub below : place < h
    pub low : lw place ≤ disc w

  -- R regions, the ends of the records below r found; Told j says that the answer has record j for a bridge
  pub record Walk (R r : ℕ) (Told : ℕ → Type 0) (disc st pr nx lw : ℕ → ℕ) (h time : ℕ) : Type 0 where
    pub timed : (x : ℕ) → disc x ≤ time
    pub found : (m : ℕ) → m < h → 0 < disc (st m)
    pub inside : (m : ℕ) → m < h → st m < R
    pub rising : (m l : ℕ) → m < l → l < h → disc (st m) < disc (st l)
    pub tree : (m : ℕ) → m + 1 < h → (pr (m + 1) < K) × RecordJoins lf rt (pr (m + 1)) (st m) (st (m + 1))
    pub root : 0 < h → K ≤ pr 0
    pub low : (m : ℕ) → m < h → Lowest disc st pr lw m
    -- a record that was looked at leads to a region that was found
    pub known : (u j w : ℕ) → 0 < disc u → Scanned st nx h u j → j < K → RecordJoins lf rt j u w → 0 < disc w
    -- and, from what was found after frame m began, to none before what a frame from m up knows, but for frame m's own entry
    pub reach : (m u j w : ℕ) → m < h → disc (st m) ≤ disc u → Scanned st nx h u j → j < K → (j ≡ pr m → ⊥) → RecordJoins lf rt j u w → Reach disc lw m h w
    -- a region that was found is on the stack, or its neighbours on the stack were found before it
    pub old : (x : ℕ) → 0 < disc x → OnStack st h x ⊎ ((j y m : ℕ) → j < K → RecordJoins lf rt j x y → m < h → st m ≡ y → disc y < disc x)
    pub settled : (u j w : ℕ) → 0 < disc u → Scanned st nx h u j → j < K → RecordJoins lf rt j u w → (Parted j → Told j) ⊎ OnStack pr h j
    pub passed : (k : ℕ) → k < r → 0 < disc (lf k)
    pub room : h + zero_count disc R ≤ R
    pub count : time + zero_count disc R ≤ R
