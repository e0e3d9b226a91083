-- What the bridge walk asks of its arrays, and its state over them. K is the number of records, R the number of regions.
use Rattle.std.specs.Prelude.{◌≡◌, ◌⊎◌, cond, List, ℕ, ◌+◌, ◌*◌, ◌≤◌, ◌<◌, eqb, ltb, length, set}
use Rattle.lists.specs.Rows.{at}
use Rattle.graph.specs.Slices.{Graph, Owners}
use Rattle.serial_walk.specs.declared.frame.Frame.{Frame}
use Rattle.serial_walk.specs.Walk.{First, Parted, Walk}

-- f with v at i
abbrev pub put : (ℕ → ℕ) → ℕ → ℕ → ℕ → ℕ
put f i v j = cond (eqb j i) v (f j)

-- there is a place for each region
pub record Sized (R : ℕ) (disc stack parents nexts lows : List ℕ) : Type 0 where
  pub disc-are : length disc ≡ R
  pub stack-are : length stack ≡ R
  pub parents-are : length parents ≡ R
  pub nexts-are : length nexts ≡ R
  pub lows-are : length lows ≡ R

-- the records that touch a region are chained in their order: the first of them, and after a record the next one at its left and at its right region;
-- so it is from record k on
pub record IncidenceLists (K R : ℕ) (lefts rights heads left_nexts right_nexts : List ℕ) (k : ℕ) : Type 0 where
  pub heads-are : length heads ≡ R
  pub lefts-are : K ≤ length left_nexts
  pub rights-are : K ≤ length right_nexts
  pub head : (x : ℕ) → x < R → First K (at lefts) (at rights) k x (at heads x)
  pub left-next : (i : ℕ) → k ≤ i → i < K → First K (at lefts) (at rights) (i + 1) (at lefts i) (at left_nexts i)
  pub right-next : (i : ℕ) → k ≤ i → i < K → First K (at lefts) (at rights) (i + 1) (at rights i) (at right_nexts i)

-- some record of boundary b, taken away alone, parts its two regions
pub record PartedBy (K : ℕ) (owners lefts rights : List ℕ) (b : ℕ) : Type 0 where
  pub place : ℕ
  pub inside : place < K
  pub owned : at owners place ≡ b
  pub parted : Parted K (at lefts) (at rights) place

-- each mark is 0, or is 1 and right
abbrev pub MarksSound : ℕ → List ℕ → List ℕ → List ℕ → List ℕ → Type 0
MarksSound K owners lefts rights marks =
    (b : ℕ) → b < length marks → (at marks b ≡ 0) ⊎ ((at marks b ≡ 1) × PartedBy K owners lefts rights b)

-- the record's owner has a mark
abbrev pub OwnerMarked : List ℕ → List ℕ → ℕ → Type 0
OwnerMarked owners marks k = at marks (at owners k) ≡ 1

-- the walk, with the stack in the four lists
abbrev pub Stacked : ℕ → List ℕ → List ℕ → List ℕ → ℕ → List ℕ → List ℕ → List ℕ → List ℕ → List ℕ → List ℕ → ℕ → ℕ → Type 0
Stacked K owners lefts rights r disc stack parents nexts lows marks h time =
    Walk K (at lefts) (at rights) (length disc) r (OwnerMarked owners marks) (at disc) (at stack) (at parents) (at nexts) (at lows) h time

-- the same, with the last frame in hand
abbrev pub FrameInHand : ℕ → List ℕ → List ℕ → List ℕ → ℕ → List ℕ → List ℕ → List ℕ → List ℕ → List ℕ → List ℕ → ℕ → ℕ → Frame → Type 0
FrameInHand K owners lefts rights r disc stack parents nexts lows marks top time f =
    Walk K (at lefts) (at rights) (length disc) r (OwnerMarked owners marks) (at disc) (at stack) (at parents) (put (at nexts) top f.next)
    (put (at lows) top f.low) (top + 1) time

-- the walk between two roots: the ends of the records before r are found
pub record Between (K R : ℕ) (owners lefts rights disc stack parents nexts lows marks : List ℕ) (r time : ℕ) : Type 0 where
  pub graph : Graph K R lefts rights
  pub sized : Sized R disc stack parents nexts lows
  pub owners-are : K ≤ length owners
  pub marks-are : length marks ≡ 256
  pub marked : Owners K owners
  pub walk : Stacked K owners lefts rights r disc stack parents nexts lows marks 0 time
  pub sound : MarksSound K owners lefts rights marks

-- the marks with one more at b, if what the parent knows is before low
abbrev pub marking : ℕ → ℕ → List ℕ → ℕ → List ℕ
marking d low marks b = cond (ltb d low) (set marks b 1) marks

-- arrays for K records and R regions, with no record chained and no region found
pub record Lent (K R : ℕ) (small_lefts small_rights heads left_nexts right_nexts disc stack parents nexts lows : List ℕ) : Type 0 where
  pub enough : 2 * K ≤ R
  pub near : R ≤ 8192
  pub small-lefts-are : K ≤ length small_lefts
  pub small-rights-are : K ≤ length small_rights
  pub heads-are : length heads ≡ R
  pub left-nexts-are : K ≤ length left_nexts
  pub right-nexts-are : K ≤ length right_nexts
  pub sized : Sized R disc stack parents nexts lows
  pub unchained : (x : ℕ) → x < R → K ≤ at heads x
  pub unfound : (x : ℕ) → at disc x ≡ 0
