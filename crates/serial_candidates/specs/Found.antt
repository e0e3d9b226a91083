-- The links that arrays give.
use Rattle.std.specs.Prelude.{◌≡◌, Bool, true, false, cond, not, ◌&&◌, List, map, ℕ, zero, suc, ◌+◌, ◌*◌, ◌<◌, ◌≤◌, leb, length, get_or, set}
use Rattle.order.specs.Lists.{keep, up_from, has}
use Rattle.serial_groups.specs.Links.{LinkAt}
use Rattle.serial_groups.specs.Tables.{links_in}
use Rattle.graph.specs.Records.{record_in}
use Rattle.serial_candidates.specs.Touchers.{touching_after}
use Rattle.serial_candidates.specs.Gives.{joins_two}
use Rattle.serial_candidates.specs.declared.touching.Touching.{Touching}

-- what is read: labels of anchors, ends, marks, first pairs and records
pub record Given : Type 0 where
  pub anchors : List ℕ
  pub own : List ℕ
  pub marks : List ℕ
  pub lowers : List ℕ
  pub highers : List ℕ
  pub owners : List ℕ
  pub lefts : List ℕ
  pub rights : List ℕ
  pub count : ℕ

abbrev pub given : List ℕ → List ℕ → List ℕ → List ℕ → List ℕ → List ℕ → List ℕ → List ℕ → ℕ → Given
given anchors own marks lowers highers owners lefts rights count =
    record {
      anchors = anchors;
      own = own;
      marks = marks;
      lowers = lowers;
      highers = highers;
      owners = owners;
      lefts = lefts;
      rights = rights;
      count = count;
    }

abbrev pub seen : Given → ℕ → Touching
seen d r = touching_after (record_in d.owners d.lefts d.rights) r d.count

-- the region gives a link
unfoldable pub found : Given → ℕ → Bool
unfolding has joins_two touching_after
found d r = not (has r d.anchors) && joins_two d.own d.marks d.lowers d.highers r
    (seen d r).count (seen d r).first (seen d r).second

-- the link
unfoldable pub found_link : Given → ℕ → LinkAt
unfolding touching_after
found_link d r = record { region = r; first = (seen d r).first; second = (seen d r).second }

-- how many first regions of the first n ranks are no more than x
unfoldable pub up_to : List ℕ → List ℕ → ℕ → ℕ → ℕ
up_to lowers highers x zero = 0
up_to lowers highers x (suc n) = up_to lowers highers x n + (cond (leb (get_or lowers n 0) x) 1 0 + cond (leb (get_or highers n 0) x) 1 0)

-- the links of the regions up to one
pub record Collected (d : Given) (n after count : ℕ) (regions firsts seconds : List ℕ) : Type 0 where
  pub regions-length : length regions ≡ 256
  pub firsts-length : length firsts ≡ 256
  pub seconds-length : length seconds ≡ 256
  pub room : 2 * count ≤ up_to d.lowers d.highers after n
  pub all : links_in regions firsts seconds count ≡ map (found_link d) (keep (found d) (up_from 1 after))

-- the link of a region is added if it gives one
pub record LinkAdded (d : Given) (r count : ℕ) (regions firsts seconds : List ℕ) (count' : ℕ) (regions' firsts' seconds' : List ℕ) : Type 0 where
  pub more : found d r ≡ true → (count' ≡ count + 1) × (regions' ≡ set regions count r) × (firsts' ≡ set firsts count (seen d r).first)
      × (seconds' ≡ set seconds count (seen d r).second)
  pub same : found d r ≡ false → (count' ≡ count) × (regions' ≡ regions) × (firsts' ≡ firsts) × (seconds' ≡ seconds)

-- the links of all regions that give one: of those up to any that none above gives one
pub record AllFound (d : Given) (regions firsts seconds : List ℕ) (count : ℕ) : Type 0 where
  pub most : count ≤ 256
  pub all : (top : ℕ) → ((y : ℕ) → top < y → found d y ≡ false) → links_in regions firsts seconds count ≡ map (found_link d) (keep (found d) (up_from 1 top))
