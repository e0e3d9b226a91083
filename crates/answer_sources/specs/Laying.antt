-- Where the sources of each boundary and of each observation stand among the job's sources.
use Rattle.std.specs.Prelude.{◌≡◌, ◌≢◌, ◌⊎◌, List, cond, ℕ, suc, ◌+◌, ◌*◌, ◌≤◌, ◌<◌, eqb, length, get_or}
use Rattle.lists.specs.Rows.{rows, sum}
use Rattle.format.specs.Sizes.{boundary_size, observation_size}
use Rattle.format.specs.Records.{boundary_at, observation_at}

-- The sum of f over the numbers below k.
abbrev pub sum_below : (ℕ → ℕ) → ℕ → ℕ
sum_below f k = sum (rows k f)

-- The element at a place.
abbrev pub elements : List ℕ → ℕ → ℕ
elements l k = get_or l k 0

-- By place: a boundary's own sources and its observations, an observation's sources, how many there are of each.
abbrev pub own_count : List ℕ → ℕ → ℕ → ℕ
own_count s at b = (boundary_at s (at + b * boundary_size)).sources

abbrev pub seen_count : List ℕ → ℕ → ℕ → ℕ
seen_count s at b = (boundary_at s (at + b * boundary_size)).observations

abbrev pub cited_count : List ℕ → ℕ → ℕ → ℕ
cited_count s at p = (observation_at s (at + p * observation_size)).sources

-- How many sources n boundaries and m observations have in all.
abbrev pub sources_in : (s : List ℕ) (at n ats m : ℕ) → ℕ
sources_in s at n ats m = sum_below (own_count s at) n + sum_below (cited_count s ats) m

-- How many of its own sources a boundary stands with as an observation: all or none.
abbrev pub stood : (stands : List ℕ) (own : ℕ → ℕ) → ℕ → ℕ
stood stands own b = cond (eqb (get_or stands b 0) 1) (own b) 0

-- No two parts overlap, and all end by `run`.
pub record Apart (starts counts : List ℕ) (run : ℕ) : Type 0 where
  pub ends : (q : ℕ) → get_or starts q 0 + get_or counts q 0 ≤ run
  pub apart : (q w : ℕ) → q ≢ w → (get_or starts q 0 + get_or counts q 0 ≤ get_or starts w 0) ⊎ (get_or starts w 0 + get_or counts w 0 ≤ get_or starts q 0)

-- What the n observations from p on need: they are in the job, there is room for them, and their sources are among the first 4,096.
pub record LayRoom (s : List ℕ) (at p n run : ℕ) (starts counts : List ℕ) : Type 0 where
  pub inside : at + (p + n) * observation_size ≤ length s
  pub starts-room : p + n ≤ length starts
  pub counts-room : p + n ≤ length counts
  pub small : run + sum_below (cited_count s at) (p + n) ≤ 4096 + sum_below (cited_count s at) p
  pub clear : Apart starts counts run

-- The parts of the n observations from p on, side by side from `run` up to `r`.
pub record Lays (cited : ℕ → ℕ) (p n run : ℕ) (starts₀ counts₀ starts counts : List ℕ) (r : ℕ) : Type 0 where
  pub starts-long : length starts ≡ length starts₀
  pub counts-long : length counts ≡ length counts₀
  pub start-there : (k : ℕ) → k < n → get_or starts (p + k) 0 + sum_below cited p ≡ run + sum_below cited (p + k)
  pub count-there : (k : ℕ) → k < n → get_or counts (p + k) 0 ≡ cited (p + k)
  pub start-before : (q : ℕ) → q < p → get_or starts q 0 ≡ get_or starts₀ q 0
  pub count-before : (q : ℕ) → q < p → get_or counts q 0 ≡ get_or counts₀ q 0
  pub start-after : (q : ℕ) → p + n ≤ q → get_or starts q 0 ≡ get_or starts₀ q 0
  pub count-after : (q : ℕ) → p + n ≤ q → get_or counts q 0 ≡ get_or counts₀ q 0
  pub end : r + sum_below cited p ≡ run + sum_below cited (p + n)
  pub clear : Apart starts counts r

-- "in boundary order": the place of a boundary's first observation.
abbrev pub first_seen : (ℕ → ℕ) → ℕ → ℕ
first_seen seen b = sum_below seen b

-- "Each boundary's own, then those of its observations."
abbrev pub own_start : (own seen cited : ℕ → ℕ) → ℕ → ℕ
own_start own seen cited b = sum_below own b + sum_below cited (first_seen seen b)

-- The start of the sources of the observation at place p, which is of boundary b.
abbrev pub cited_start : (own cited : ℕ → ℕ) → ℕ → ℕ → ℕ
cited_start own cited b p = sum_below own (suc b) + sum_below cited p

-- The parts of the first n boundaries and of their observations: an observation's at its place, a boundary's own at `base` and its place,
-- which is empty where it doesn't stand as an observation.
pub record LaidOut (stands : List ℕ) (own seen cited : ℕ → ℕ) (base n : ℕ) (firsts starts counts : List ℕ) : Type 0 where
  pub first-there : (b : ℕ) → b < n → get_or firsts b 0 ≡ first_seen seen b
  pub own-start : (b : ℕ) → b < n → get_or starts (base + b) 0 ≡ own_start own seen cited b
  pub own-count : (b : ℕ) → b < n → get_or counts (base + b) 0 ≡ stood stands own b
  pub cited-start : (b k : ℕ) → b < n → k < seen b → get_or starts (first_seen seen b + k) 0 ≡ cited_start own cited b (first_seen seen b + k)
  pub cited-count : (b k : ℕ) → b < n → k < seen b → get_or counts (first_seen seen b + k) 0 ≡ cited (first_seen seen b + k)

-- A job's boundaries and at most `base` observations, in the job, whose counts add up to no more than the limits.
pub record Countable (s : List ℕ) (at n ats base : ℕ) : Type 0 where
  pub boundaries-in : at + n * boundary_size ≤ length s
  pub boundary-limit : n ≤ 256
  pub observations-in : ats + sum_below (seen_count s at) n * observation_size ≤ length s
  pub observations-fit : sum_below (seen_count s at) n ≤ base
  pub observation-limit : base ≤ 1024
  pub source-limit : sum_below (own_count s at) n + sum_below (cited_count s ats) (sum_below (seen_count s at) n) ≤ 4096

-- Room for all the parts.
pub record PlanRoom (base n : ℕ) (firsts starts counts : List ℕ) : Type 0 where
  pub firsts-room : n ≤ length firsts
  pub starts-room : base + n ≤ length starts
  pub counts-room : base + n ≤ length counts
  pub clear : Apart starts counts 0

-- The parts of the first b of n boundaries: their observations end at place p, their sources at `run`.
pub record Layout (stands : List ℕ) (own seen cited : ℕ → ℕ) (base n : ℕ) (firsts starts counts : List ℕ) (b p run : ℕ) : Type 0 where
  pub place : p ≡ sum_below seen b
  pub running : run ≡ sum_below own b + sum_below cited p
  pub laid : LaidOut stands own seen cited base b firsts starts counts
  pub clear : Apart starts counts run
  pub firsts-room : n ≤ length firsts
  pub starts-room : base + n ≤ length starts
  pub counts-room : base + n ≤ length counts

-- The parts of all n boundaries, among as many numbers as there are sources.
pub record LaidAll (stands : List ℕ) (own seen cited : ℕ → ℕ) (base n : ℕ) (firsts starts counts : List ℕ) : Type 0 where
  pub laid : LaidOut stands own seen cited base n firsts starts counts
  pub clear : Apart starts counts (sum_below own n + sum_below cited (sum_below seen n))
