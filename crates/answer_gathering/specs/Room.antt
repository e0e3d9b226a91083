-- Room for what is gathered of n boundaries.
use Rattle.std.specs.Prelude.{ℕ, ◌+◌, ◌*◌, ◌≤◌, ◌<◌, List, length, get_or}
use Rattle.format.specs.Sizes.{boundary_size, source_size}
use Rattle.answer_firsts.specs.Links.{Linked}
use Rattle.answer_sources.specs.Laying.{sum_below, own_count, seen_count}
use Rattle.answer_sources.specs.Standing.{Standing}
use Rattle.answer_sources.specs.Gathered.{PlacesOrder}
use Rattle.answer_gathering.specs.Runs.{own_weight, seen_weight}

-- Each rank's record and own sources are in the job.
pub record OwnRoom (s : List ℕ) (at from base : ℕ) (order starts : List ℕ) (n : ℕ) : Type 0 where
  pub few : n ≤ 256
  pub order-in : (j : ℕ) → j < n → get_or order j 0 < n
  pub records-in : at + n * boundary_size ≤ length s
  pub starts-room : base + n ≤ length starts
  pub inside : (b : ℕ) → b < n → from + (get_or starts (base + b) 0 + own_count s at b) * source_size ≤ length s
  pub small : (b : ℕ) → b < n → get_or starts (base + b) 0 + own_count s at b ≤ 4096

-- Each rank's record is in the job, its observations' places are below `base`, and it is marked where it stands as an observation itself.
pub record SeenRoom (s : List ℕ) (at base : ℕ) (order plan stands firsts : List ℕ) (n : ℕ) : Type 0 where
  pub few : n ≤ 256
  pub base-few : base ≤ 1024
  pub order-in : (j : ℕ) → j < n → get_or order j 0 < n
  pub records-in : at + n * boundary_size ≤ length s
  pub firsts-room : n ≤ length firsts
  pub places-in : (b : ℕ) → b < n → get_or firsts b 0 + seen_count s at b ≤ base
  pub standing : Standing order plan (seen_count s at) n stands

-- Room for the places of all own sources.
pub record OwnsRoom (s : List ℕ) (at from base : ℕ) (order starts : List ℕ) (heads : ℕ) (kept owns : List ℕ) (n : ℕ) : Type 0 where
  pub own : OwnRoom s at from base order starts n
  pub owned-room : 4 * sum_below (own_weight s at order) n ≤ heads
  pub kept-room : n ≤ length kept
  pub owns-room : n ≤ length owns

-- Room for all places that are gathered.
pub record SeensRoom (s : List ℕ) (at base : ℕ) (order plan stands firsts seens seen spare : List ℕ) (n : ℕ) : Type 0 where
  pub own : SeenRoom s at base order plan stands firsts n
  pub small : sum_below (seen_weight order (seen_count s at)) n ≤ 1280
  pub seens-room : n ≤ length seens
  pub seen-room : sum_below (seen_weight order (seen_count s at)) n ≤ length seen
  pub spare-room : sum_below (seen_weight order (seen_count s at)) n ≤ length spare

-- What a job's n boundaries need, by place.
pub record GatherRoom (s : List ℕ) (at n from base heads : ℕ) (order plan stands firsts starts links kept owns seens owned seen places : List ℕ) : Type
    0 where
  pub few : n ≤ 256
  pub base-few : base ≤ 1024
  pub ordered : PlacesOrder order n
  pub records-in : at + n * boundary_size ≤ length s
  pub seen-room : base + n ≤ length seen
  pub places-room : base + n ≤ length places
  pub starts-room : base + n ≤ length starts
  pub firsts-room : n ≤ length firsts
  pub kept-room : n ≤ length kept
  pub owns-room : n ≤ length owns
  pub seens-room : n ≤ length seens
  pub places-in : (b : ℕ) → b < n → get_or firsts b 0 + seen_count s at b ≤ base
  pub own_in : (b : ℕ) → b < n → from + (get_or starts (base + b) 0 + own_count s at b) * source_size ≤ length s
  pub own-few : (b : ℕ) → b < n → get_or starts (base + b) 0 + own_count s at b ≤ 4096
  pub own-small : 4 * sum_below (own_count s at) n ≤ heads
  pub seen-small : sum_below (seen_count s at) n ≤ base
  pub linked : Linked heads s from 0 0 links owned
  pub standing : Standing order plan (seen_count s at) n stands
