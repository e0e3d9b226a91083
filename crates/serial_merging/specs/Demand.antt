-- Demand 3: "Reduce and Reduce by list write just these bytes, whichever of the two listings they are given and whichever list of merges is taken".
use Rattle.std.specs.Prelude.{◌≡◌, List}
use Rattle.format.specs.Values.{Boundary}
use Rattle.context.specs.Listing.{Item}
use Rattle.serial_merging.specs.Copies.{copies_of}
use Rattle.serial_merging.specs.Groups.{Group, Groups, all_groups}
use Rattle.serial_merging.specs.Runs.{Run, groups_of, kept_of, rules_answer}
use Rattle.serial_merging.specs.Merging.{Merges, MergeList, finish, Throughout, WholeGroups}
use Rattle.serial_merging.specs.Sources.{SameSources}

-- A list of merges that begins "with the job's boundaries in run B's listing".
abbrev pub MergesOn : Run → List Group → List Boundary → Type 0
MergesOn b ms after = Merges (copies_of b.boundaries) b.boundaries ms after

pub record Independent (rules : List Item → Groups) (a b : Run) : Type 0 where
  -- A's answer is B's
  pub answers : rules_answer rules a ≡ rules_answer rules b
  -- whatever list of merges on B's own listing, and wherever each puts its boundary: finishing gives A's answer
  pub merges : (ms : List Group) (after : List Boundary) → MergeList (groups_of rules b) ms → MergesOn b ms after → finish after ≡ rules_answer rules a
  -- all_groups merge takes its group's members, whole
  pub exact : (ms : List Group) (after : List Boundary) → MergeList (groups_of rules b) ms → (s : MergesOn b ms after) → WholeGroups s
  -- the sources, own and with the observed, are those that came in: in B's listing, after all_groups merge and in the answer
  pub came : SameSources a.boundaries b.boundaries
  pub during : (ms : List Group) (after : List Boundary) (s : MergesOn b ms after) → Throughout (SameSources b.boundaries) s
  pub answered : SameSources a.boundaries (kept_of rules a)
  -- there is a list of merges, and each can be carried out
  pub one : MergeList (groups_of rules b) (all_groups (groups_of rules b))
  pub some : (ms : List Group) → MergeList (groups_of rules b) ms → (after : List Boundary) × MergesOn b ms after
