-- The anchors of bases in a job, and their labels in an array.
use Rattle.std.specs.Prelude.{◌≡◌, false, List, ◌++◌, map, ℕ, ◌+◌, ◌*◌, ◌<◌, ◌≤◌, length, take}
use Rattle.position.specs.declared.WalkPosition.{WalkPosition}
use Rattle.format.specs.Sizes.{base_size}
use Rattle.format.specs.Records.{base_at}
use Rattle.format.specs.Decode.{anchor_of, base_of, base_records}
use Rattle.areas.specs.Areas.{label_at}
use Rattle.context.specs.Held.{is_none}
use Rattle.context.specs.Anchors.{optional, anchors_of}

-- No anchor, or one of the first n cells.
pub record Hit (p : WalkPosition) (width n : ℕ) : Type 0 where
  pub on : is_none p ≡ false → p.y * width + p.x < n

-- Each of so many bases has no anchor, or one on the map of n cells.
pub record AnchorsIn (job : List ℕ) (at count width n : ℕ) : Type 0 where
  pub each : (k : ℕ) → k < count → Hit (base_at job (at + k * base_size)).anchor width n

-- There is a label for each of n cells.
pub record MapLabels (labels : List ℕ) (n : ℕ) : Type 0 where
  pub few : n ≤ 1048576
  pub labelled : n * 4 ≤ length labels

-- The bases and labels are there, and each anchor is one of the cells.
pub record AnchorsOnMap (job : List ℕ) (at count width : ℕ) (labels : List ℕ) (n : ℕ) : Type 0 where
  pub there : at + count * base_size ≤ length job
  pub mapped : MapLabels labels n
  pub anchors : AnchorsIn job at count width n

-- The anchors of so many bases of a job.
abbrev pub anchors_in : List ℕ → ℕ → ℕ → List WalkPosition
anchors_in job at count = anchors_of (map base_of (base_records job at count))

-- The labels of their cells, on any map of the width.
abbrev pub anchor_labels : ℕ → List ℕ → List WalkPosition → List ℕ
anchor_labels width ls ps = map (λ (p : WalkPosition). label_at ls (p.y * width + p.x)) ps

-- After the first so many numbers of an array stands the label of an anchor's cell, if there is an anchor; r is how many there are then.
pub record LabelAdded (width : ℕ) (ls : List ℕ) (p : WalkPosition) (before : List ℕ) (found : ℕ) (after : List ℕ) (r : ℕ) : Type 0 where
  pub kept : length after ≡ length before
  pub most : r ≤ found + 1
  pub read : take r after ≡ take found before ++ anchor_labels width ls (optional (anchor_of p))

-- The first r numbers of the array are the labels of the anchors of so many bases.
pub record LabelsRead (job : List ℕ) (at count width : ℕ) (ls : List ℕ) (array : List ℕ) (r : ℕ) : Type 0 where
  pub fits : r ≤ length array
  pub read : take r array ≡ anchor_labels width ls (anchors_in job at count)
