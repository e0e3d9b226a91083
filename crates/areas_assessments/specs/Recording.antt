-- The pairs of all spans as records, a span's place being the owner, in three arrays; and the counts of each span.
use Rattle.std.specs.Prelude.{◌≡◌, List, map, ℕ, ◌+◌, ◌*◌, ◌≤◌, ◌<◌, length}
use Rattle.lists.specs.Rows.{at}
use Rattle.position.specs.declared.Span.{Span}
use Rattle.graph.specs.Records.{Record, records_in}
use Rattle.grid.specs.Cells.{Grid}
use Rattle.areas.specs.Cuts.{cut_steps}
use Rattle.areas.specs.Assessments.{Assessment, assessment, owned}
use Rattle.areas.specs.Spans.{Sides, SpansFit, span_in, spans_in}

module _ (ls dirs : List ℕ) (g : Grid) where
  -- of a span, by the labels ls
  unfoldable pub assessed : Span → Assessment
  unfolding assessment cut_steps
  assessed s = assessment ls (cut_steps dirs g s)

  -- the records of the spans
  unfoldable pub records_of : List Span → List Record
  unfolding owned assessed
  records_of ss = owned 0 (map (λ s. (assessed s).pairs) ss)

  -- the counts of the first n spans
  abbrev pub Counted : List ℕ → ℕ → List ℕ → List ℕ → Type 0
  Counted ends n removed separated =
      (i : ℕ) → i < n → (at removed i ≡ (assessed (span_in ends i)).removed) × (at separated i ≡ (assessed (span_in ends i)).separated)

  -- what is left of the first n spans in arrays of most records, and r: the number of records, or one more than most where they are over it
  pub record Recorded (most : ℕ) (ends : List ℕ) (n : ℕ) (removed separated owners lefts rights : List ℕ) (r : ℕ) : Type 0 where
    pub fits : length (records_of (spans_in ends n)) ≤ most →
        (r ≡ length (records_of (spans_in ends n))) × (records_in owners lefts rights r ≡ records_of (spans_in ends n)) × Counted ends n removed separated
    pub over : most < length (records_of (spans_in ends n)) → r ≡ most + 1

-- the bytes of a map and of its labels, and spans on it
pub record SpansOnMap (width height : ℕ) (cs labels ends : List ℕ) (n : ℕ) : Type 0 where
  pub sides : Sides width height
  pub whole : length cs ≡ width * height
  pub labelled : length labels ≡ 4 * (width * height)
  pub spans : SpansFit width height ends n
  pub few : n ≤ 256

-- the arrays have their lengths, those of records most
pub record Arrays (most : ℕ) (removed separated owners lefts rights : List ℕ) : Type 0 where
  pub removed-are : length removed ≡ 256
  pub separated-are : length separated ≡ 256
  pub owners-are : length owners ≡ most
  pub lefts-are : length lefts ≡ most
  pub rights-are : length rights ≡ most
  pub few : most ≤ 4096

-- v stands from start to end, and what stood before start is as it was
pub record ConstantRun (s₀ s : List ℕ) (start end v : ℕ) : Type 0 where
  pub below : (j : ℕ) → j < start → at s j ≡ at s₀ j
  pub here : (j : ℕ) → start ≤ j → j < end → at s j ≡ v
