-- Cases 9 to 12 of document 01's table, as what the calls leave.
use Rattle.std.specs.Prelude.{◌≡◌, false, List, [], ◌∷◌, ◌++◌, ℕ, ◌+◌, ◌*◌, ◌%◌, ◌≤◌, ◌<◌, length, drop, replicate}
use Rattle.wire.specs.Bytes.{words, splice, u64_bytes}
use Rattle.format.specs.Header.{header_at}
use Rattle.format.specs.Corridor.{upright, corridor, corridor_answer}
use Rattle.checks_calls.specs.Cases.{FirstWidth, PassesThree, bits_at}
use Rattle.thresholds.specs.Block.{block_fault, block000}
use Rattle.results.specs.Results.{Outcome, left_by}
use Rattle.results.specs.Calls.{reduce_result, reduce_by_list_result, mark_result, cards_result}

-- A map of 1 × 1 cells with no boundaries.
unfoldable pub one_cell : ℕ → List ℕ
unfolding words
one_cell c = words (1 ∷ 1 ∷ 0 ∷ 0 ∷ 0 ∷ 0 ∷ 48 ∷ 49 ∷ 49 ∷ 49 ∷ 49 ∷ 49 ∷ []) ++ (c ∷ [])

-- The corridor with a base, of any id, anchored in the second cell.
unfoldable pub anchored : ℕ → List ℕ
unfolding words upright
anchored id =
    words (4 ∷ 1 ∷ 1 ∷ 2 ∷ 0 ∷ 2 ∷ 48 ∷ 52 ∷ 64 ∷ 144 ∷ 144 ∷ 160 ∷ [])
    ++ ((1 ∷ 1 ∷ 1 ∷ 1 ∷ []) ++ (words (id ∷ 1 ∷ 0 ∷ []) ++ (upright 8 1 0 ++ (upright 16 1 0 ++ words (1 ∷ 2 ∷ 2 ∷ 1 ∷ [])))))

-- Two kept.
unfoldable pub anchored_answer : List ℕ
unfolding words upright
anchored_answer = words (2 ∷ 0 ∷ 2 ∷ 104 ∷ 104 ∷ 120 ∷ []) ++ (upright 8 1 0 ++ (upright 16 1 0 ++ words (1 ∷ 2 ∷ 2 ∷ 1 ∷ [])))

-- What a call leaves on the corridor's four cells: the labels, zeros to ten bytes a cell, and what was written at the start of the other slice;
-- nothing else is touched.
abbrev pub leaves : ℕ → List ℕ → List ℕ → List ℕ → List ℕ → Outcome
leaves detail labels written work out =
    record { number = 0; detail = detail; work = words labels ++ (replicate 24 0 ++ drop 40 work); out = splice out 0 written }

-- Reduce with the thresholds of source document 000 succeeds with these labels and this answer, wherever the slices are long enough.
abbrev pub Gives : List ℕ → List ℕ → List ℕ → Type 0
Gives job labels written =
    (work answer : List ℕ) → 40 ≤ length work → length written ≤ length answer
    → reduce_result job block000 work answer ≡ leaves (length written) labels written work answer

-- A list of the corridor's first span alone.
unfoldable pub one_span : List ℕ
unfolding words
one_span = words (8 ∷ 0 ∷ 8 ∷ 8 ∷ [])

-- The corridor's cards: cells, box, ramp, cells of each elevation.
unfoldable pub corridor_cards : List ℕ
unfolding words
corridor_cards =
    words (1 ∷ 0 ∷ 0 ∷ 8 ∷ 8 ∷ 0 ∷ 1 ∷ 0 ∷ 0 ∷ 0 ∷ [])
    ++ (words (1 ∷ 8 ∷ 0 ∷ 16 ∷ 8 ∷ 0 ∷ 1 ∷ 0 ∷ 0 ∷ 0 ∷ []) ++ words (2 ∷ 16 ∷ 0 ∷ 32 ∷ 8 ∷ 0 ∷ 2 ∷ 0 ∷ 0 ∷ 0 ∷ []))

-- The other calls on the corridor: both boundaries are chokes; and where spans and boundaries differ in number, sorted copies and no merge, whatever
-- the thresholds.
pub record OtherCalls : Type 0 where
  pub marks : (work marks : List ℕ) → 40 ≤ length work → 2 ≤ length marks
      → mark_result corridor work marks ≡ leaves 2 (1 ∷ 2 ∷ 3 ∷ 3 ∷ []) (1 ∷ 1 ∷ []) work marks
  pub by-list : (block work answer : List ℕ) → block_fault block ≡ false → 40 ≤ length work → length anchored_answer ≤ length answer
      → reduce_by_list_result corridor one_span block work answer ≡ leaves (length anchored_answer) (1 ∷ 2 ∷ 2 ∷ 2 ∷ []) anchored_answer work answer
  -- Area cards on it: three areas, the last of two cells
  pub cards : (work cards : List ℕ) → 40 ≤ length work → 120 ≤ length cards
      → cards_result corridor work cards ≡ leaves 120 (1 ∷ 2 ∷ 3 ∷ 3 ∷ []) corridor_cards work cards

-- Every call gives this refusal, whatever list, admitted thresholds and slices it has, and leaves the slices as they were.
pub record AllCallsRefuse (job : List ℕ) (number detail : ℕ) : Type 0 where
  pub reduce : (block work answer : List ℕ) → block_fault block ≡ false → reduce_result job block work answer ≡ left_by number detail work answer
  pub by-list : (list block work answer : List ℕ) → block_fault block ≡ false
      → reduce_by_list_result job list block work answer ≡ left_by number detail work answer
  pub mark : (work marks : List ℕ) → mark_result job work marks ≡ left_by number detail work marks
  pub cards : (work cards : List ℕ) → cards_result job work cards ≡ left_by number detail work cards

-- Refusal 32 comes "before 1": whatever the job, the list and the slices, which are left as they were.
pub record ThresholdsFirst (block : List ℕ) : Type 0 where
  pub reduce : (job work answer : List ℕ) → reduce_result job block work answer ≡ left_by 32 0 work answer
  pub by-list : (job list work answer : List ℕ) → reduce_by_list_result job list block work answer ≡ left_by 32 0 work answer

-- No call gives this number, whatever list, thresholds and slices it has.
pub record NoCallGives (job : List ℕ) (number : ℕ) : Type 0 where
  pub reduce : (block work answer : List ℕ) → (reduce_result job block work answer).number ≡ number → ⊥
  pub by-list : (list block work answer : List ℕ) → (reduce_by_list_result job list block work answer).number ≡ number → ⊥
  pub mark : (work marks : List ℕ) → (mark_result job work marks).number ≡ number → ⊥
  pub cards : (work cards : List ℕ) → (cards_result job work cards).number ≡ number → ⊥

-- The bits of -0: the sign alone.
abbrev pub negative_zero : ℕ
negative_zero = 0x8000_0000_0000_0000

-- The corridor, but the width of its second boundary is -0.
unfoldable pub negative : List ℕ
unfolding words upright
negative =
    words (4 ∷ 1 ∷ 0 ∷ 2 ∷ 0 ∷ 2 ∷ 48 ∷ 52 ∷ 52 ∷ 132 ∷ 132 ∷ 148 ∷ [])
    ++ ((1 ∷ 1 ∷ 1 ∷ 1 ∷ [])
    ++ (upright 8 1 0
    ++ (words (16 ∷ 0 ∷ 16 ∷ 8 ∷ []) ++ (u64_bytes negative_zero ++ words (1 ∷ 0 ∷ 0 ∷ 0 ∷ 1 ∷ 2 ∷ 2 ∷ 1 ∷ [])))))

-- 9: "Width bits of -0: 10." The detail is the boundary.
pub record NegativeZeroCase : Type 0 where
  pub refused : (job : List ℕ) (k : ℕ) → FirstWidth job k → bits_at job (header_at job).counts k ≡ negative_zero → AllCallsRefuse job 10 k
  -- a job that it speaks of, refused for its boundary 1
  pub first : FirstWidth negative 1
  pub shown : AllCallsRefuse negative 10 1

-- The header of a map of 1 × 1 cells with n boundaries, and nothing after it.
unfoldable pub counted : ℕ → List ℕ
unfolding words
counted n = words (1 ∷ 1 ∷ 0 ∷ n ∷ 0 ∷ 0 ∷ 48 ∷ 49 ∷ 49 ∷ (49 + 40 * n) ∷ (49 + 40 * n) ∷ (49 + 40 * n) ∷ [])

-- 10: "257 boundaries: 4, detail 257; 256 pass that check."
pub record CountCase : Type 0 where
  pub refused : (job : List ℕ) → PassesThree job → (header_at job).counts.boundaries ≡ 257 → AllCallsRefuse job 4 257
  pub passed : (job : List ℕ) → (header_at job).counts.boundaries ≡ 256 → NoCallGives job 4
  -- headers that they speak of: with 257 it is 4, with 256 the next, for a job that ends with its header
  pub three : PassesThree (counted 257)
  pub shown : AllCallsRefuse (counted 257) 4 257
  pub shown-passed : AllCallsRefuse (counted 256) 5 0

-- What is left on one cell: "a u32 label per cell first", 1 where it is walkable, "then zeros to ten times the cells; later bytes are
-- unchanged"; and an answer of nothing.
abbrev pub leaves_one : ℕ → List ℕ → List ℕ → Outcome
leaves_one c work answer =
    left_by 0 24 (words (c % 2 ∷ []) ++ (replicate 6 0 ++ drop 10 work)) (splice answer 0 (words (0 ∷ 0 ∷ 0 ∷ 24 ∷ 24 ∷ 24 ∷ [])))

-- 11: "Map 1 × 1, no boundaries: words 0, 0, 0, 24, 24, 24", whatever the cell and the thresholds are; by a list of no spans as well.
pub record OneCellCase : Type 0 where
  pub reduced : (c : ℕ) → c < 32 → (block work answer : List ℕ) → block_fault block ≡ false → 10 ≤ length work → 24 ≤ length answer
      → reduce_result (one_cell c) block work answer ≡ leaves_one c work answer
  pub by-list : (c : ℕ) → c < 32 → (block work answer : List ℕ) → block_fault block ≡ false → 10 ≤ length work → 24 ≤ length answer
      → reduce_by_list_result (one_cell c) [] block work answer ≡ leaves_one c work answer

-- 12: "The corridor below; with an anchor in its second cell, 2 kept."
pub record CorridorCase : Type 0 where
  -- "Job 148 bytes, answer 152."
  pub job-long : length corridor ≡ 148
  pub answer-long : length corridor_answer ≡ 152
  pub reduced : Gives corridor (1 ∷ 2 ∷ 3 ∷ 3 ∷ []) corridor_answer
  -- whatever the base's id
  pub anchored-reduced : (id : ℕ) → Gives (anchored id) (1 ∷ 2 ∷ 3 ∷ 3 ∷ []) anchored_answer
