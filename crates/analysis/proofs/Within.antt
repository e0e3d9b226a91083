-- A partition with room for few region pairs, and one after it with room for more.
use mathlib.Core.Path.{◌≡◌, ◌∙◌, ap}
use mathlib.Core.Logic.{◌⊎◌, ⊎_elim, by_cases}
use mathlib.Core.List.{List}
use Prim.Native.Nat.{ℕ, ◌≤◌, ◌<◌}
use native.Mathlib.Decide.{dec_lt}
use native.Mathlib.Omega.{arith}
use lib.ListN.{length, replicate, length-replicate}
use Rattle.areas.specs.Words.{labelled}
use Rattle.areas_assessments.specs.Recording.{Arrays}
use Rattle.areas_assessments.proofs.Recording.{zero-arrays}
use Rattle.graph.specs.Records.{Record}
use Rattle.results.specs.Results.{max_pairs}
use Rattle.analysis.specs.Bridging.{few_pairs, PartedWithin}
use Rattle.analysis.proofs.Bridging.{labelled-again}

-- either room fits
pub room_fits : {most : ℕ} → (most ≡ few_pairs) ⊎ (most ≡ max_pairs) → most ≤ max_pairs
room_fits r = ⊎_elim (λ e. omega arith) (λ e. omega arith) r

-- arrays of zeros, with as much room as their length tells
pub zero-room : (most : ℕ) → most ≤ 4096
    → Arrays (length (replicate {A = ℕ} most 0)) (replicate 256 0) (replicate 256 0) (replicate most 0) (replicate most 0) (replicate most 0)
zero-room most h = rw (length-replicate {A = ℕ} most 0) (zero-arrays most h)

module _ {most : ℕ} {ls : List ℕ} {rs : List Record} {Told : Type 0} {before work : List ℕ} {pairs : ℕ}
    (y : PartedWithin most ls rs Told before work pairs) where
  pub parted-many : most < pairs → most < length rs
  parted-many h = by_cases (dec_lt most (length rs)) (λ l. l) (λ l. let z = y.pairs-are (omega arith) in absurd (omega arith))

  pub parted-few : pairs ≤ most → length rs ≤ most
  parted-few h = by_cases (dec_lt most (length rs)) (λ l. let z = y.over l in absurd (omega arith)) (λ l. omega arith)

  -- nothing is told where they are over `most`
  pub parted-over : {Then : Type 0} → most < pairs → PartedWithin most ls rs Then before work pairs
  parted-over h = record { work-is = y.work-is; over = y.over; pairs-are = y.pairs-are; told = λ few. absurd (omega (arith, y.pairs-are few)) }

  -- what follows from what is told, the work being as it was
  pub parted-then : {Then : Type 0} {after : List ℕ} → after ≡ work → (Told → Then) → PartedWithin most ls rs Then before after pairs
  parted-then e f = record { work-is = e ∙ y.work-is; over = y.over; pairs-are = y.pairs-are; told = λ few. f (y.told few) }

  -- more room would not have been used
  pub parted-wider : {more : ℕ} → most ≤ more → pairs ≤ most → PartedWithin more ls rs Told before work pairs
  parted-wider h l = let f = parted-few l in record {
    work-is = y.work-is;
    over = λ o. absurd (omega arith);
    pairs-are = λ o. y.pairs-are f;
    told = λ o. y.told f;
  }

  -- a partition by the same spans that begins on what the first one left
  pub parted-again : {more : ℕ} {Then : Type 0} {after : List ℕ} {found : ℕ} → PartedWithin more ls rs Then work after found
      → PartedWithin more ls rs Then before after found
  parted-again z = record {
    work-is = z.work-is ∙ (ap (labelled ls) y.work-is ∙ labelled-again ls before);
    over = z.over;
    pairs-are = z.pairs-are;
    told = z.told;
  }
