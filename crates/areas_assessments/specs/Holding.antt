-- An assessment, held in numbers and in two arrays.
use Rattle.std.specs.Prelude.{◌≡◌, List, ◌++◌, ℕ, ◌+◌, ◌≤◌, ◌<◌, length}
use Rattle.lists.specs.Rows.{at, rows}
use Rattle.graph.specs.Path.{Edge}
use Rattle.areas.specs.Assessments.{RegionPair, Assessment, assessment}
use Rattle.areas_assessments.specs.declared.steps.Assessed.{Assessed}
use Rattle.areas_assessments.specs.Stored.{pair_at}

-- n pairs from place start on
unfoldable pub pairs_in : List ℕ → List ℕ → ℕ → ℕ → List RegionPair
pairs_in lefts rights start n = rows n (λ k. pair_at lefts rights (start + k))

-- the pairs ps stand from start to end, and what stood before start is as it was; where most places are too few, the end is one more
pub record PairsListed (most : ℕ) (ps : List RegionPair) (lefts₀ rights₀ : List ℕ) (start : ℕ) (lefts rights : List ℕ) (end : ℕ) : Type 0 where
  pub left-kept : (j : ℕ) → j < start → at lefts j ≡ at lefts₀ j
  pub right_kept : (j : ℕ) → j < start → at rights j ≡ at rights₀ j
  pub fits : start + length ps ≤ most → (end ≡ start + length ps) × (pairs_in lefts rights start (length ps) ≡ ps)
  pub over : most < start + length ps → end ≡ most + 1

-- the counts and the pairs are those of a
pub record HoldsAssessment (most : ℕ) (a : Assessment) (lefts₀ rights₀ : List ℕ) (start : ℕ) (lefts rights : List ℕ) (s : Assessed) : Type 0 where
  pub removed : s.removed ≡ a.removed
  pub separated : s.separated ≡ a.separated
  pub pairs : PairsListed most a.pairs lefts₀ rights₀ start lefts rights s.end

-- the steps es are assessed besides those before
abbrev pub Advances : ℕ → List ℕ → List Edge → ℕ → List ℕ → List ℕ → Assessed → List ℕ → List ℕ → Assessed → Type 0
Advances most ls es start lefts rights s lefts' rights' s' =
    (lefts₀ rights₀ : List ℕ) (ds : List Edge) → HoldsAssessment most (assessment ls ds) lefts₀ rights₀ start lefts rights s →
    HoldsAssessment most (assessment ls (ds ++ es)) lefts₀ rights₀ start lefts' rights' s'

-- there is room for m more steps, in arrays of one length
pub record StepRoom (start m : ℕ) (lefts rights : List ℕ) (s : Assessed) : Type 0 where
  pub from : start ≤ s.end
  pub to : s.end ≤ length lefts + 1
  pub removed : s.removed + m ≤ 0xFFFF_FFFF
  pub separated : s.separated + m ≤ 0xFFFF_FFFF
  pub alike : length rights ≡ length lefts
  pub few : length lefts ≤ 4096

-- at most m steps more, and the end at most one past most places
pub record Grown (most start m : ℕ) (s t : Assessed) : Type 0 where
  pub from : start ≤ t.end
  pub to : t.end ≤ most + 1
  pub removed : t.removed ≤ s.removed + m
  pub separated : t.separated ≤ s.separated + m
