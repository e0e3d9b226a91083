-- What a span does to the areas. Document 01: "An assessment counts removed steps and those with different labels,
-- and lists the sorted, unique label pairs."
use Rattle.std.specs.Prelude.{◌≡◌, Bool, not, ℕ, suc, min, max, eqb}
use mathlib.Core.List.{List, [], ◌∷◌, ◌++◌, map, Memᴰ}
use Rattle.std.proofs.Math.ListN.{length}
use Rattle.order.specs.Lists.{keep}
use Rattle.order.specs.Keys.{lex_le, sort_once_by}
use Rattle.order.specs.Sorting.{sort_once}
use Rattle.position.specs.declared.Span.{Span}
use Rattle.graph.specs.Path.{Edge}
use Rattle.graph.specs.Records.{Record}
use Rattle.grid.specs.Cells.{Grid}
use Rattle.areas.specs.Cuts.{cut_steps}
use Rattle.areas.specs.Areas.{area_labels, label_at}

-- the labels of two regions
pub record RegionPair : Type 0 where
  pub lower : ℕ
  pub higher : ℕ

-- the pair of a lower and a higher label
abbrev pub region_pair : ℕ → ℕ → RegionPair
region_pair lower higher = record { lower = lower; higher = higher }

pub record Assessment : Type 0 where
  pub removed : ℕ
  pub separated : ℕ
  pub pairs : List RegionPair

-- pairs are in order by the lower label, then by the higher
abbrev pub pair_key : RegionPair → List ℕ
pair_key p = p.lower ∷ p.higher ∷ []

module _ (ls : List ℕ) where
  -- the ends of the step have different labels
  abbrev pub is_separated : Edge → Bool
  is_separated e = not (eqb (label_at ls e.left) (label_at ls e.right))

  abbrev pub label_pair : Edge → RegionPair
  label_pair e = record { lower = min (label_at ls e.left) (label_at ls e.right); higher = max (label_at ls e.left) (label_at ls e.right) }

  -- of the steps that a span removes, by the labels of the cells
  unfoldable pub assessment : List Edge → Assessment
  unfolding keep sort_once lex_le
  assessment es =
      record { removed = length es; separated = length (keep is_separated es); pairs = sort_once_by pair_key (map label_pair (keep is_separated es)) }

-- the meaning of a pair: some step of es has ends of different labels, and those make the pair
pub record PairOf (ls : List ℕ) (es : List Edge) (p : RegionPair) : Type 0 where
  pub step : Edge
  pub among : Memᴰ step es
  pub differ : label_at ls step.left ≡ label_at ls step.right → ⊥
  pub labels : label_pair ls step ≡ p

module _ (dirs : List ℕ) (g : Grid) (ss : List Span) where
  -- of a span, where the areas are those that all the spans make
  unfoldable pub assess : Span → Assessment
  unfolding assessment area_labels cut_steps
  assess s = assessment (area_labels dirs g ss) (cut_steps dirs g s)

-- a pair as a record of an owner, and back
abbrev pub record_of : ℕ → RegionPair → Record
record_of i p = record { owner = i; left = p.lower; right = p.higher }

abbrev pub regions_of : Record → RegionPair
regions_of r = record { lower = r.left; higher = r.right }

-- the pairs of each span, for owners numbered from i
unfoldable pub owned : ℕ → List (List RegionPair) → List Record
owned i [] = []
owned i (ps ∷ rest) = map (record_of i) ps ++ owned (suc i) rest

-- "Each region pair of each boundary is one record": in the order of the spans, a span's place being the owner
unfoldable pub records : List ℕ → Grid → List Span → List Record
unfolding owned assess
records dirs g ss = owned 0 (map (λ s. (assess dirs g ss s).pairs) ss)
