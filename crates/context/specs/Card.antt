-- What cards say of the areas, over the cells of a map and their labels: the request's words, without the statistics that cards are made from.
use Rattle.std.specs.Prelude.{◌≡◌, ◌↔◌, true, List, ℕ, ◌+◌, ◌*◌, ◌≤◌, ◌<◌, length}
use Rattle.std.proofs.Math.Dec.{eqb}
use Rattle.lists.specs.Rows.{rows, sum}
use Rattle.order.specs.Lists.{keep, up_from}
use Rattle.wire.specs.Bytes.{u32_at}
use Rattle.grid.specs.Cells.{Grid, size, walkable, ramp_cell, elevation, column_of, row_of}
use Rattle.context.specs.Cards.{card_size}

module _ (g : Grid) (label : ℕ → ℕ) where
  -- the cells with the label v
  unfoldable pub cells_of : ℕ → List ℕ
  unfolding keep up_from
  cells_of v = keep (λ i. eqb v (label i)) (up_from 0 (size g))

  pub record InArea (v i : ℕ) : Type 0 where
    pub on : i < size g
    pub has : label i ≡ v

  -- no cell of the area gives less, or more, and one gives just this
  pub record LeastIn (v : ℕ) (f : ℕ → ℕ) (n : ℕ) : Type 0 where
    pub below : (i : ℕ) → InArea v i → n ≤ f i
    pub at : ℕ
    pub inside : InArea v at
    pub met : f at ≡ n

  pub record GreatestIn (v : ℕ) (f : ℕ → ℕ) (n : ℕ) : Type 0 where
    pub above : (i : ℕ) → InArea v i → f i ≤ n
    pub at : ℕ
    pub inside : InArea v at
    pub met : f at ≡ n

  -- some cell of the area is a ramp
  pub record RampIn (v : ℕ) : Type 0 where
    pub at : ℕ
    pub inside : InArea v at
    pub is : ramp_cell g at ≡ true

  -- The ten words of the card of label v.
  pub record CardSays (v : ℕ) (word : ℕ → ℕ) : Type 0 where
    -- "its cell count"; each area has a cell
    pub cells : word 0 ≡ length (cells_of v)
    pub some : 0 < word 0
    -- "its pixel box (lowest column and row, highest column and row)"; "Box edges are whole pixels."
    pub left : LeastIn v (λ i. 8 * column_of g i) (word 1)
    pub top : LeastIn v (λ i. 8 * row_of g i) (word 2)
    pub right : GreatestIn v (λ i. 8 * column_of g i + 8) (word 3)
    pub bottom : GreatestIn v (λ i. 8 * row_of g i + 8) (word 4)
    -- "1 or 0 for a ramp"
    pub ramp : (word 5 ≡ 1) ↔ RampIn v
    pub flat : (word 5 ≡ 0) ↔ (RampIn v → ⊥)
    -- "and its four elevation counts": together they are its cells
    pub levels : (e : ℕ) → e < 4 → word (6 + e) ≡ length (keep (λ i. eqb (elevation g i) e) (cells_of v))
    pub levels-sum : word 6 + word 7 + word 8 + word 9 ≡ word 0

  -- The cards of the labels 1 to n, without gaps: that of label 1 + k at 40 times k.
  pub record CardsSay (n : ℕ) (bytes : List ℕ) : Type 0 where
    pub long : length bytes ≡ card_size * n
    pub each : (k : ℕ) → k < n → CardSays (1 + k) (λ w. u32_at bytes (card_size * k + 4 * w))
    -- "The cell counts over all cards add up to the walkable cells, which the map defines."
    pub total : sum (rows n (λ k. u32_at bytes (card_size * k))) ≡ length (keep (walkable g) (up_from 0 (size g)))
