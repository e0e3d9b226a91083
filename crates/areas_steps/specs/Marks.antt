-- Bytes that are held in a part of a slice, and such bytes while one more span is taken into account.
use Rattle.std.specs.Prelude.{◌≡◌, cond, List, [], ◌∷◌, ◌++◌, ℕ, ◌+◌, ◌*◌, ◌<◌, ◌≤◌, length, get_or}
use Rattle.position.specs.declared.Span.{Span}
use Rattle.grid.specs.Cells.{Grid, Whole, size}
use Rattle.areas.specs.Open.{open_byte}
use Rattle.areas.specs.Strip.{tall, major_of, minor_of}

-- a map of these sides
pub record MapOf (width height : ℕ) (g : Grid) : Type 0 where
  pub columns : g.width ≡ width
  pub rows : g.height ≡ height
  pub whole : Whole g

-- work holds f 0, …, f (n − 1) from base on, and else what it held before
pub record WorkHolds (base n : ℕ) (f : ℕ → ℕ) (before work : List ℕ) : Type 0 where
  pub long : length work ≡ length before
  pub here : (i : ℕ) → i < n → get_or work (base + i) 0 ≡ f i
  pub rest : (j : ℕ) → (base ≤ j → j < base + n → ⊥) → get_or work j 0 ≡ get_or before j 0

-- the order in which the cells of a span's strip are visited: along the span, then on the other axis
unfoldable pub rank_at : Span → ℕ → ℕ → ℕ
unfolding tall
rank_at s column row = cond (tall s) row column * 1024 + cond (tall s) column row

abbrev pub rank : Grid → Span → ℕ → ℕ
rank g s i = major_of g s i * 1024 + minor_of g s i

-- the cells of rank below k have the bytes with span s, and the others those without
pub record Half (base : ℕ) (g : Grid) (dirs : List ℕ) (ss : List Span) (s : Span) (k : ℕ) (before work : List ℕ) : Type 0 where
  pub long : length work ≡ length before
  pub done : (i : ℕ) → i < size g → rank g s i < k → get_or work (base + i) 0 ≡ open_byte dirs g (ss ++ (s ∷ [])) i
  pub left : (i : ℕ) → i < size g → k ≤ rank g s i → get_or work (base + i) 0 ≡ open_byte dirs g ss i
  pub rest : (j : ℕ) → (base ≤ j → j < base + size g → ⊥) → get_or work j 0 ≡ get_or before j 0

-- from one list to another, the cells of rank from j to k get the bytes with span s
abbrev pub Closes : ℕ → ℕ → ℕ → Span → ℕ → ℕ → List ℕ → List ℕ → Type 0
Closes width height base s j k from to =
    (g : Grid) (dirs : List ℕ) (ss : List Span) (before : List ℕ) → MapOf width height g → Half base g dirs ss s j before from
    → Half base g dirs ss s k before to
