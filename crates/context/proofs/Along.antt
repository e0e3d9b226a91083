-- Columns and rows counted along the cells.
use mathlib.Core.Path.{◌≡◌, sym, ◌∙◌, ap}
use mathlib.Core.Logic.{by_cases}
use Prim.Native.Nat.{ℕ, ◌+◌, ◌*◌, ◌/◌, ◌%◌, ◌<◌}
use native.Mathlib.Omega.{arith}
use native.Mathlib.Decide.{ℕ_discrete}
use Rattle.grid.specs.Cells.{Grid}
use Rattle.grid.proofs.Index.{column-of, row-of}

-- the cell of a column and a row
pub place_of : (g : Grid) {x y i : ℕ} → y * g.width + x ≡ i → x < g.width → (x ≡ i % g.width) × (y ≡ i / g.width)
place_of g {x} {y} e l = (sym (column-of g x y l) ∙ ap (λ (z : ℕ). z % g.width) e, sym (row-of g x y l) ∙ ap (λ (z : ℕ). z / g.width) e)

-- the next one
pub next_place : {x y w i c r : ℕ} → y * w + x ≡ i → x < w → (x + 1 ≡ w → c ≡ 0) × ((x + 1 ≡ w → ⊥) → c ≡ x + 1) → (x + 1 ≡ w → r ≡ y + 1)
    × ((x + 1 ≡ w → ⊥) → r ≡ y)
    → (r * w + c ≡ i + 1) × (c < w)
next_place {x} {y} {w} {i} {c} {r} e l p q =
    by_cases (ℕ_discrete (x + 1) w)
    (λ h.
    let a = p.0 h in
    let m : r * w ≡ (y + 1) * w = ap (λ (z : ℕ). z * w) (q.0 h) in
    (omega (arith, m, a, h, e), omega (arith, a, l)))
    (λ h.
    let a = p.1 h in
    let m : r * w ≡ y * w = ap (λ (z : ℕ). z * w) (q.1 h) in
    (omega (arith, m, a, e), omega (arith, a, h, l)))
