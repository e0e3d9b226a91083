-- On a map of at most 1,024 × 1,024 cells D is at most 2 ^ 29, so a distance is the f64 nearest to √D ÷ 2.
use Prim.Native.Nat.{ℕ, ◌*◌, ◌^◌, ◌≤◌}
use native.Mathlib.Nat.{mul-le-mul}
use native.Mathlib.Omega.{arith}
use Rattle.length.specs.Nearest.{NearestLength}
use Rattle.length.proofs.Lengths.{length-nearest}
use Rattle.serial_links.specs.Geometry.{DoubledPoint, apart, squares, distance}

-- no coordinate of a doubled point is past the doubled edge of the largest map
pub record OnMap (p : DoubledPoint) : Type 0 where
  pub column : p.x ≤ 2 ^ 14
  pub row : p.y ≤ 2 ^ 14

square-small : (m n : ℕ) → m ≤ 2 ^ 14 → n ≤ 2 ^ 14 → apart m n * apart m n ≤ 2 ^ 28
square-small m n h k = let l : apart m n ≤ 2 ^ 14 = omega arith in mul-le-mul l l

pub squares-small : (p q : DoubledPoint) → OnMap p → OnMap q → squares p q ≤ 2 ^ 29
unfolding squares
squares-small p q h k = omega (arith, square-small p.x q.x h.column k.column, square-small p.y q.y h.row k.row)

pub distance-nearest : (p q : DoubledPoint) → OnMap p → OnMap q → NearestLength (squares p q) (distance p q)
distance-nearest p q h k = length-nearest (squares p q) (squares-small p q h k)
