-- A bound for squares of doubled differences.
use Prim.Native.Nat.{ℕ, ◌*◌, ◌≤◌}
use native.Mathlib.Nat.{mul-le-mul}

pub square-most : {n : ℕ} → n ≤ 16384 → n * n ≤ 268435456
square-most h = mul-le-mul h h
