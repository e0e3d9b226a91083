-- Cleared arrays, as a walk takes them.
use mathlib.Core.Path.{◌≡◌, refl}
use mathlib.Core.Logic.{by_cases}
use Prim.Native.Nat.{ℕ, ◌*◌, ◌≤◌}
use native.Mathlib.Omega.{arith}
use native.Mathlib.Decide.{dec_lt}
use lib.ListN.{length, replicate, length-replicate, get_or-replicate, get_or-eq_default}
use Rattle.serial_walk.specs.Slices.{Lent}

-- n words for records, m for regions, and v where no record is chained
module _ (K n m v : ℕ) (records : K ≤ n) (regions : 2 * K ≤ m) (near : m ≤ 8192) (none : K ≤ v) where
  many : length (replicate {A = ℕ} m 0) ≡ length (replicate m v)
  many = omega (arith, length-replicate {A = ℕ} m 0, length-replicate {A = ℕ} m v)

  room : K ≤ length (replicate {A = ℕ} n 0)
  room = omega (arith, length-replicate {A = ℕ} n 0)

  pub cleared : Lent K (length (replicate m v)) (replicate n 0) (replicate n 0) (replicate m v) (replicate n 0) (replicate n 0) (replicate m 0) (replicate m 0)
      (replicate m 0) (replicate m 0) (replicate m 0)
  cleared = record {
    enough = omega (arith, length-replicate {A = ℕ} m v);
    near = omega (arith, length-replicate {A = ℕ} m v);
    small-lefts-are = room;
    small-rights-are = room;
    heads-are = refl;
    left-nexts-are = room;
    right-nexts-are = room;
    sized = record { disc-are = many; stack-are = many; parents-are = many; nexts-are = many; lows-are = many };
    unchained = λ x l. omega (arith, get_or-replicate m x v 0 (omega (arith, length-replicate {A = ℕ} m v)));
    unfound = λ x.
        by_cases (dec_lt x m) (λ l. get_or-replicate m x 0 0 l) (λ l. get_or-eq_default (replicate m 0) 0 (omega (arith, length-replicate {A = ℕ} m 0)));
  }
