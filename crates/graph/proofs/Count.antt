-- Laws of `count`.
use mathlib.Core.Path.{◌≡◌, ap}
use mathlib.Core.Logic.{by_cases}
use mathlib.Core.Bool.{Bool, true, false}
use Prim.Native.Nat.{ℕ, zero, suc, ◌≤◌, ◌<◌}
use native.Mathlib.Omega.{arith}
use native.Mathlib.Decide.{dec_le, ℕ_discrete}
use Rattle.order.proofs.Bools.{by-test}
use Rattle.graph.specs.Labels.{count}

module _ (t : ℕ → Bool) where
  pub count_yes : (n : ℕ) → t n ≡ true → count t (suc n) ≡ suc (count t n)
  unfolding count
  count_yes n e = rw e (omega arith)

  count_no : (n : ℕ) → t n ≡ false → count t (suc n) ≡ count t n
  unfolding count
  count_no n e = rw e (omega arith)

  count-up : (n : ℕ) → count t n ≤ count t (suc n)
  count-up n = by-test (t n) (λ e. omega (arith, count_yes n e)) (λ e. omega (arith, count_no n e))

  pub count-le : (m n : ℕ) → m ≤ n → count t m ≤ count t n
  count-le m zero l = let e : m ≡ 0 = omega arith in omega (arith, ap (count t) e)
  count-le m (suc n) l = by_cases (ℕ_discrete m (suc n)) (λ e. omega (arith, ap (count t) e)) (λ h. omega (arith, count-le m n (omega arith), count-up n))

  -- more are counted past one that passes
  pub count-lt : (m n : ℕ) → m < n → t m ≡ true → count t m < count t n
  count-lt m n l e = omega (arith, count-le (suc m) n l, count_yes m e)

  -- each number up to the count is reached at one that passes
  pub count_at : (n v : ℕ) → 0 < v → v ≤ count t n → (j : ℕ) × (j < n) × (t j ≡ true) × (count t (suc j) ≡ v)
  unfolding count
  count_at zero v p l = absurd (omega arith)
  count_at (suc n) v p l =
      by_cases (dec_le v (count t n)) (λ h. let r = count_at n v p h in (r.0, omega arith, r.2, r.3)) λ h.
      by-test (t n) (λ e. (n, omega arith, e, omega (arith, count_yes n e))) (λ e. absurd (omega (arith, count_no n e)))
