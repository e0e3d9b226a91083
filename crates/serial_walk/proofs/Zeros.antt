-- One value changed, and how many values are 0.
use mathlib.Core.Path.{◌≡◌, refl, sym, ◌∙◌, ap}
use mathlib.Core.Logic.{by_cases}
use mathlib.Core.Bool.{Bool, true, false}
use Prim.Native.Nat.{ℕ, zero, suc, ◌+◌, ◌≤◌, ◌<◌}
use native.Mathlib.Omega.{arith}
use native.Mathlib.Decide.{ℕ_discrete}
use borrow.Author.Tests.{eq-eqb, ne_eqb}
use lib.Dec.{eqb}
use Rattle.serial_walk.specs.Walk.{unit, zero_count}

-- g is f with v at i
pub record Upd (f g : ℕ → ℕ) (i v : ℕ) : Type 0 where
  pub at : g i ≡ v
  pub off : (j : ℕ) → (j ≡ i → ⊥) → g j ≡ f j

zeros-same : (f g : ℕ → ℕ) (n : ℕ) → ((j : ℕ) → j < n → g j ≡ f j) → zero_count g n ≡ zero_count f n
zeros-same f g zero h = refl
zeros-same f g (suc n) h =
    let e : zero_count g n ≡ zero_count f n = zeros-same f g n (λ j l. h j (omega arith)) in
    let t : g n ≡ f n = h n (omega arith) in
    cc

pub zeros-le : (f : ℕ → ℕ) (n : ℕ) → zero_count f n ≤ n
zeros-le f zero = omega arith
zeros-le f (suc n) = omega (arith, zeros-le f n, small (eqb (f n) 0))
  where
    small : (b : Bool) → unit b ≤ 1
    small true = omega arith
    small false = omega arith

-- a 0 that is overwritten is one less
pub zeros-upd : (f g : ℕ → ℕ) (i v n : ℕ) → Upd f g i v → i < n → f i ≡ 0 → 0 < v → zero_count g n + 1 ≡ zero_count f n
zeros-upd f g i v zero u l z p = absurd (omega arith)
zeros-upd f g i v (suc n) u l z p = by_cases (ℕ_discrete n i) last (λ h. before h (zeros-upd f g i v n u (omega arith) z p))
  where
    last : n ≡ i → zero_count g (suc n) + 1 ≡ zero_count f (suc n)
    last e =
        let a : eqb (f n) 0 ≡ true = eq-eqb (f n) 0 (ap f e ∙ z) in
        let gv : g n ≡ v = ap g e ∙ u.at in
        let b : eqb (g n) 0 ≡ false = ne_eqb (g n) 0 (λ q. omega arith) in
        let s : zero_count g n ≡ zero_count f n = zeros-same f g n (λ j k. u.off j (λ q. omega arith)) in
        omega (arith, ap unit a, ap unit b)

    before : (n ≡ i → ⊥) → zero_count g n + 1 ≡ zero_count f n → zero_count g (suc n) + 1 ≡ zero_count f (suc n)
    before h r =
        let s : g n ≡ f n = u.off n h in
        omega (arith, ap (λ (x : ℕ). unit (eqb x 0)) s)

pub zeros-pos : (f : ℕ → ℕ) (i n : ℕ) → i < n → f i ≡ 0 → 0 < zero_count f n
zeros-pos f i zero l z = absurd (omega arith)
zeros-pos f i (suc n) l z =
    by_cases (ℕ_discrete i n)
    (λ e. omega (arith, ap unit (eq-eqb (f n) 0 (sym (ap f e) ∙ z))))
    (λ h. omega (arith, zeros-pos f i n (omega arith) z))
