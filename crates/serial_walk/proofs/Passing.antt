-- The state of a bridge walk with no frame: before the first region, past a record, and past the last.
use mathlib.Core.Path.{◌≡◌, refl, sym, subst}
use mathlib.Core.Logic.{⊎_elim, by_cases}
use Prim.Native.Nat.{ℕ, ◌+◌, ◌≤◌, ◌<◌}
use native.Mathlib.Omega.{arith}
use native.Mathlib.Decide.{ℕ_discrete}
use Rattle.serial_walk.specs.Walk.{zero_count, forth, Parted, Walk}

module _ (K : ℕ) (lf rt : ℕ → ℕ) where
  -- nothing is found yet
  pub nothing : {R : ℕ} {Told : ℕ → Type 0} {disc st pr nx lw : ℕ → ℕ} → ((x : ℕ) → disc x ≡ 0) → zero_count disc R ≤ R
      → Walk K lf rt R 0 Told disc st pr nx lw 0 0
  nothing z le = record {
    timed = λ x. omega (arith, z x);
    found = λ m l. absurd (omega arith);
    inside = λ m l. absurd (omega arith);
    rising = λ m q l b. absurd (omega arith);
    tree = λ m l. absurd (omega arith);
    root = λ l. absurd (omega arith);
    low = λ m l. absurd (omega arith);
    known = λ x j w p s k t. absurd (omega (arith, z x));
    reach = λ m x j w l d s k o t. absurd (omega arith);
    old = λ x p. absurd (omega (arith, z x));
    settled = λ x j w p s k t. absurd (omega (arith, z x));
    passed = λ x l. absurd (omega arith);
    room = omega arith;
    count = omega arith;
  }

  -- every record is passed: each that is a bridge is told
  pub end : {R : ℕ} {Told : ℕ → Type 0} {disc st pr nx lw : ℕ → ℕ} {time : ℕ} → Walk K lf rt R K Told disc st pr nx lw 0 time → (j : ℕ) → j < K
      → Parted K lf rt j → Told j
  end {pr = pr} {nx} W j k b =
      ⊎_elim (λ f. f b) (λ f. absurd (omega (arith, f.below))) (W.settled (lf j) j (rt j) (W.passed j k) (λ m a e. absurd (omega arith)) k (forth refl refl))

  -- a record whose end was found is passed
  pub step-on : {R r : ℕ} {Told : ℕ → Type 0} {disc st pr nx lw : ℕ → ℕ} {h time : ℕ} → Walk K lf rt R r Told disc st pr nx lw h time → 0 < disc (lf r) →
      Walk K lf rt R (r + 1) Told disc st pr nx lw h time
  step-on {r = r} {disc = disc} W p = record {
    timed = W.timed;
    found = W.found;
    inside = W.inside;
    rising = W.rising;
    tree = W.tree;
    root = W.root;
    low = W.low;
    known = W.known;
    reach = W.reach;
    old = W.old;
    settled = W.settled;
    passed = λ k l. by_cases (ℕ_discrete k r) (λ e. subst (λ (y : ℕ). 0 < disc (lf y)) (sym e) p) (λ e. W.passed k (omega arith));
    room = W.room;
    count = W.count;
  }
