-- The walk along the links: where it leads, and what it passes.
use mathlib.Core.Path.{◌≡◌, refl, sym, ◌∙◌, ap, subst}
use mathlib.Core.Bool.{true, false}
use mathlib.Core.Logic.{by_cases}
use mathlib.Core.List.{List}
use Prim.Native.Nat.{ℕ, zero, suc, ◌+◌, ◌-◌, ◌*◌, ◌/◌, ◌%◌, ◌≤◌, ◌<◌}
use native.Mathlib.Nat.{mul-le-mul_right}
use native.Mathlib.Omega.{arith}
use native.Mathlib.Decide.{dec_lt, ℕ_discrete}
use lib.ListN.{get_or}
use Rattle.order.proofs.Bools.{clash}
use Rattle.answer_firsts.specs.Links.{mix, head_of, halves, link_cell, link_at, source_no, Linked, Walking, Looked}

pub mix-small : (x : ℕ) → mix x ≤ 0x3FFF
unfolding mix
mix-small x = omega arith

pub head_small : (heads x : ℕ) → 0 < heads → head_of heads x < heads
unfolding head_of
head_small heads x h = let e : mix x * heads ≤ 0x3FFF * heads = mul-le-mul_right heads (mix-small x) in omega arith

pub cell-next : (heads : ℕ) (links : List ℕ) (x d : ℕ) → link_cell heads links x (d + 1) ≡ heads + 2 * (link_at heads links x d - 1) + halves x d % 2
unfolding link_cell
cell-next heads links x d = ap (link_cell heads links x) (let e : d + 1 ≡ suc d = omega arith in e)

module _ {heads : ℕ} {job : List ℕ} {base first count : ℕ} {links places : List ℕ} (g : Linked heads job base first count links places)
    (some : 0 < heads) where
  -- over occupied cells a walk stays within the cells of the numbers
  pub cell-within : (x d : ℕ) → ((e : ℕ) → e < d → first < link_at heads links x e) → link_cell heads links x d < heads + 2 * count
  unfolding link_cell
  cell-within x zero along = let h = head_small heads x some in omega arith
  cell-within x (suc d) along =
      let here = cell-within x d (λ e h. along e (omega arith)) in
      let most = g.cells (link_cell heads links x d) here in
      let some = along d (omega arith) in
      omega arith

  pub walking_start : (x v : ℕ) {cell : ℕ} → cell ≡ head_of heads x → v ≡ get_or links cell 0 → Walking heads job base first links places x cell x v
  unfolding link_cell halves
  walking_start x v e f = record { steps = 0; there = e; digits = refl; value = f; along = λ i h. absurd (omega arith); passed = λ i h. absurd (omega arith) }

  module _ {x cell y v : ℕ} (w : Walking heads job base first links places x cell y v) where
    pub walking-within : cell < heads + 2 * count
    walking-within = subst (λ (c : ℕ). c < heads + 2 * count) (sym w.there) (cell-within x w.steps w.along)

    pub walking-most : v ≤ count
    walking-most = subst (λ (n : ℕ). n ≤ count) (sym w.value) (g.cells cell walking-within)

    pub walking_on : first < v → cell < heads + 2 * (v - 1)
    walking_on h = subst (λ (n : ℕ). cell < heads + 2 * (n - 1)) (sym w.value) (g.onward cell walking-within (subst (λ (n : ℕ). first < n) w.value h))

    link-now : link_at heads links x w.steps ≡ v
    link-now = ap (λ (c : ℕ). get_or links c 0) (sym w.there) ∙ sym w.value

    pub walking-next : {key next half value digit : ℕ} → first < v → key ≡ source_no job base places (v - 1) → (key ≡ x → ⊥)
        → digit ≡ y % 2 → next ≡ heads + 2 * (v - 1) + digit → half ≡ y / 2 → value ≡ get_or links next 0
        → Walking heads job base first links places x next half value
    unfolding halves
    walking-next h k unlike d e f r = record {
      steps = suc w.steps;
      there = e ∙ (ap (λ (z : ℕ). heads + 2 * (v - 1) + z) (d ∙ ap (λ (z : ℕ). z % 2) w.digits)
          ∙ (ap (λ (n : ℕ). heads + 2 * (n - 1) + halves x w.steps % 2) (sym link-now) ∙ step));
      digits = f ∙ ap (λ (z : ℕ). z / 2) w.digits;
      value = r;
      along = λ i l. by_cases (ℕ_discrete i w.steps) (λ z. rw (z, link-now) h) (λ z. w.along i (omega arith));
      passed = λ i l. by_cases (ℕ_discrete i w.steps)
          (λ z m. unlike (k ∙ (ap (λ (n : ℕ). source_no job base places (n - 1)) (sym (ap (link_at heads links x) z ∙ link-now)) ∙ m)))
          (λ z. w.passed i (omega arith));
    }
      where
        step : heads + 2 * (link_at heads links x w.steps - 1) + halves x w.steps % 2 ≡ link_cell heads links x (suc w.steps)
        step = sym (cell-next heads links x w.steps) ∙ ap (link_cell heads links x) (let z : w.steps + 1 ≡ suc w.steps = omega arith in z)

    pub walk-found : {key : ℕ} → first < v → key ≡ source_no job base places (v - 1) → key ≡ x → Looked heads job base first count links places x cell true
    walk-found h k e = let m = walking-most in record {
      within = walking-within;
      found = λ z. record { number = v - 1; low = omega arith; high = omega arith; is = sym k ∙ e };
      missing = λ z. clash refl z;
    }

    absent : v ≤ first → (k : ℕ) → first ≤ k → k < count → source_no job base places k ≡ x → ⊥
    absent h k low high e =
        let r = g.reach k low high in
        let there : link_at heads links x r.steps ≡ k + 1 = ap (λ (z : ℕ). link_at heads links z r.steps) (sym e) ∙ r.there in
        by_cases (dec_lt r.steps w.steps)
        (λ l. w.passed r.steps l (ap (λ (n : ℕ). source_no job base places (n - 1)) there
        ∙ (ap (source_no job base places) (let z : k + 1 - 1 ≡ k = omega arith in z) ∙ e)))
        (λ l. by_cases (ℕ_discrete r.steps w.steps)
        (λ z. let same = sym link-now ∙ (ap (link_at heads links x) (sym z) ∙ there) in omega arith)
        (λ z. let more = subst (λ (s : ℕ). first < link_at heads links s w.steps) e (r.along w.steps (omega arith)) in let now = link-now in omega arith))

    pub walk-missing : v ≤ first → Looked heads job base first count links places x cell false
    walk-missing h = record {
      within = walking-within;
      found = λ z. clash z refl;
      missing = λ z. record { steps = w.steps; there = w.there; empty = subst (λ (n : ℕ). n ≤ first) w.value h; along = w.along; none = absent h };
    }
