-- What cases 9 and 10 say of the checks holds.
use mathlib.Core.Path.{◌≡◌, refl, ◌∙◌, ap}
use mathlib.Core.Bool.{Bool, true, false}
use mathlib.Core.List.{List, ◌∷◌}
use mathlib.Core.Option.{Option, none, some}
use Prim.Native.Nat.{ℕ, zero, suc, ◌≤◌, ◌<◌}
use native.Mathlib.Omega.{arith}
use borrow.Author.Tests.{lt-ltb, le-ltb, eq-eqb}
use lib.Dec.{ltb, eqb}
use Rattle.lists.specs.Rows.{All, none as All-none, more}
use Rattle.lists.proofs.Each.{all_append}
use Rattle.order.proofs.Bools.{clash}
use Rattle.format.specs.Bounds.{max_boundaries, max_width_bits}
use Rattle.format.specs.Header.{header_at, map_cells, bases_start, boundaries_start}
use Rattle.format.specs.declared.header.Counts.{Counts}
use Rattle.checks.specs.Checks.{Refusal, Check, check, first_refusal, each}
use Rattle.checks.specs.Numbers.{too_many_boundaries, bad_width}
use Rattle.checks.specs.Faults.{boundary_count_fault, width_fault}
use Rattle.checks.specs.Single.{header_checks, cell_check, base_check, ramp_check, width_check, ends_check, span_checks, span_check, list_checks}
use Rattle.checks_calls.specs.Refusals.{layout_checks, record_checks, job_checks, ends_checks, boundary_checks, reduce_checks, mark_checks, by_list_checks}
use Rattle.checks_calls.specs.Cases.{FirstWidth, PassesThree, up_to_ramps, bits_at}
use Rattle.checks.proofs.Firsts.{skip, stop, clear, append-none, append-some, none_left, none_right, none-head, each-found, each_all}

-- The checks of every call give the refusal, whatever its list.
pub record AllRefuse (s : List ℕ) (r : Refusal) : Type 0 where
  pub reduce : first_refusal (reduce_checks s) ≡ some r
  pub mark : first_refusal (mark_checks s) ≡ some r
  pub by-list : (l : List ℕ) → first_refusal (by_list_checks s l) ≡ some r

-- What refuses the job is what every call gives.
pub all-refuse : (s : List ℕ) (r : Refusal) → first_refusal (job_checks s) ≡ some r → AllRefuse s r
unfolding reduce_checks mark_checks by_list_checks boundary_checks
all-refuse s r e = record {
  reduce = append-some (job_checks s) _ r e;
  mark = append-some (job_checks s) _ r e;
  by-list = λ l. append-some (boundary_checks false s) _ r (append-some (job_checks s) _ r e);
}

-- The checks of widths before k find nothing.
widths-clear : (s : List ℕ) (c : Counts) (k : ℕ) → ((i : ℕ) → i < k → width_fault (bits_at s c i) ≡ false)
    → first_refusal (each k (width_check s (boundaries_start c))) ≡ none
unfolding each first_refusal width_check
widths-clear s c zero h = refl
widths-clear s c (suc k) h = append-none (each k (width_check s (boundaries_start c))) (width_check s (boundaries_start c) k)
    (widths-clear s c k (λ i l. h i (omega arith))) ∙ clear _ (h k (omega arith))

width-found : (s : List ℕ) (c : Counts) (k : ℕ) → k < c.boundaries → ((i : ℕ) → i < k → width_fault (bits_at s c i) ≡ false)
    → width_fault (bits_at s c k) ≡ true
    → first_refusal (each c.boundaries (width_check s (boundaries_start c))) ≡ some (record { number = bad_width; detail = k })
unfolding width_check
width-found s c k l h e = each-found (width_check s (boundaries_start c)) k c.boundaries _ l (widths-clear s c k h) (stop _ _ e)

-- 9 is passed before 10 is tested.
after-ramps : (s : List ℕ) (c : Counts) → first_refusal (up_to_ramps s c) ≡ none
    → first_refusal (record_checks s c) ≡ first_refusal (each c.boundaries (width_check s (boundaries_start c)))
unfolding record_checks
after-ramps s c e =
    let cells = each (map_cells c) (cell_check s) in
    let bases = each c.bases (base_check s c.width c.height (bases_start c)) in
    let r1 = none_right cells _ e in
    let r2 = none-head _ _ (none_right bases _ r1) in
    append-none cells _ (none_left cells _ e) ∙ append-none bases _ (none_left bases _ r1) ∙ skip _ _ r2.0
    ∙ append-none (each c.boundaries (ramp_check s (boundaries_start c))) _ r2.1

negative-zero : (b : ℕ) → b ≡ 0x8000_0000_0000_0000 → width_fault b ≡ true
negative-zero b e = lt-ltb max_width_bits b (omega arith)

nine : (s : List ℕ) (k : ℕ) → FirstWidth s k → bits_at s (header_at s).counts k ≡ 0x8000_0000_0000_0000
    → first_refusal (job_checks s) ≡ some (record { number = bad_width; detail = k })
unfolding job_checks
nine s k w e =
    append-none (layout_checks s) _ w.laid
    ∙ after-ramps s (header_at s).counts w.before
    ∙ width-found s (header_at s).counts k w.there w.right (negative-zero _ e)

refused-four : ℕ → Option Refusal
refused-four n = some (record { number = too_many_boundaries; detail = n })

ten : (s : List ℕ) → PassesThree s → (header_at s).counts.boundaries ≡ 257
    → first_refusal (job_checks s) ≡ some (record { number = too_many_boundaries; detail = 257 })
unfolding job_checks layout_checks header_checks refused-four
ten s p e =
    let over : ltb 256 (header_at s).counts.boundaries ≡ true = lt-ltb 256 (header_at s).counts.boundaries (omega arith) in
    let four = ap refused-four e in
    append-some (layout_checks s) _ _
    (skip _ _ (le-ltb _ _ p.whole)
    ∙ append-some (header_checks (header_at s)) _ _ (skip _ _ p.sides ∙ skip _ _ p.counts ∙ stop _ _ over ∙ four))

pub width-refused : (s : List ℕ) (k : ℕ) → FirstWidth s k → bits_at s (header_at s).counts k ≡ 0x8000_0000_0000_0000
    → AllRefuse s (record { number = bad_width; detail = k })
width-refused s k w e = all-refuse s _ (nine s k w e)

pub count-refused : (s : List ℕ) → PassesThree s → (header_at s).counts.boundaries ≡ 257 → AllRefuse s (record { number = too_many_boundaries; detail = 257 })
count-refused s p e = all-refuse s _ (ten s p e)

-- Where a check of this number stands among those of a call, it does not hold.
abbrev pub Without : ℕ → Check → Type 0
Without n c = c.refusal.number ≡ n → c.holds ≡ false

-- The checks of every call, whatever its list.
pub record AllPass (s : List ℕ) (n : ℕ) : Type 0 where
  pub reduce : All (Without n) (reduce_checks s)
  pub mark : All (Without n) (mark_checks s)
  pub by-list : (l : List ℕ) → All (Without n) (by_list_checks s l)

-- A check of another number.
pub at : {m : ℕ} {c : Check} {cs : List Check} → eqb c.refusal.number m ≡ false → All (Without m) cs → All (Without m) (c ∷ cs)
at {m} e h = more (λ f. clash (eq-eqb _ m f) e) h

module _ (s : List ℕ) (few : (header_at s).counts.boundaries ≤ max_boundaries) where
  job-without : All (Without too_many_boundaries) (job_checks s)
  unfolding job_checks layout_checks header_checks record_checks cell_check base_check ramp_check width_check
  job-without =
      let four : Without too_many_boundaries (check (boundary_count_fault (header_at s).counts) too_many_boundaries (header_at s).counts.boundaries)
      = λ _. le-ltb max_boundaries (header_at s).counts.boundaries few in
      all_append (at refl (all_append (at refl (at refl (more four (at refl All-none)))) (at refl All-none)))
      (all_append (each_all _ _ (λ i. at refl All-none))
      (all_append (each_all _ _ (λ i. at refl All-none))
      (at refl (all_append (each_all _ _ (λ i. at refl All-none)) (each_all _ _ (λ i. at refl All-none))))))

  boundaries-without : (d : Bool) → All (Without too_many_boundaries) (boundary_checks d s)
  unfolding boundary_checks ends_checks ends_check span_checks
  boundaries-without d = all_append job-without (each_all _ _ (λ i. at refl (at refl All-none)))

  pub count-passes : AllPass s too_many_boundaries
  unfolding reduce_checks mark_checks by_list_checks list_checks span_check span_checks
  count-passes = record {
    reduce = boundaries-without true;
    mark = boundaries-without true;
    by-list = λ l.
        all_append (boundaries-without false) (at refl (at refl (each_all _ _ (λ i. at refl (at refl All-none)))));
  }
