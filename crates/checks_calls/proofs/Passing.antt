-- One list of checks after another, as the code makes them; and what holds of a job that passes.
use mathlib.Core.Path.{◌≡◌, refl, sym, ◌∙◌, ap}
use mathlib.Core.Bool.{Bool, true}
use Rattle.std.specs.Prelude.{Result, Ok, Err}
use Rattle.std.specs.Result.{IsErrAnd, is_ok}
use mathlib.Core.List.{List, ◌++◌}
use mathlib.Core.Option.{Option, none, some}
use Prim.Native.Nat.{ℕ, ◌≤◌}
use native.Mathlib.Omega.{arith}
use borrow.Author.Tests.{ltb-false, eqb-true, not-false}
use lib.ListN.{length}
use Rattle.format.specs.Sizes.{header_size}
use Rattle.format.specs.Header.{header_at, offsets_of}
use Rattle.format.specs.declared.header.Header.{Header}
use Rattle.format.specs.declared.header.Offsets.{Offsets}
use Rattle.checks.specs.Checks.{Refusal, Check, first_refusal, each}
use Rattle.checks.specs.Passed.{Laid}
use Rattle.checks.specs.Single.{header_checks}
use Rattle.checks_calls.specs.Refusals.{layout_checks, job_checks, boundary_checks, reduce_checks}
use Rattle.checks.specs.Verdict.{meaning, passes, refusal_of}
use Rattle.checks.specs.declared.refused.Refused.{Refused}
use Rattle.checks.proofs.Firsts.{append-some, none_left, none_right, none-head}
use Rattle.checks.proofs.Words.{header-passed}

-- A refusal that `?` passes on is the first of all the checks.
pub stopped : (r : Result Unit Refused) (e : Refused) (a b : List Check) → IsErrAnd r (λ x. x ≡ e) → some (refusal_of e) ≡ first_refusal a
    → meaning r ≡ first_refusal (a ++ b)
stopped (Ok x) e a b h f = absurd h
stopped (Err x) e a b h f = ap (λ (e : Refused). some (refusal_of e)) h ∙ sym (append-some a b _ (sym f))

-- An answer without a refusal.
pub ok-none : (r : Result Unit Refused) → is_ok r ≡ true → meaning r ≡ none
ok-none (Ok x) e = refl
ok-none (Err x) e = let n : ◌≡◌ {A = ℕ} 0 1 = cc in absurd (omega arith)

-- A job that is past refusal 5.
pub layout-passed : (s : List ℕ) → first_refusal (layout_checks s) ≡ none → (header_size ≤ length s) × Laid s (header_at s)
unfolding layout_checks offsets_of
layout-passed s e =
    let a = none-head _ _ e in
    let words = header-passed (header_at s) (none_left (header_checks (header_at s)) _ a.1) in
    let len = none-head _ _ (none_right (header_checks (header_at s)) _ a.1) in
    let whole : length s ≡ (header_at s).offsets.total = eqb-true _ _ (not-false _ len.0) in
    (ltb-false _ _ a.0, record { within = words.0; offsets-right = words.1; whole = whole ∙ ap (λ (o : Offsets). o.total) words.1 })

-- One that is past 10, past 11 and 12, and one that Reduce by list takes.
pub job-passed : (s : List ℕ) → first_refusal (job_checks s) ≡ none → (header_size ≤ length s) × Laid s (header_at s)
unfolding job_checks
job-passed s e = layout-passed s (none_left (layout_checks s) _ e)

pub boundaries-passed : (distinct : Bool) (s : List ℕ) → first_refusal (boundary_checks distinct s) ≡ none → (header_size ≤ length s) × Laid s (header_at s)
unfolding boundary_checks
boundaries-passed distinct s e = job-passed s (none_left (job_checks s) _ e)

pub reduce-passed : (s : List ℕ) → first_refusal (reduce_checks s) ≡ none → (header_size ≤ length s) × Laid s (header_at s)
unfolding reduce_checks
reduce-passed s e = boundaries-passed true s e

-- Checks over n records from a place, told of the place and the number that the header gives.
pub moved : (f : ℕ → ℕ → List Check) {a b n m : ℕ} {o : Option Refusal} → o ≡ first_refusal (each n (f a)) → a ≡ b → n ≡ m → o ≡ first_refusal (each m (f b))
moved f {a} {b} {n} {m} e p q = e ∙ ap (λ (k : ℕ). first_refusal (each k (f a))) q ∙ ap (λ (x : ℕ). first_refusal (each m (f x))) p

-- A header that was read, in place of the bytes'.
pub laid-read : (s : List ℕ) (h : Header) → h ≡ header_at s → Laid s (header_at s) → Laid s h
laid-read s h e l = rw e l

pub passes_none : (o : Option Refusal) → passes o ≡ true → o ≡ none
passes_none none e = refl
passes_none (some r) e = let n : ◌≡◌ {A = ℕ} 0 1 = cc in absurd (omega arith)
