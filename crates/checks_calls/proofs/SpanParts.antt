-- The part of a span that is there lies within its slice.
use mathlib.Core.Path.{◌≡◌}
use mathlib.Core.Bool.{true, ◌&&◌}
use mathlib.Core.List.{List}
use Prim.Native.Nat.{ℕ, ◌+◌, ◌*◌, ◌≤◌}
use native.Mathlib.Omega.{arith}
use borrow.Author.Tests.{ltb-true}
use lib.Dec.{ltb}
use lib.ListN.{length}
use Rattle.format.specs.Sizes.{header_size, boundary_size, span_size}
use Rattle.format.specs.Header.{header_at, boundaries_start}
use Rattle.checks.specs.Checks.{first_refusal}
use Rattle.checks.specs.Single.{span_count}
use Rattle.checks_calls.specs.Refusals.{reduce_checks, by_list_checks}
use Rattle.checks.specs.Verdict.{passes}
use Rattle.order.proofs.Bools.{and_parts}
use Rattle.checks.proofs.Limits.{sections}
use Rattle.checks_calls.proofs.Passing.{passes_none, reduce-passed}

-- Boundary i's ends in a job that Reduce takes.
pub record JobPart (s : List ℕ) (i : ℕ) : Type 0 where
  pub header : header_size ≤ length s
  pub start : (header_at s).offsets.boundaries ≡ boundaries_start (header_at s).counts
  pub inside : (header_at s).offsets.boundaries + i * boundary_size + span_size ≤ length s

pub job-part : (s : List ℕ) (i : ℕ) → passes (first_refusal (reduce_checks s)) && ltb i (header_at s).counts.boundaries ≡ true → JobPart s i
job-part s i e =
    let both = and_parts (passes (first_refusal (reduce_checks s))) _ e in
    let p = reduce-passed s (passes_none _ both.0) in
    let q = sections s (header_at s) p.1 in
    record { header = p.0; start = q.boundaries-at; inside = omega (arith, q.boundaries-in, ltb-true i (header_at s).counts.boundaries both.1) }

-- Span i's ends in a list that Reduce by list takes.
pub list-part : (s l : List ℕ) (i : ℕ) → passes (first_refusal (by_list_checks s l)) && ltb i (span_count l) ≡ true → i * span_size + span_size ≤ length l
list-part s l i e =
    let both = and_parts (passes (first_refusal (by_list_checks s l))) _ e in
    omega (arith, ltb-true i (span_count l) both.1)
