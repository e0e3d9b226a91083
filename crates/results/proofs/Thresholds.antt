-- Refusal 32 among the checks of a call: first, where a block is bad, and nothing where it is admitted.
use mathlib.Core.Path.{◌≡◌, refl}
use mathlib.Core.Bool.{true, false}
use mathlib.Core.List.{List, ◌∷◌}
use mathlib.Core.Option.{some}
use Prim.Native.Nat.{ℕ}
use native.Mathlib.Omega.{arith}
use lib.Ieee.{binary64}
use lib.Ieee.Bits.{of_bits-fits}
use Rattle.wire.specs.Bytes.{u64_at}
use Rattle.position.specs.declared.Span.{Span}
use Rattle.format.specs.Values.{Job}
use Rattle.format.specs.Decode.{decode, decode_list}
use Rattle.grid.specs.Directions.{eight}
use Rattle.serial_links.specs.Limits.{Limits}
use Rattle.checks.specs.Numbers.{bad_thresholds}
use Rattle.checks.specs.Checks.{Check, first_refusal}
use Rattle.checks.proofs.Firsts.{skip, stop, append-some}
use Rattle.checks_calls.specs.Refusals.{reduce_checks, by_list_checks}
use Rattle.thresholds.specs.Block.{block_at, block_fault, limits_in, thresholds_check}
use Rattle.thresholds.proofs.Faulty.{block-right}
use Rattle.length.proofs.BitOrder.{bits_up}
use Rattle.serial_groups.proofs.Representative.{Tolerant}
use Rattle.results.specs.Results.{left_by, own_ends, outcome, writing, reduced, reduce_with, reduce_by_list_with}
use Rattle.results.specs.Calls.{reduce_result, reduce_by_list_result}
use Rattle.results.specs.Cases.{ThresholdsFirst}

pub admitted-checks : (block : List ℕ) (checks : List Check) → block_fault block ≡ false
    → first_refusal (thresholds_check block ∷ checks) ≡ first_refusal checks
admitted-checks block checks e = skip (thresholds_check block) checks e

bad-checks : (block : List ℕ) (checks : List Check) → block_fault block ≡ true
    → first_refusal (thresholds_check block ∷ checks) ≡ some (record { number = bad_thresholds; detail = 0 })
bad-checks block checks e = stop (thresholds_check block) checks e

module _ (limits : Limits) (dirs block : List ℕ) (checks : List Check) (j : Job) (ss : List Span) (work answer : List ℕ) where
  -- an admitted block leaves the later checks and the rest as they are
  pub reduced-admitted : block_fault block ≡ false
      → reduced limits dirs (thresholds_check block ∷ checks) j ss work answer ≡ reduced limits dirs checks j ss work answer
  unfolding reduced writing first_refusal
  reduced-admitted e = rw e refl

  pub reduced-bad : block_fault block ≡ true → reduced limits dirs (thresholds_check block ∷ checks) j ss work answer ≡ left_by bad_thresholds 0 work answer
  unfolding reduced writing outcome
  reduced-bad e = rw (append-some (thresholds_check block ∷ checks) _ _ (bad-checks block checks e)) refl

-- "declined with 32, before 1"
pub thresholds-first : (block : List ℕ) → block_fault block ≡ true → ThresholdsFirst block
unfolding reduce_result reduce_by_list_result reduce_with reduce_by_list_with
thresholds-first block e = record {
  reduce = λ job work answer. reduced-bad (limits_in block) eight block (reduce_checks job) (decode job) (own_ends (decode job)) work answer e;
  by-list = λ job list work answer. reduced-bad (limits_in block) eight block (by_list_checks job list) (decode job) (decode_list list) work answer e;
}

-- the width tolerance of an admitted block is finite and not negative, +0 too, so that some member of a group is eligible (`accepted-representative`)
pub block-tolerant : (block : List ℕ) → block_fault block ≡ false → Tolerant (limits_in block)
unfolding limits_in block_at
block-tolerant block h =
    let w = (block-right block h).ranges.width in
    record { finite = bits_up (u64_at block 24) (omega (arith, w)); held = of_bits-fits binary64 (u64_at block 24) }
