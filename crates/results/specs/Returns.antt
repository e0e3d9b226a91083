-- What a call gives back at its returns: a refusal of its checks, 21, 13, or what it writes.
use Rattle.std.specs.Prelude.{◌≡◌, false, List, ℕ, ◌≤◌, ◌<◌, length}
use Rattle.std.proofs.Math.Option.{Option, none}
use Rattle.wire.specs.Bytes.{splice}
use Rattle.checks.specs.Numbers.{too_many_pairs, work_too_short}
use Rattle.checks.specs.Checks.{Refusal}
use Rattle.checks.specs.Verdict.{passes, number_of, detail_of}
use Rattle.results.specs.Results.{max_pairs}

-- The refusal that the checks give; "21 work under ten bytes per cell", of a slice of `room` bytes that is asked to have `asked`; or number 0.
pub data FirstAnswer (checked : Option Refusal) (asked room number detail : ℕ) : Type 0 where
  refused : passes checked ≡ false → 0 < number → number ≡ number_of checked → detail ≡ detail_of checked → FirstAnswer checked asked room number detail
  cramped : checked ≡ none → room < asked → number ≡ work_too_short → detail ≡ 0 → FirstAnswer checked asked room number detail
  ready : checked ≡ none → asked ≤ room → number ≡ 0 → detail ≡ 0 → FirstAnswer checked asked room number detail

-- "13 over 4,096 region pairs in all", or number 0.
pub data PairAnswer (pairs number detail : ℕ) : Type 0 where
  many : max_pairs < pairs → number ≡ too_many_pairs → detail ≡ 0 → PairAnswer pairs number detail
  few : pairs ≤ max_pairs → number ≡ 0 → detail ≡ 0 → PairAnswer pairs number detail

-- bytes in a slice that may be too short for them, as number and detail say
pub record Finished (short : ℕ) (bytes before after : List ℕ) (number detail : ℕ) : Type 0 where
  pub long : detail ≡ length bytes
  pub written : length bytes ≤ length before → (number ≡ 0) × (after ≡ splice before 0 bytes)
  pub unwritten : length before < length bytes → (number ≡ short) × (after ≡ before)
