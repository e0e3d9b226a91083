-- Arrays by rank: what stands at rank i is what the record of place `order i` says. The records are `stride` bytes apart, from place `at` of s on.
use Rattle.std.specs.Prelude.{◌≡◌, List, ℕ, ◌+◌, ◌*◌, ◌<◌, ◌≤◌, length, get_or, set}
use Rattle.order.specs.Keys.{pack}
use Rattle.position.specs.Order.{canonical}
use Rattle.position.specs.declared.Span.{Span}
use Rattle.wire.specs.Bytes.{u64_at}
use Rattle.format.specs.Sizes.{boundary_size}
use Rattle.format.specs.Records.{span_at}
use Rattle.areas.specs.Spans.{span_in}

-- where the record of rank i begins
abbrev pub record_place : ℕ → ℕ → List ℕ → ℕ → ℕ
record_place at stride order i = at + get_or order i 0 * stride

-- n records, each with the ends of a span at its beginning, and ranks that name them
pub record Records (s : List ℕ) (at stride : ℕ) (order : List ℕ) (n : ℕ) : Type 0 where
  pub few : n ≤ 256
  pub least : 16 ≤ stride
  pub most : stride ≤ 40
  pub inside : at + n * stride ≤ length s
  pub named : (i : ℕ) → i < n → get_or order i 0 < n

-- the array with a span at place i: four numbers
unfoldable pub put_span : List ℕ → ℕ → Span → List ℕ
put_span ends i s = set (set (set (set ends (4 * i) s.a.x) (4 * i + 1) s.a.y) (4 * i + 2) s.b.x) (4 * i + 3) s.b.y

-- the first n spans of the array: those of the records, earlier end first; the numbers behind them are 0
pub record SpansOf (s : List ℕ) (at stride : ℕ) (order : List ℕ) (n : ℕ) (ends : List ℕ) : Type 0 where
  pub whole : length ends ≡ 1024
  pub each : (i : ℕ) → i < n → span_in ends i ≡ canonical (span_at s (record_place at stride order i))
  pub rest : (k : ℕ) → 4 * n ≤ k → get_or ends k 0 ≡ 0

-- the width bits of boundary records, 0 behind them
pub record WidthsOf (s : List ℕ) (at : ℕ) (order : List ℕ) (n : ℕ) (bits : List ℕ) : Type 0 where
  pub whole : length bits ≡ 256
  pub each : (i : ℕ) → i < n → get_or bits i 0 ≡ u64_at s (record_place at boundary_size order i + 16)
  pub rest : (k : ℕ) → n ≤ k → get_or bits k 0 ≡ 0

-- the ramp ends of boundary records
pub record RampsOf (s : List ℕ) (at : ℕ) (order : List ℕ) (n : ℕ) (ramps : List ℕ) : Type 0 where
  pub whole : length ramps ≡ 256
  pub each : (i : ℕ) → i < n → get_or ramps i 0 ≡ get_or s (record_place at boundary_size order i + 32) 0

-- the canonical ends of the records, packed, by place
pub record KeysOf (s : List ℕ) (at stride n : ℕ) (first second : List ℕ) : Type 0 where
  pub whole-first : length first ≡ 256
  pub whole-second : length second ≡ 256
  pub each_first : (i : ℕ) → i < n → get_or first i 0 ≡ pack (canonical (span_at s (at + i * stride))).a.x (canonical (span_at s (at + i * stride))).a.y
  pub each-second : (i : ℕ) → i < n → get_or second i 0 ≡ pack (canonical (span_at s (at + i * stride))).b.x (canonical (span_at s (at + i * stride))).b.y

-- each rank is its own place
pub record Identity (order : List ℕ) : Type 0 where
  pub whole : length order ≡ 256
  pub each : (i : ℕ) → i < 256 → get_or order i 0 ≡ i
