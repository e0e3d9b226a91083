-- What observations are ordered by before their sources, at each place.
use Rattle.std.specs.Prelude.{◌≡◌, List, ℕ, ◌+◌, ◌≤◌, ◌<◌, length, get_or}
use Rattle.position.specs.Order.{canonical}
use Rattle.position.specs.declared.Span.{Span}
use Rattle.answer_sources.specs.Packed.{KeyAt}

pub record RankRoom (first second third : List ℕ) (n : ℕ) : Type 0 where
  pub first-room : n ≤ length first
  pub second-room : n ≤ length second
  pub third-room : n ≤ length third

-- The canonical ends and the widths of n records, at the places from `from` on; the places before are as they were.
pub record RankKeys (ends : ℕ → Span) (bits : ℕ → ℕ) (from n : ℕ) (first₀ second₀ third₀ first second third : List ℕ) : Type 0 where
  pub first-long : length first ≡ length first₀
  pub second-long : length second ≡ length second₀
  pub third-long : length third ≡ length third₀
  pub there : (k : ℕ) → k < n → KeyAt first second third (from + k) (canonical (ends k)) (bits k)
  pub first-before : (q : ℕ) → q < from → get_or first q 0 ≡ get_or first₀ q 0
  pub second-before : (q : ℕ) → q < from → get_or second q 0 ≡ get_or second₀ q 0
  pub third-before : (q : ℕ) → q < from → get_or third q 0 ≡ get_or third₀ q 0
