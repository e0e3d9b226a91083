-- What makes a rank and a link safe to look at.
use Rattle.std.specs.Prelude.{ℕ, ◌<◌, ◌≤◌, List}
use Rattle.lists.specs.Rows.{at}
use Rattle.areas.specs.Spans.{span_in}
use Rattle.serial_links.specs.Held.{SpanBounded}
use Rattle.serial_plan.specs.declared.few.Few.{Few}
use Rattle.serial_plan.specs.Few.{few_at}
use Rattle.serial_plan.specs.Arrays.{LinkRanks}

pub record RankFits (own : List ℕ) (i : ℕ) : Type 0 where
  pub below : i < 256
  pub bounded : SpanBounded (span_in own i)

pub record LinkFits (own firsts seconds : List ℕ) (k : ℕ) : Type 0 where
  pub below : k < 256
  pub first : RankFits own (at firsts k)
  pub second : RankFits own (at seconds k)

pub record WidthFits (bits : List ℕ) (i : ℕ) : Type 0 where
  pub below : i < 256
  pub fits : at bits i ≤ 0x40D0_0000_0000_0000

-- so is each number that is kept
abbrev pub RanksFit : List ℕ → Few → Type 0
RanksFit own f = (j : ℕ) → RankFits own (few_at f j)

abbrev pub Links : List ℕ → List ℕ → List ℕ → Few → Type 0
Links own firsts seconds f = (j : ℕ) → LinkFits own firsts seconds (few_at f j)

abbrev pub Widths : List ℕ → Few → Type 0
Widths bits f = (j : ℕ) → WidthFits bits (few_at f j)

abbrev pub Slots : ℕ → Few → Type 0
Slots n f = (j : ℕ) → few_at f j < n

-- n ranks and their links
pub record RankedLinks (n : ℕ) (own bits firsts seconds : List ℕ) (links : ℕ) : Type 0 where
  pub few : n ≤ 256
  pub ranked : LinkRanks n firsts seconds links
  pub spans : (i : ℕ) → i < n → SpanBounded (span_in own i)
  pub widths : (i : ℕ) → i < n → at bits i ≤ 0x40D0_0000_0000_0000

-- at least one of each
pub record Safe (n : ℕ) (own bits firsts seconds : List ℕ) (links : ℕ) : Type 0 where
  pub some : 0 < n
  pub linked : 0 < links
  pub fit : RankedLinks n own bits firsts seconds links
