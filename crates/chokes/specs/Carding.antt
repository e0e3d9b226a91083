-- What is known where a job's area cards are written.
use Rattle.std.specs.Prelude.{ℕ, ◌*◌, ◌≤◌, ◌<◌, List, length}
use Rattle.areas.specs.Words.{word, labels_in}
use Rattle.format.specs.Values.{Job}
use Rattle.format.specs.Decode.{decode}
use Rattle.format.specs.declared.header.Header.{Header}
use Rattle.context.specs.Cards.{cards}
use Rattle.results.specs.Rules.{grid_of}
use Rattle.results.specs.Results.{max_pairs, own_ends}
use Rattle.analysis.specs.Bridging.{AreasWithin}
use Rattle.analysis.specs.Plans.{Headed}

-- a job partitioned by its boundaries' own ends: the work, and the numbers of areas and of region pairs (4,097 where they are over 4,096)
abbrev pub AreasFound : List ℕ → Job → List ℕ → List ℕ → ℕ → ℕ → Type 0
AreasFound dirs j before work areas pairs = AreasWithin max_pairs dirs (grid_of j) (own_ends j) before work areas pairs

-- a job past its checks, and a label for each of its cells, none above `areas`
pub record CellsLabelled (s : List ℕ) (h : Header) (areas : ℕ) (work : List ℕ) : Type 0 where
  pub headed : Headed s h
  pub long : length (decode s).cells * 4 ≤ length work
  pub few : areas ≤ length (decode s).cells
  pub each : (i : ℕ) → i < length (decode s).cells → word work i ≤ areas

-- the cards of the labels that stand in work
abbrev pub cards_in : List ℕ → List ℕ → ℕ → List ℕ
cards_in s work areas = cards (grid_of (decode s)) (labels_in work (length (decode s).cells)) areas
