-- What the driver's region function tells: what is known of one region, by the labels of the cells.
use Rattle.std.specs.Prelude.{◌≡◌, Bool, List, [], ◌∷◌, ◌++◌, ℕ, ◌*◌, ◌≤◌, ◌<◌, length}
use Rattle.wire.specs.Bytes.{splice}
use Rattle.format.specs.Values.{Job}
use Rattle.format.specs.Decode.{decode}
use Rattle.areas.specs.Areas.{cell_count}
use Rattle.areas.specs.Words.{labels_in}
use Rattle.context.specs.RegionStats.{RegionStats, region_stats}
use Rattle.context.specs.Anchors.{anchors_of, is_anchored}
use Rattle.context.specs.Held.{one}
use Rattle.checks.specs.Numbers.{answer_too_short}
use Rattle.checks.specs.Checks.{first_refusal}
use Rattle.checks_calls.specs.Refusals.{reduce_checks}
use Rattle.results.specs.Rules.{grid_of}
use Rattle.results.specs.Returns.{FirstAnswer}

-- a refusal of the checks; labels under four bytes a cell; or neither
abbrev pub LabelsReady : List ℕ → List ℕ → ℕ → ℕ → Type 0
LabelsReady s labels number detail = FirstAnswer (first_refusal (reduce_checks s)) (4 * length (decode s).cells) (length labels) number detail

-- how many cells an area has; 001's `RegionStats`: cells, box, ramp, cells of each elevation; whether an anchor lies in it
abbrev pub stats_words : ℕ → RegionStats → Bool → List ℕ
stats_words n st anchored = n ∷ st.cells ∷ st.min_x ∷ st.min_y ∷ st.max_x ∷ st.max_y ∷ one st.has_ramp ∷ (st.elevation_counts ++ (one anchored ∷ []))

unfoldable pub region_words : Job → List ℕ → ℕ → List ℕ
unfolding cell_count region_stats anchors_of is_anchored
region_words j ls r = stats_words (cell_count ls r) (region_stats (grid_of j) ls r) (is_anchored (grid_of j) ls (anchors_of j.bases) r)

-- the labels of a job's cells
abbrev pub cell_labels : List ℕ → List ℕ → List ℕ
cell_labels s labels = labels_in labels (length (decode s).cells)

-- a refusal as above; an out under n bytes; or these bytes at its start
pub data Shown (s labels bytes : List ℕ) (n : ℕ) (out out_end : List ℕ) (number detail : ℕ) : Type 0 where
  declined : 0 < number → LabelsReady s labels number detail → out_end ≡ out → Shown s labels bytes n out out_end number detail
  short : LabelsReady s labels 0 0 → length out < n → number ≡ answer_too_short → detail ≡ n → out_end ≡ out → Shown s labels bytes n out out_end number detail
  told : LabelsReady s labels 0 0 → n ≤ length out → number ≡ 0 → detail ≡ n → out_end ≡ splice out 0 bytes → Shown s labels bytes n out out_end number detail
