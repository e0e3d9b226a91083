-- What the region function asks of a job that passed its checks, and what it tells.
use mathlib.Core.Path.{◌≡◌, refl, sym, ◌∙◌, ap}
use mathlib.Core.Bool.{Bool, true, false}
use mathlib.Core.List.{List, [], ◌∷◌}
use mathlib.Core.Option.{Option}
use Prim.Native.Nat.{ℕ, ◌+◌, ◌*◌, ◌-◌, ◌≤◌}
use native.Mathlib.Omega.{arith}
use lib.ListN.{length, take, drop}
use Rattle.order.specs.Lists.{has}
use Rattle.format.specs.Bounds.{max_bases}
use Rattle.format.specs.Header.{counts_at, bases_start}
use Rattle.format.specs.Decode.{decode, job_with}
use Rattle.format.specs.declared.header.Header.{Header}
use Rattle.format.specs.declared.header.Counts.{Counts}
use Rattle.areas.specs.Areas.{cell_count}
use Rattle.areas.specs.Words.{labels_in}
use Rattle.context.specs.RegionStats.{RegionStats, region_stats}
use Rattle.context.specs.Anchors.{anchors_of, is_anchored}
use Rattle.context.specs.AnchorLoop.{AnchorsOnMap, LabelsRead}
use Rattle.context.specs.Held.{one, stats_in}
use Rattle.context.specs.declared.stats.RegionStats.{RegionStats as StatsHeld}
use Rattle.context.proofs.Bases.{among-anchored}
use Rattle.checks.specs.Checks.{Refusal}
use Rattle.results.specs.Rules.{grid_of}
use Rattle.results.specs.Returns.{FirstAnswer, ready}
use Rattle.results.proofs.Returns.{first-passed, first-room}
use Rattle.analysis.specs.Plans.{Headed}
use Rattle.analysis.proofs.Headed.{headed-laid, headed-cells, counts-are, bases-start, bases-few, bases-inside, anchors-in}
use Rattle.analysis.proofs.Mapped.{map-cells, map-long}
use Rattle.probe.specs.Regions.{stats_words, region_words, cell_labels}

-- no refusal
pub ready-now : {checked : Option Refusal} {asked room number detail : ℕ} → FirstAnswer checked asked room number detail → number ≤ 0
    → FirstAnswer checked asked room 0 0
ready-now r h = ready (first-passed r h) (first-room r h) refl refl

module _ {s : List ℕ} {h : Header} (d : Headed s h) {at count n : ℕ} (a : at ≡ h.offsets.bases) (b : count ≡ h.counts.bases)
    (e : n ≡ h.counts.width * h.counts.height) where
  -- the bases, by the header
  start-there : at ≡ bases_start (counts_at s 0)
  start-there = a ∙ bases-start d

  many : count ≡ (counts_at s 0).bases
  many = b ∙ ap (λ (x : Counts). x.bases) (counts-are d)

  wide : h.counts.width ≡ (counts_at s 0).width
  wide = ap (λ (x : Counts). x.width) (counts-are d)

  pub anchors-there : (labels : List ℕ) → n * 4 ≤ length labels → AnchorsOnMap s at count h.counts.width labels n × (count ≤ max_bases)
  anchors-there labels room =
      let m : n ≡ (counts_at s 0).width * (counts_at s 0).height = e ∙ ap (λ (x : Counts). x.width * x.height) (counts-are d) in (
        record {
          there = rw (start-there, many) (bases-inside d);
          mapped = record { few = omega (arith, e, headed-cells d); labelled = room };
          anchors = rw (start-there, many, wide, m) (anchors-in d);
        },
        rw many (bases-few d),
      )

  module _ (labels : List ℕ) (region : ℕ) where
    cells_are : n ≡ length (decode s).cells
    cells_are = e ∙ (sym (map-long d.header (headed-laid d) n e) ∙ ap (λ (l : List ℕ). length l) (map-cells d.header (headed-laid d) n e))

    anchored-told : {array : List ℕ} {found : ℕ} → LabelsRead s at count h.counts.width (labels_in labels n) array found
        → has region (take found array) ≡ is_anchored (grid_of (decode s)) (cell_labels s labels) (anchors_of (decode s).bases) region
    unfolding decode job_with
    anchored-told r =
        ap (has region) (r.read ∙ rw (start-there, many, wide, cells_are) refl)
        ∙ among-anchored (grid_of (decode s)) (cell_labels s labels) (anchors_of (decode s).bases) region

    stats-told : {held : StatsHeld}
        → ((height : ℕ) → stats_in held ≡ region_stats (record { width = h.counts.width; height = height; cells = take (48 + n - 48) (drop 48 s) })
        (labels_in labels (length (take (48 + n - 48) (drop 48 s)))) region)
        → stats_in held ≡ region_stats (grid_of (decode s)) (cell_labels s labels) region
    unfolding decode job_with
    stats-told f =
        f (counts_at s 0).height
        ∙ (ap (λ (l : List ℕ). region_stats (record { width = h.counts.width; height = (counts_at s 0).height; cells = l })
        (labels_in labels (length l)) region) (map-cells d.header (headed-laid d) n e)
        ∙ ap (λ (x : ℕ). region_stats (record { width = x; height = (counts_at s 0).height; cells = (decode s).cells }) (cell_labels s labels) region) wide)

    pub region-told : {held : StatsHeld} {counted ramp anchor found : ℕ} {anchored : Bool} {array : List ℕ} → counted ≡ cell_count (labels_in labels n) region
        → ((height : ℕ) → stats_in held ≡ region_stats (record { width = h.counts.width; height = height; cells = take (48 + n - 48) (drop 48 s) })
        (labels_in labels (length (take (48 + n - 48) (drop 48 s)))) region)
        → LabelsRead s at count h.counts.width (labels_in labels n) array found → anchored ≡ has region (take found array)
        → ramp ≡ one held.has_ramp → anchor ≡ one anchored
        → counted ∷ held.cells ∷ held.min_x ∷ held.min_y ∷ held.max_x ∷ held.max_y ∷ ramp ∷ held.level_0 ∷ held.level_1 ∷ held.level_2
        ∷ held.level_3 ∷ anchor ∷ []
        ≡ region_words (decode s) (cell_labels s labels) region
    unfolding region_words
    region-told {held} {counted} {ramp} {anchor} {anchored = anchored} p f read q r t =
        let st : RegionStats = stats_in held in
        ap (λ (x : ℕ). counted ∷ st.cells ∷ st.min_x ∷ st.min_y ∷ st.max_x ∷ st.max_y ∷ x ∷ held.level_0 ∷ held.level_1 ∷ held.level_2
        ∷ held.level_3 ∷ anchor ∷ []) r
        ∙ (ap (λ (x : ℕ). counted ∷ st.cells ∷ st.min_x ∷ st.min_y ∷ st.max_x ∷ st.max_y ∷ one st.has_ramp ∷ held.level_0 ∷ held.level_1
        ∷ held.level_2 ∷ held.level_3 ∷ x ∷ []) (t ∙ ap one (q ∙ anchored-told read))
        ∙ (ap (λ (x : ℕ). stats_words x st (is_anchored (grid_of (decode s)) (cell_labels s labels) (anchors_of (decode s).bases) region))
        (p ∙ ap (λ (x : ℕ). cell_count (labels_in labels x) region) cells_are)
        ∙ ap (λ (x : RegionStats). stats_words (cell_count (cell_labels s labels) region) x
        (is_anchored (grid_of (decode s)) (cell_labels s labels) (anchors_of (decode s).bases) region)) (stats-told f)))
