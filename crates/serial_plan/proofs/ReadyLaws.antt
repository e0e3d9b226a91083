-- What the parts of the planning ask for, and what they give together.
use mathlib.Core.Path.{◌≡◌, refl, sym, ◌∙◌, ap, subst}
use mathlib.Core.List.{List}
use Prim.Native.Nat.{ℕ, ◌+◌, ◌*◌, ◌-◌, ◌≤◌}
use native.Mathlib.Omega.{arith}
use lib.ListN.{length, take, drop}
use Rattle.wire.specs.Bytes.{part, number, number_at}
use Rattle.wire.proofs.Parts.{length_part, part-part}
use Rattle.position.specs.declared.WalkPosition.{WalkPosition}
use Rattle.serial_links.specs.Limits.{Limits}
use Rattle.grid.specs.Cells.{Grid, map_of}
use Rattle.areas.specs.Spans.{Sides}
use Rattle.areas.specs.Words.{labels_in}
use Rattle.areas.proofs.Words.{labels-same}
use Rattle.context.specs.AnchorLoop.{AnchorsOnMap, anchors_in, anchor_labels, LabelsRead}
use Rattle.context.specs.Listing.{Item}
use Rattle.serial_groups.specs.Regions.{region_labels}
use Rattle.serial_groups.specs.Tables.{LinkTable}
use Rattle.serial_candidates.specs.Gives.{OwnBounded}
use Rattle.serial_candidates.specs.Owners.{Stored, OwnersBelow}
use Rattle.serial_candidates.specs.Top.{CandidateLinks}
use Rattle.serial_measures.specs.Tables.{Labels, LinkRegions}
use Rattle.serial_measures.specs.Judging.{CoordinatesBounded, LinkEndsInside, Measured}
use Rattle.serial_measures.proofs.Reading.{span-bounded, area}
use Rattle.serial_plan.specs.Arrays.{LinkRanks}
use Rattle.serial_plan.specs.Fitting.{RankedLinks}
use Rattle.serial_plan.specs.Planning.{PlanOf}
use Rattle.serial_plan.proofs.FromTables.{told, plannable, ranked, passed, flat-inside}
use Rattle.serial_plan.specs.Listed.{ListingTables, PlanInput}
use Rattle.serial_plan.specs.Planned.{LinksFrom, PlanFrom}
use Rattle.serial_plan.proofs.LinkLaws.{regions-are, ranks-are, owners-are}

-- the first bytes, as they are lent
abbrev pub lent : List ℕ → ℕ → List ℕ
lent work m = take (4 * m - 0) (drop 0 work)

lent-long : (work : List ℕ) (m : ℕ) → 4 * m ≤ length work → m * 4 ≤ length (lent work m)
unfolding part
lent-long work m h = omega (arith, length_part work 0 (4 * m - 0) (omega arith))

-- they have all labels
lent-labels : (work : List ℕ) (m : ℕ) → labels_in (lent work m) m ≡ labels_in work m
unfolding number_at part
lent-labels work m =
    labels-same (lent work m) m work
    (λ i h. ap number (part-part work 0 (4 * m - 0) (4 * i) 4 (omega arith))
    ∙ ap (λ (k : ℕ). number (part work k 4)) (let z : 0 + 4 * i ≡ 4 * i = omega arith in z))

module _ {job : List ℕ} {start bases : ℕ} {cells : List ℕ} {width height n : ℕ} {own bits ramps work removed separated owners lefts rights : List ℕ}
    {records : ℕ}
    (R : PlanInput job start bases cells width height n own bits ramps work removed separated owners lefts rights records) where
  few : n ≤ 256
  few = omega (arith, R.listed.told.few, R.listed.count)

  -- what `anchor_labels` asks for
  pub readable : AnchorsOnMap job start bases width (lent work (length cells)) (length cells)
  readable = record {
    there = R.there;
    mapped = record {
      few = area R.sides.wide R.sides.high R.whole;
      labelled = lent-long work (length cells) (omega (arith, R.labels.room));
    };
    anchors = R.anchors;
  }

  own-bounded : OwnBounded own n
  own-bounded = record { each = λ i h. span-bounded R.plain i (omega (arith, h, few)) refl }

  owned : OwnersBelow owners records n
  owned = subst (OwnersBelow owners records) R.listed.count (owners-are R.dirs (map_of width height cells) R.items R.listed.paired)

  -- what `candidate_links` asks for
  pub findable : (n ≤ 256) × OwnBounded own n × Stored owners lefts rights records × OwnersBelow owners records n
  findable = (few, own-bounded, R.stored, owned)

  module _ {array : List ℕ} {found : ℕ} (L : LabelsRead job start bases width (labels_in (lent work (length cells)) (length cells)) array found)
      {counts lowers highers regions firsts seconds : List ℕ} {r : ℕ}
      (A : CandidateLinks (take found array) n own ramps removed separated owners lefts rights records counts lowers highers regions firsts
      seconds r) where
    -- the links of a listing that the arrays tell of
    linked : (dirs : List ℕ) (anchors : List WalkPosition) (l : List Item) (marks : List ℕ)
        → ListingTables dirs (map_of width height cells) l n own bits ramps (labels_in work (length cells)) removed separated owners lefts rights records marks
        → anchors ≡ anchors_in job start bases → LinkTable dirs (map_of width height cells) anchors l regions firsts seconds r
    linked dirs anchors l marks h e =
        A.linked dirs (map_of width height cells) anchors l bits h.count h.told h.counted h.paired
        (L.read ∙ (ap (λ (ls : List ℕ). anchor_labels width ls (anchors_in job start bases)) (lent-labels work (length cells) ∙ h.labelled)
        ∙ ap (anchor_labels width (region_labels dirs (map_of width height cells) l)) (sym e)))

    own-links : LinkTable R.dirs (map_of width height cells) (anchors_in job start bases) R.items regions firsts seconds r
    own-links = linked R.dirs (anchors_in job start bases) R.items R.marks R.listed refl

    ranked-found : LinkRanks n firsts seconds r
    ranked-found = ranked own-links R.listed.count

    -- what `measure_links` asks for
    pub measurable : Sides width height × (length cells ≡ width * height) × Labels work (length cells) × LinkRegions regions r (length cells)
        × LinkEndsInside firsts seconds r × CoordinatesBounded own bits
    measurable = (R.sides, R.whole, R.labels, regions-are own-links R.listed.labelled R.labels, ranks-are few ranked-found, R.plain)

    module _ {limits : Limits} {passing flat inside-marks : List ℕ}
        (M : Measured limits own bits regions firsts seconds (map_of width height cells) (labels_in work (length cells)) r passing flat inside-marks) where
      pub links-found : LinksFrom limits job start bases (map_of width height cells) n own bits ramps (labels_in work (length cells)) removed separated owners
          lefts rights records lowers highers regions firsts seconds passing flat r
      links-found = record {
        ranked = ranked-found;
        each = λ dirs anchors l marks h e.
            let inside : LinkRanks (length l) firsts seconds r = subst (λ (k : ℕ). LinkRanks k firsts seconds r) (sym h.count) ranked-found in
            record {
              told = told h.told (A.first-pairs dirs (map_of width height cells) l bits h.count h.told h.paired) h.count;
              linked = linked dirs anchors l marks h e;
              passed = passed (λ k b. M.passing-is dirs l ramps h.told h.labelled k b (inside.first-in k b) (inside.second-in k b));
              flat-inside = flat-inside (λ k b. M.flat-is dirs l ramps h.told h.labelled k b (inside.first-in k b) (inside.second-in k b));
            };
      }

  -- what `merge_plan` asks for
  pub fit : {firsts seconds : List ℕ} {r : ℕ} → LinkRanks n firsts seconds r → RankedLinks n own bits firsts seconds r
  fit F = plannable R.listed.told R.listed.count F

pub planned : {limits : Limits} {job : List ℕ} {start bases : ℕ} {g : Grid} {n : ℕ} {own bits ramps labels removed separated owners lefts rights : List ℕ}
    {records : ℕ} {lowers highers regions firsts seconds passing flat : List ℕ} {r : ℕ} {marks into : List ℕ}
    → LinksFrom limits job start bases g n own bits ramps labels removed separated owners lefts rights records lowers highers regions firsts seconds passing
    flat r
    → PlanOf limits n own bits lowers highers regions firsts seconds r marks passing flat into
    → PlanFrom limits job start bases g n own bits ramps labels removed separated owners lefts rights records marks into
planned {g = g} {marks = marks} F P = record {
  whole = P.whole;
  each = λ dirs anchors l h e. let t = F.each dirs anchors l marks h e in
      P.each dirs g anchors l t.told t.linked h.bridged t.passed t.flat-inside;
}
