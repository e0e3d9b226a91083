-- The arrays that a job's merges are planned from.
use mathlib.Core.Path.{◌≡◌, refl, sym, ◌∙◌, ap, subst}
use mathlib.Core.Bool.{Bool, cond}
use mathlib.Core.List.{List}
use Prim.Native.Nat.{ℕ, ◌+◌, ◌*◌, ◌-◌, ◌<◌}
use native.Mathlib.Omega.{arith}
use borrow.Author.Tests.{eq-eqb}
use lib.ListN.{length, get_or, take, drop}
use Rattle.areas.specs.Words.{labels_in}
use Rattle.position.specs.declared.Span.{Span}
use Rattle.format.specs.Sizes.{boundary_size}
use Rattle.format.specs.Header.{counts_at, bases_start}
use Rattle.format.specs.Decode.{decode, job_with}
use Rattle.format.specs.declared.header.Header.{Header}
use Rattle.format.specs.declared.header.Counts.{Counts}
use Rattle.grid.specs.Cells.{Grid, map_of}
use Rattle.context.specs.Anchors.{anchors_of}
use Rattle.context.specs.AnchorLoop.{anchors_in}
use Rattle.context.specs.Listing.{Item}
use Rattle.serial_links.specs.HeldLimits.{limits_of}
use Rattle.serial_links.specs.declared.limits.Limits.{Limits as LimitsHeld}
use Rattle.serial_groups.specs.Plan.{merge_plan}
use Rattle.serial_groups.specs.Tables.{Boundaries}
use Rattle.serial_candidates.specs.Owners.{Stored}
use Rattle.serial_measures.specs.Judging.{CoordinatesBounded}
use Rattle.serial_ranks.specs.Tables.{Records, SpansOf, WidthsOf, RampsOf}
use Rattle.results.specs.Rules.{grid_of, listing_of}
use Rattle.analysis.specs.Plans.{plan_of, RankedJob, PartitionTables}
use Rattle.serial_plan.specs.Listed.{ListingTables, PlanInput}
use Rattle.serial_plan.specs.Planned.{PlanFrom}
use Rattle.serial_plan.proofs.PlainLaws.{plain-arrays}
use Rattle.analysis.proofs.Ranked.{ByRank}
use Rattle.analysis.proofs.Checked.{boundaries_at, Checked, checked-sides}
use Rattle.analysis.proofs.RankedTables.{job-records, listed-count, boundaries-ranked}
use Rattle.analysis.proofs.Headed.{headed-checked, headed-laid, counts-are, count-is, start_is, bases-start, bases-few, bases-inside, anchors-in}
use Rattle.analysis.proofs.Mapped.{map-cells, map-long, map_is}

-- a job's ranks as the laws take them
module _ {s : List ℕ} {h : Header} {order : List ℕ} (p : RankedJob s h order) where
  pub plan-ranks : ByRank (decode s).boundaries order
  plan-ranks = record { each = p.ranks }

  c : Checked p.headed.distinct s
  c = headed-checked p.headed

  abbrev count : ℕ
  count = (counts_at s 0).boundaries

  -- what filling the arrays asks
  pub plan-records : (at n : ℕ) → at ≡ h.offsets.boundaries → n ≡ h.counts.boundaries → Records s at boundary_size order n
  plan-records at n a e = rw (a ∙ start_is p.headed, e ∙ count-is p.headed) (job-records c plan-ranks)

  -- what the arrays are filled with
  module _ {at n : ℕ} (a : at ≡ h.offsets.boundaries) (e : n ≡ h.counts.boundaries) where
    at-is : at ≡ boundaries_at s
    at-is = a ∙ start_is p.headed

    n-is : n ≡ count
    n-is = e ∙ count-is p.headed

    pub own-array : {own : List ℕ} → SpansOf s at boundary_size order n own → SpansOf s (boundaries_at s) boundary_size order count own
    own-array {own} o = subst (λ (k : ℕ). SpansOf s (boundaries_at s) boundary_size order k own) n-is
        (subst (λ (k : ℕ). SpansOf s k boundary_size order n own) at-is o)

    pub widths-array : {bits : List ℕ} → WidthsOf s at order n bits → WidthsOf s (boundaries_at s) order count bits
    widths-array {bits} o = subst (λ (k : ℕ). WidthsOf s (boundaries_at s) order k bits) n-is (subst (λ (k : ℕ). WidthsOf s k order n bits) at-is o)

    pub ramps-array : {ramps : List ℕ} → RampsOf s at order n ramps → RampsOf s (boundaries_at s) order count ramps
    ramps-array {ramps} o = subst (λ (k : ℕ). RampsOf s (boundaries_at s) order k ramps) n-is (subst (λ (k : ℕ). RampsOf s k order n ramps) at-is o)

  module _ {own bits ramps : List ℕ} (o : SpansOf s (boundaries_at s) boundary_size order count own) (w : WidthsOf s (boundaries_at s) order count bits)
      (v : RampsOf s (boundaries_at s) order count ramps) where
    module _ {dirs : List ℕ} {after removed separated owners lefts rights : List ℕ} {pairs : ℕ} {marks : List ℕ} {ss : List Span}
        (t : PartitionTables dirs s after removed separated owners lefts rights pairs marks ss) where
      abbrev l : List Item
      l = listing_of (decode s) ss

      told : Boundaries l own bits ramps
      told = boundaries-ranked c plan-ranks ss t.matched o w v

      many : length l ≡ count
      many = listed-count c plan-ranks ss t.matched

      plain : CoordinatesBounded own bits
      plain = plain-arrays told (λ k b. o.rest k (omega (arith, many))) (λ k b. w.rest k (omega (arith, many)))

      listed : ListingTables dirs (grid_of (decode s)) l count own bits ramps (labels_in after (length (decode s).cells)) removed separated owners lefts rights
          pairs
          marks
      listed = record {
        count = many;
        told = told;
        labelled = t.labels-are;
        counted = t.counted;
        paired = t.paired;
        bridged = t.bridged;
      }

      cells_whole : length (decode s).cells ≡ (counts_at s 0).width * (counts_at s 0).height
      cells_whole = ap length (sym (map-cells p.headed.header (headed-laid p.headed) _ refl))
          ∙ (map-long p.headed.header (headed-laid p.headed) _ refl ∙ ap (λ (a : Counts). a.width * a.height) (counts-are p.headed))

      ready-here : Stored owners lefts rights pairs
          → PlanInput s (bases_start (counts_at s 0)) (counts_at s 0).bases (decode s).cells (counts_at s 0).width (counts_at s 0).height count own bits ramps
          after
          removed separated owners lefts rights pairs
      unfolding decode job_with
      ready-here st = record {
        sides = checked-sides c;
        whole = cells_whole;
        labels = t.labels;
        few-bases = bases-few p.headed;
        there = bases-inside p.headed;
        anchors = rw cells_whole (anchors-in p.headed);
        plain = plain;
        stored = st;
        dirs = dirs;
        items = l;
        marks = marks;
        listed = listed;
      }

      module _ (start bases n : ℕ) (e₁ : start ≡ h.offsets.bases) (e₂ : bases ≡ h.counts.bases) (e₃ : n ≡ h.counts.boundaries) (size : ℕ)
          (e₄ : size ≡ h.counts.width * h.counts.height) where
        abbrev cells : List ℕ
        cells = take (48 + size - 48) (drop 48 s)

        start-at : start ≡ bases_start (counts_at s 0)
        start-at = e₁ ∙ bases-start p.headed

        bases-at : bases ≡ (counts_at s 0).bases
        bases-at = e₂ ∙ ap (λ (a : Counts). a.bases) (counts-are p.headed)

        count_at : n ≡ count
        count_at = e₃ ∙ count-is p.headed

        pub ready : Stored owners lefts rights pairs
            → PlanInput s start bases cells h.counts.width h.counts.height n own bits ramps after removed separated owners lefts rights pairs
        ready st = rw (start-at, bases-at, count_at, map-cells p.headed.header (headed-laid p.headed) size e₄, counts-are p.headed) (ready-here st)

        -- what the plan then is
        pub planned-as : {limits : LimitsHeld} {into : List ℕ}
            → PlanFrom (limits_of limits) s start bases (map_of h.counts.width h.counts.height cells) n own bits ramps (labels_in after (length cells))
            removed separated owners lefts rights pairs marks into
            → (i : ℕ) → i < length (decode s).boundaries → get_or into i 0 ≡ plan_of (limits_of limits) dirs (decode s) ss i
        unfolding plan_of decode job_with
        planned-as {limits} {into} f i b =
            let grid : map_of h.counts.width h.counts.height cells ≡ grid_of (decode s) = map_is p.headed.header (headed-laid p.headed) size e₄ in
            let anchors : anchors_of (decode s).bases ≡ anchors_in s start bases = rw (start-at, bases-at) refl in
            let ls : labels_in after (length cells) ≡ labels_in after (length (decode s).cells) =
            ap (λ (x : List ℕ). labels_in after (length x)) (map-cells p.headed.header (headed-laid p.headed) size e₄) in
            let here : ListingTables dirs (map_of h.counts.width h.counts.height cells) l n own bits ramps (labels_in after (length cells)) removed
            separated
            owners lefts rights pairs marks
            = rw (grid, ls, count_at) listed in
            let known = c.count in
            f.each dirs (anchors_of (decode s).bases) l here anchors i (omega (arith, count_at))
            ∙ (ap (λ (x : Grid). merge_plan (limits_of limits) dirs x (anchors_of (decode s).bases) l i) grid
            ∙ ap (λ (t : Bool). cond t (merge_plan (limits_of limits) dirs (grid_of (decode s)) (anchors_of (decode s).bases) l i) i)
            (sym (eq-eqb _ _ t.matched)))
