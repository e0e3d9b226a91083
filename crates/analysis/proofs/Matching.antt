-- A job partitioned by as many spans as it has boundaries, and by more or fewer.
use mathlib.Core.Path.{◌≡◌, refl, sym, ◌∙◌, ap, subst}
use mathlib.Core.Bool.{Bool, true, cond}
use mathlib.Core.List.{List}
use mathlib.Core.Option.{none}
use Prim.Native.Nat.{ℕ, ◌+◌, ◌*◌, ◌-◌, ◌/◌, ◌≤◌}
use native.Mathlib.Omega.{arith}
use borrow.Author.Tests.{ne_eqb}
use lib.ListN.{length, take, drop}
use Rattle.areas.specs.Words.{labelled}
use Rattle.position.specs.declared.Span.{Span}
use Rattle.format.specs.Sizes.{boundary_size, span_size}
use Rattle.format.specs.Header.{counts_at}
use Rattle.format.specs.Decode.{decode, decode_list}
use Rattle.format.specs.declared.header.Counts.{Counts}
use Rattle.format.specs.declared.header.Header.{Header}
use Rattle.format.proofs.ListTrip.{length-decode_list}
use Rattle.grid.specs.Cells.{Grid, size, map_of}
use Rattle.areas.specs.Spans.{spans_in, SpansFit}
use Rattle.areas.specs.Assessments.{records}
use Rattle.context.specs.Anchors.{anchors_of}
use Rattle.serial_groups.specs.Plan.{merge_plan}
use Rattle.serial_links.specs.Limits.{Limits}
use Rattle.serial_candidates.specs.Owners.{Stored}
use Rattle.serial_ranks.specs.Tables.{Records, SpansOf, Identity}
use Rattle.checks.specs.Checks.{first_refusal}
use Rattle.checks_calls.specs.Refusals.{reduce_checks, by_list_checks}
use Rattle.areas_partition.specs.Partitioned.{Partitionable, Partitioned}
use Rattle.areas_partition.specs.declared.Partition.{Partition}
use Rattle.results.specs.Rules.{grid_of, listing_of}
use Rattle.results.specs.Results.{work_size, max_pairs, own_ends}
use Rattle.analysis.specs.Bridging.{Bridged, AreasWithin}
use Rattle.analysis.specs.Plans.{plan_of, RankedBy, Leads, Headed, RankedJob, EndsBy, SomeEnds, SomeTold, TabledWithin, Drawn}
use Rattle.analysis.proofs.Within.{parted-few}
use Rattle.analysis.proofs.Ranked.{ByRank}
use Rattle.analysis.proofs.Checked.{boundaries_at, ListChecked, checked, by-list-checked}
use Rattle.analysis.proofs.RankedTables.{order-in, own-ends-ranked, list-ends-ranked, own-ends-fit, list-ends-fit, own-matched, list-matched}
use Rattle.analysis.proofs.RankedTables.{list-records, labels-listed, records-listed}
use Rattle.analysis.proofs.Headed.{headed-checked, headed-laid, headed-cells, counts-are, count-is, start_is}
use Rattle.analysis.proofs.Mapped.{map-cells, map-long, map_is, map-partitionable}
use Rattle.analysis.proofs.Merges.{plan-ranks}
use Rattle.analysis.proofs.Telling.{told-work, told_over, told-pairs, told-few, told}

-- the map of a partition is the job's
module _ {s : List ℕ} {h : Header} (d : Headed s h) (n : ℕ) (e : n ≡ h.counts.width * h.counts.height) where
  abbrev cells : List ℕ
  cells = take (48 + n - 48) (drop 48 s)

  pub on-job : (P : Grid → ℕ → Type 0) {count m : ℕ} → count ≡ m → P (map_of h.counts.width h.counts.height cells) count → P (grid_of (decode s)) m
  on-job P {count} f r = subst (P (grid_of (decode s))) f (subst (λ (g : Grid). P g count) (map_is d.header (headed-laid d) n e) r)

  cells-few : size (grid_of (decode s)) ≤ 1048576
  cells-few = omega (arith, ap length (map-cells d.header (headed-laid d) n e), map-long d.header (headed-laid d) n e, headed-cells d)

-- as many spans as boundaries
module _ {s : List ℕ} {h : Header} (d : Headed s h) (n : ℕ) (e : n ≡ h.counts.width * h.counts.height) (count : ℕ) (f : count ≡ h.counts.boundaries) where
  pub matched-partitionable : {directions : ℕ} → Leads directions → {ends work : List ℕ}
      → SpansFit h.counts.width h.counts.height ends h.counts.boundaries → work_size (decode s) ≤ length work
      → Partitionable h.counts.width h.counts.height (take (48 + n - 48) (drop 48 s)) directions ends count work
  matched-partitionable k t room =
      map-partitionable d.header (headed-laid d) n e k (rw f t) (omega (arith, f, (headed-laid d).within.boundaries)) room

  module _ {dirs : List ℕ} {most : ℕ} {ends before after removed separated owners lefts rights marks : List ℕ} {q : Partition}
      (r : Partitioned most dirs (map_of h.counts.width h.counts.height (take (48 + n - 48) (drop 48 s))) ends count before after removed separated
      owners lefts rights q)
      (b : Bridged most dirs (map_of h.counts.width h.counts.height (take (48 + n - 48) (drop 48 s))) (spans_in ends count) marks)
      (small : most ≤ 4096) where
    standard : Partitioned most dirs (grid_of (decode s)) ends (counts_at s 0).boundaries before after removed separated owners lefts rights q
    standard = on-job d n e (λ g k. Partitioned most dirs g ends k before after removed separated owners lefts rights q) (f ∙ count-is d) r

    marked : Bridged most dirs (grid_of (decode s)) (spans_in ends (counts_at s 0).boundaries) marks
    marked = on-job d n e (λ g k. Bridged most dirs g (spans_in ends k) marks) (f ∙ count-is d) b

    pub matched-tabled : (order : List ℕ) (ss : List Span) → RankedBy (decode s) order → EndsBy s order ends ss
        → TabledWithin dirs most s ss before after removed separated owners lefts rights marks q.pairs
    matched-tabled order ss ranks m =
        let c = headed-checked d in
        let k : ByRank (decode s).boundaries order = record { each = ranks } in
        record {
          work-is = told-work c k m standard;
          over = told_over c k m standard;
          pairs-are = told-pairs c k m standard;
          told = λ few. told c k m standard (cells-few d n e) small (told-few c k m standard few) marked;
        }

-- what planning asks of the tables
pub some-told : {s order ends dirs : List ℕ} {most : ℕ} {before work removed separated owners lefts rights marks : List ℕ} {pairs : ℕ} → pairs ≤ most
    → ((ss : List Span) → EndsBy s order ends ss → TabledWithin dirs most s ss before work removed separated owners lefts rights marks pairs)
    → SomeEnds s order ends → SomeTold s work removed separated owners lefts rights pairs marks
some-told {dirs = dirs} l y m = let t = y m.spans m.are in record { dirs = dirs; spans = m.spans; are = t.told (parted-few t l) }

pub stored : {owners lefts rights : List ℕ} {most pairs : ℕ} → pairs ≤ most → most ≤ 4096 → length owners ≡ most → length lefts ≡ most → length rights ≡ most
    → Stored owners lefts rights pairs
stored l f a b c = record { few = omega arith; in_owners = omega arith; in-lefts = omega arith; in-rights = omega arith }

-- the boundaries' own ends
module _ {s : List ℕ} {h : Header} {order : List ℕ} (p : RankedJob s h order) (at n : ℕ) (a : at ≡ h.offsets.boundaries) (e : n ≡ h.counts.boundaries)
    {ends : List ℕ} (o : SpansOf s at boundary_size order n ends) where
  here : SpansOf s (boundaries_at s) boundary_size order (counts_at s 0).boundaries ends
  here = subst (λ (k : ℕ). SpansOf s (boundaries_at s) boundary_size order k ends) (e ∙ count-is p.headed)
      (subst (λ (k : ℕ). SpansOf s k boundary_size order n ends) (a ∙ start_is p.headed) o)

  pub own-by : EndsBy s order ends (own_ends (decode s))
  own-by = record { matched = own-matched s; each = own-ends-ranked (headed-checked p.headed) (plan-ranks p) ends here }

  pub own-fit : first_refusal (reduce_checks s) ≡ none → SpansFit h.counts.width h.counts.height ends h.counts.boundaries
  unfolding reduce_checks
  own-fit f = subst (λ (k : Counts). SpansFit k.width k.height ends k.boundaries) (sym (counts-are p.headed))
      (own-ends-fit (checked true s p.headed.bytes f) (plan-ranks p) refl ends here)

-- the spans of a list
module _ {s : List ℕ} {h : Header} (d : Headed s h) (t : List ℕ) (f : first_refusal (by_list_checks s t) ≡ none) where
  list_right : ListChecked (counts_at s 0).width (counts_at s 0).height t
  list_right = (by-list-checked s t d.bytes f).1

  -- as many as boundaries
  module _ {order : List ℕ} (k : ByRank (decode s).boundaries order) (n : ℕ) (e : n ≡ h.counts.boundaries)
      (m : length t / span_size ≡ h.counts.boundaries) where
    same : length t / span_size ≡ (counts_at s 0).boundaries
    same = m ∙ count-is d

    count-here : n ≡ (counts_at s 0).boundaries
    count-here = e ∙ count-is d

    pub list-matched-records : Records t 0 span_size order n
    list-matched-records = rw count-here
        (list-records t order (counts_at s 0).boundaries (headed-checked d).allowed.boundaries (omega (arith, same)) (order-in (headed-checked d) k))

    module _ {ends : List ℕ} (o : SpansOf t 0 span_size order n ends) where
      list-here : SpansOf t 0 span_size order (counts_at s 0).boundaries ends
      list-here = subst (λ (i : ℕ). SpansOf t 0 span_size order i ends) count-here o

      pub list-by : EndsBy s order ends (decode_list t)
      list-by = record { matched = list-matched (headed-checked d) t same; each = list-ends-ranked (headed-checked d) k t same ends list-here }

      pub list-fit : SpansFit h.counts.width h.counts.height ends h.counts.boundaries
      list-fit = subst (λ (x : Counts). SpansFit x.width x.height ends x.boundaries) (sym (counts-are d))
          (list-ends-fit list_right order (counts_at s 0).boundaries (λ i l. let w = order-in (headed-checked d) k i l in omega (arith, same)) ends list-here)

  -- more or fewer
  module _ (n : ℕ) (e : n ≡ length t / span_size) {order : List ℕ} (k : Identity order) where
    few : n ≤ 256
    few = omega (arith, e, list_right.few)

    pub list-unmatched-records : Records t 0 span_size order n
    list-unmatched-records = list-records t order n few (omega (arith, e)) (λ i l. let w = k.each i (omega (arith, few)) in omega (arith, w))

    module _ {ends : List ℕ} (o : SpansOf t 0 span_size order n ends) (cells : ℕ) (f₂ : cells ≡ h.counts.width * h.counts.height) where
      all_here : SpansOf t 0 span_size order (length t / span_size) ends
      all_here = subst (λ (i : ℕ). SpansOf t 0 span_size order i ends) e o

      all_fit : SpansFit h.counts.width h.counts.height ends n
      all_fit = subst (λ (x : Counts). SpansFit x.width x.height ends n) (sym (counts-are d))
          (list-ends-fit list_right order n (λ i l. let w = k.each i (omega (arith, few)) in omega (arith, w, e)) ends o)

      pub unmatched-partitionable : {directions : ℕ} → Leads directions → {work : List ℕ} → work_size (decode s) ≤ length work
          → Partitionable h.counts.width h.counts.height (take (48 + cells - 48) (drop 48 s)) directions ends n work
      unmatched-partitionable k room = map-partitionable d.header (headed-laid d) cells f₂ k all_fit few room

      pub unmatched-drawn : (limits : Limits) (dirs : List ℕ) → (n ≡ h.counts.boundaries → ⊥) → {before after : List ℕ} {areas pairs : ℕ}
          → AreasWithin max_pairs dirs (map_of h.counts.width h.counts.height (take (48 + cells - 48) (drop 48 s))) (spans_in ends n) before after areas
          pairs
          → Drawn limits dirs (decode s) (decode_list t) before after order pairs
      unfolding plan_of
      unmatched-drawn limits dirs ne {before} {after} {areas} {pairs} r =
          let g : Grid = grid_of (decode s) in
          let y = on-job d cells f₂ (λ g k. AreasWithin max_pairs dirs g (spans_in ends k) before after areas pairs) e r in
          let x : records dirs g (decode_list t) ≡ records dirs g (spans_in ends (length t / span_size)) =
          records-listed t list_right.few k ends all_here dirs g in
          let differ : length (decode s).boundaries ≡ length (decode_list t)
          → ⊥ = λ z. ne (let u = (headed-checked d).count in let v = length-decode_list t in let w = count-is d in omega (arith, z)) in
          record {
            work-is = y.work-is ∙ ap (λ (ls : List ℕ). labelled ls before) (sym (labels-listed t list_right.few k ends all_here dirs g));
            over = rw x y.over;
            pairs-are = rw x y.pairs-are;
            told = λ z i l.
                let u = (headed-checked d).count in
                let v = (headed-checked d).allowed.boundaries in
                k.each i (omega arith) ∙ ap
                (λ (b : Bool). cond b (merge_plan limits dirs g (anchors_of (decode s).bases) (listing_of (decode s) (decode_list t)) i) i)
                (sym (ne_eqb _ _ differ));
          }
