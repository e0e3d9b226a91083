-- What the checks that passed say of each boundary of a job and of each span of a list.
use mathlib.Core.Path.{◌≡◌}
use mathlib.Core.Bool.{Bool, true, false, cond}
use mathlib.Core.List.{List}
use mathlib.Core.Option.{none}
use Prim.Native.Nat.{ℕ, ◌+◌, ◌*◌, ◌/◌, ◌<◌, ◌≤◌}
use native.Mathlib.Omega.{arith}
use borrow.Author.Tests.{ltb-false}
use lib.Dec.{ltb}
use lib.ListN.{length}
use Rattle.lists.specs.Rows.{All}
use Rattle.order.proofs.Bools.{or_parts}
use Rattle.position.specs.Order.{pos_le, pos_same, swapped, canonical}
use Rattle.position.specs.declared.Span.{Span}
use Rattle.position.proofs.Order.{other_way, canonical-ordered}
use Rattle.wire.specs.Bytes.{AreBytes, u64_at}
use Rattle.format.specs.Sizes.{boundary_size, span_size}
use Rattle.format.specs.Bounds.{cell_pixels, max_spans, max_width_bits}
use Rattle.format.specs.Records.{span_at, boundary_at}
use Rattle.format.specs.Header.{counts_at, header_at, map_cells, bases_start, boundaries_start}
use Rattle.format.specs.Decode.{decode, job_with}
use Rattle.format.specs.Fits.{BoundaryFits, CountsAllowed}
use Rattle.format.specs.declared.header.Counts.{Counts}
use Rattle.format.proofs.BoundaryTrips.{boundaries-decoded}
use Rattle.format.proofs.JobTrip.{decode-fits}
use Rattle.position.specs.Bounds.{Bounded}
use Rattle.areas.specs.Spans.{SpanFits, Sides}
use Rattle.checks.specs.Checks.{first_refusal, each}
use Rattle.checks.specs.Faults.{position_fault, ends_fault, width_fault}
use Rattle.checks.specs.Single.{cell_check, base_check, ramp_check, width_check, span_checks, ends_check, span_check, list_checks}
use Rattle.checks_calls.specs.Refusals.{layout_checks, record_checks, job_checks, ends_checks, boundary_checks, by_list_checks}
use Rattle.checks.proofs.Firsts.{none_left, none_right, none-head, each_none}
use Rattle.checks.proofs.Limits.{sections}
use Rattle.checks_calls.proofs.Passing.{job-passed}
use Rattle.checks_calls.proofs.Formed.{job-formed}

-- both ends are on a map of width by height cells
pub record OnMap (width height : ℕ) (e : Span) : Type 0 where
  pub a-column : e.a.x ≤ 8 * width
  pub a-row : e.a.y ≤ 8 * height
  pub b-column : e.b.x ≤ 8 * width
  pub b-row : e.b.y ≤ 8 * height

module _ (width height : ℕ) (e : Span) where
  pub on-map : ends_fault width height e ≡ false → OnMap width height e
  on-map f =
      let ends = or_parts (position_fault width height e.a) (position_fault width height e.b) f in
      let a = or_parts (ltb (width * cell_pixels) e.a.x) (ltb (height * cell_pixels) e.a.y) ends.0 in
      let b = or_parts (ltb (width * cell_pixels) e.b.x) (ltb (height * cell_pixels) e.b.y) ends.1 in
      record {
        a-column = omega (arith, ltb-false (width * cell_pixels) e.a.x a.0);
        a-row = omega (arith, ltb-false (height * cell_pixels) e.a.y a.1);
        b-column = omega (arith, ltb-false (width * cell_pixels) e.b.x b.0);
        b-row = omega (arith, ltb-false (height * cell_pixels) e.b.y b.1);
      }

  pub canonical-on-map : OnMap width height e → OnMap width height (canonical e)
  unfolding canonical
  canonical-on-map o = go (pos_le e.a e.b)
    where
      go : (t : Bool) → OnMap width height (cond t e (swapped e))
      go true = o
      go false = record { a-column = o.b-column; a-row = o.b-row; b-column = o.a-column; b-row = o.a-row }

  pub on-map-bounded : OnMap width height e → width ≤ 1024 → height ≤ 1024 → Bounded e.a × Bounded e.b
  on-map-bounded o w h = (
    record { column = omega (arith, o.a-column); row = omega (arith, o.a-row) },
    record { column = omega (arith, o.b-column); row = omega (arith, o.b-row) },
  )

canonical-apart : (e : Span) → pos_same e.a e.b ≡ false → pos_same (canonical e).a (canonical e).b ≡ false
unfolding canonical
canonical-apart e f = go (pos_le e.a e.b)
  where
    go : (t : Bool) → pos_same (cond t e (swapped e)).a (cond t e (swapped e)).b ≡ false
    go true = f
    go false = other_way e.a e.b f

pub canonical-span-fits : (width height : ℕ) (e : Span) → OnMap width height e → pos_same e.a e.b ≡ false → SpanFits width height (canonical e)
canonical-span-fits width height e o f =
    let c = canonical-on-map width height e o in
    record {
      ordered = canonical-ordered e;
      apart = canonical-apart e f;
      a-column = c.a-column;
      a-row = c.a-row;
      b-column = c.b-column;
      b-row = c.b-row;
    }

-- where the boundaries' records begin
abbrev pub boundaries_at : List ℕ → ℕ
boundaries_at s = boundaries_start (counts_at s 0)

-- of a job past 1 to 11, and past 12 where `distinct`
pub record Checked (distinct : Bool) (s : List ℕ) : Type 0 where
  pub allowed : CountsAllowed (counts_at s 0)
  pub start : (header_at s).offsets.boundaries ≡ boundaries_at s
  pub inside : boundaries_at s + (counts_at s 0).boundaries * boundary_size ≤ length s
  pub count : length (decode s).boundaries ≡ (counts_at s 0).boundaries
  pub fits : All BoundaryFits (decode s).boundaries
  pub widths : (k : ℕ) → k < (counts_at s 0).boundaries → u64_at s (boundaries_at s + k * boundary_size + 16) ≤ max_width_bits
  pub on : (k : ℕ) → k < (counts_at s 0).boundaries → OnMap (counts_at s 0).width (counts_at s 0).height (span_at s (boundaries_at s + k * boundary_size))
  pub apart : distinct ≡ true → (k : ℕ) → k < (counts_at s 0).boundaries
      → pos_same (span_at s (boundaries_at s + k * boundary_size)).a (span_at s (boundaries_at s + k * boundary_size)).b ≡ false

-- of a list past 14 to 17, on a map of this size
pub record ListChecked (width height : ℕ) (t : List ℕ) : Type 0 where
  pub few : length t / span_size ≤ max_spans
  pub on : (k : ℕ) → k < length t / span_size → OnMap width height (span_at t (k * span_size))
  pub apart : (k : ℕ) → k < length t / span_size → pos_same (span_at t (k * span_size)).a (span_at t (k * span_size)).b ≡ false

-- checks 10
module _ (s : List ℕ) (c : Counts) (e : first_refusal (record_checks s c) ≡ none) where
  after-ramps : first_refusal (each c.boundaries (width_check s (boundaries_start c))) ≡ none
  unfolding record_checks
  after-ramps =
      let a = none_right (each c.bases (base_check s c.width c.height (bases_start c))) _ (none_right (each (map_cells c) (cell_check s)) _ e) in
      none_right (each c.boundaries (ramp_check s (boundaries_start c))) _ (none-head _ _ a).1

  widths-right : (k : ℕ) → k < c.boundaries → u64_at s (boundaries_start c + k * boundary_size + 16) ≤ max_width_bits
  unfolding width_check boundary_at
  widths-right k h =
      let b = each_none (width_check s (boundaries_start c)) c.boundaries k h after-ramps in
      let w : width_fault (u64_at s (boundaries_start c + k * boundary_size + 16)) ≡ false = (none-head _ _ b).0 in
      ltb-false max_width_bits (u64_at s (boundaries_start c + k * boundary_size + 16)) w

-- the two checks of a span
span-on : (past same : ℕ) (distinct : Bool) (width height : ℕ) (e : Span) (i : ℕ) → first_refusal (span_checks past same distinct width height e i) ≡ none
    → OnMap width height e
unfolding span_checks
span-on past same distinct width height e i f = on-map width height e (none-head _ _ f).0

span-apart : (past same : ℕ) (width height : ℕ) (e : Span) (i : ℕ) → first_refusal (span_checks past same true width height e i) ≡ none
    → pos_same e.a e.b ≡ false
unfolding span_checks
span-apart past same width height e i f = (none-head _ _ (none-head _ _ f).1).0

module _ (distinct : Bool) (s : List ℕ) (c : Counts) (e : first_refusal (ends_checks distinct s c) ≡ none) (k : ℕ) (h : k < c.boundaries) where
  ends-passed : first_refusal (span_checks 11 12 distinct c.width c.height (span_at s (boundaries_start c + k * boundary_size)) k) ≡ none
  unfolding ends_checks ends_check boundary_at
  ends-passed = each_none (ends_check distinct s c.width c.height (boundaries_start c)) c.boundaries k h e

pub checked : (distinct : Bool) (s : List ℕ) → AreBytes s → first_refusal (boundary_checks distinct s) ≡ none → Checked distinct s
unfolding boundary_checks job_checks header_at decode job_with
checked distinct s a e =
    let c = counts_at s 0 in
    let job : first_refusal (job_checks s) ≡ none = none_left (job_checks s) _ e in
    let ends : first_refusal (ends_checks distinct s c) ≡ none = none_right (job_checks s) _ e in
    let p = job-passed s job in
    let recs = none_right (layout_checks s) (record_checks s c) job in
    let formed = job-formed s job in
    let l = formed.total in
    record {
      allowed = p.1.within;
      start = (sections s (header_at s) p.1).boundaries-at;
      inside = omega (arith, l);
      count = boundaries-decoded s (boundaries_start c) c.boundaries c.observations c.sources;
      fits = (decode-fits s a formed p.1.within).boundaries;
      widths = widths-right s c recs;
      on = λ k h. span-on 11 12 distinct c.width c.height (span_at s (boundaries_start c + k * boundary_size)) k (ends-passed distinct s c ends k h);
      apart = λ d k h. span-apart 11 12 c.width c.height (span_at s (boundaries_start c + k * boundary_size)) k
          (rw (← d) (ends-passed distinct s c ends k h));
    }

pub list-checked : (t : List ℕ) (width height : ℕ) → first_refusal (list_checks t width height) ≡ none → ListChecked width height t
unfolding list_checks span_check
list-checked t width height e =
    let a = none-head _ _ e in
    let b = none-head _ _ a.1 in
    let f : (k : ℕ) → k < length t / span_size → first_refusal (span_checks 16 17 true width height (span_at t (k * span_size)) k) ≡ none
    = λ k h. each_none (span_check t width height) (length t / span_size) k h b.1 in
    record {
      few = ltb-false max_spans (length t / span_size) b.0;
      on = λ k h. span-on 16 17 true width height (span_at t (k * span_size)) k (f k h);
      apart = λ k h. span-apart 16 17 width height (span_at t (k * span_size)) k (f k h);
    }

-- what Reduce by list takes
pub by-list-checked : (s t : List ℕ) → AreBytes s → first_refusal (by_list_checks s t) ≡ none → Checked false s
    × ListChecked (counts_at s 0).width (counts_at s 0).height t
unfolding by_list_checks header_at
by-list-checked s t a e = (
  checked false s a (none_left (boundary_checks false s) _ e),
  list-checked t (counts_at s 0).width (counts_at s 0).height (none_right (boundary_checks false s) _ e),
)

pub checked-sides : {distinct : Bool} {s : List ℕ} → Checked distinct s → Sides (counts_at s 0).width (counts_at s 0).height
checked-sides c = let a = c.allowed in
    record { columns = omega (arith, a.width_some); rows = omega (arith, a.height-some); wide = a.width; high = a.height }
