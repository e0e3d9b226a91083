-- Places along a span and beside it; an assessment of nothing.
use mathlib.Core.Path.{◌≡◌, refl, sym, ◌∙◌, ap, subst}
use mathlib.Core.Bool.{Bool, true, false, cond}
use mathlib.Core.List.{List, []}
use Prim.Native.Nat.{ℕ, ◌+◌, ◌*◌, ◌-◌, ◌≤◌, ◌<◌}
use native.Mathlib.Omega.{arith}
use lib.ListN.{length}
use Rattle.lists.specs.Rows.{rows}
use Rattle.order.specs.Lists.{keep, gather, up_from}
use Rattle.order.specs.Sorting.{sort_once}
use Rattle.position.specs.declared.Span.{Span}
use Rattle.grid.specs.Cells.{Grid, map_of}
use Rattle.areas.specs.Assessments.{Assessment, assessment}
use Rattle.areas.specs.Spans.{Sides}
use Rattle.areas.specs.declared.candidates.CellRange.{CellRange}
use Rattle.areas.specs.Strip.{numbers_of, tall, cell_of, strip_axis, strip_minor}
use Rattle.areas.proofs.StripCells.{axis-on, minor-on}
use Rattle.areas_steps.proofs.Halves.{place-fits}
use Rattle.areas_assessments.specs.declared.steps.Assessed.{Assessed}
use Rattle.areas_assessments.specs.Holding.{pairs_in, HoldsAssessment, StepRoom}
use Rattle.areas_assessments.specs.Visits.{cut_from, cut_beside, cut_along}

pub limit-small : {w h : ℕ} → Sides w h → (s : Span) {c : ℕ} → c < cond (tall s) h w → c < 1024
limit-small {w} {h} d s {c} l = go (tall s) l
  where
    go : (t : Bool) → c < cond t h w → c < 1024
    go true l = omega (arith, d.high)
    go false l = omega (arith, d.wide)

pub beside-small : {w h : ℕ} → Sides w h → (s : Span) {c : ℕ} → c < cond (tall s) w h → c < 1024
beside-small {w} {h} d s {c} l = go (tall s) l
  where
    go : (t : Bool) → c < cond t w h → c < 1024
    go true l = omega (arith, d.wide)
    go false l = omega (arith, d.high)

module _ (w h : ℕ) (cs : List ℕ) (s : Span) (c cm : ℕ) {x y : ℕ} where
  -- the place is on the map
  pub place_in : {t : Bool} → t ≡ tall s → c < cond (tall s) h w → cm < cond (tall s) w h → x ≡ cond t cm c → y ≡ cond t c cm → (x < w) × (y < h)
  place_in et a b e f = place-fits (tall s) w h c cm x y a b (e ∙ ap (λ (z : Bool). cond z cm c) et) (f ∙ ap (λ (z : Bool). cond z c cm) et)

  cell-go : (t : Bool) → x ≡ cond t cm c → y ≡ cond t c cm → y * w + x ≡ cond t (c * w + cm) (cm * w + c)
  cell-go true e f = rw (e, f)
  cell-go false e f = rw (e, f)

  -- and its cell
  pub place-cell : {t : Bool} → t ≡ tall s → x ≡ cond t cm c → y ≡ cond t c cm → y * w + x ≡ cell_of (map_of w h cs) s c cm
  unfolding cell_of
  place-cell et e f = cell-go (tall s) (e ∙ ap (λ (z : Bool). cond z cm c) et) (f ∙ ap (λ (z : Bool). cond z c cm) et)

pub holds-none : (ls lefts rights : List ℕ) {most start : ℕ} → start ≤ most
    → HoldsAssessment most (assessment ls []) lefts rights start lefts rights (record { removed = 0; separated = 0; end = start })
unfolding assessment keep sort_once pairs_in rows
holds-none ls lefts rights h = record {
  removed = refl;
  separated = refl;
  pairs = record { left-kept = λ j l. refl; right_kept = λ j l. refl; fits = λ l. (omega arith, refl); over = λ l. absurd (omega arith) };
}

pub room-start : {lefts rights : List ℕ} {start : ℕ} → start ≤ length lefts → length rights ≡ length lefts → length lefts ≤ 4096 →
    StepRoom start 4194304 lefts rights (record { removed = 0; separated = 0; end = start })
room-start h e f = record { from = omega arith; to = omega arith; removed = omega arith; separated = omega arith; alike = e; few = f }

-- the last of a range
pub last-in : {w h : ℕ} → Sides w h → (s : Span) (c : ℕ) {r : CellRange} → r ≡ strip_minor w h s c → r.last < cond (tall s) w h
last-in {w} {h} d s c e = subst (λ (z : CellRange). z.last < cond (tall s) w h) (sym e) (minor-on d s c)

pub last-along : {w h : ℕ} → Sides w h → (s : Span) {r : CellRange} → r ≡ strip_axis w h s → r.last < cond (tall s) h w
last-along {w} {h} d s e = subst (λ (z : CellRange). z.last < cond (tall s) h w) (sym e) (axis-on d s)

-- the steps of the strip, with its ranges told otherwise
pub beside-is : (dirs : List ℕ) (g : Grid) (s : Span) (c : ℕ) (r : CellRange) → r ≡ strip_minor g.width g.height s c →
    cut_beside dirs g s c ≡ gather (λ cm. cut_from dirs g s (cell_of g s c cm)) (up_from r.first (r.last + 1 - r.first))
unfolding cut_beside
beside-is dirs g s c r e = ap (λ (z : CellRange). gather (λ cm. cut_from dirs g s (cell_of g s c cm)) (numbers_of z)) (sym e)

pub along-is : (dirs : List ℕ) (g : Grid) (s : Span) (r : CellRange) → r ≡ strip_axis g.width g.height s →
    cut_along dirs g s ≡ gather (cut_beside dirs g s) (up_from r.first (r.last + 1 - r.first))
unfolding cut_along
along-is dirs g s r e = ap (λ (z : CellRange). gather (cut_beside dirs g s) (numbers_of z)) (sym e)

pub holds_as : {most : ℕ} {a b : Assessment} {lefts₀ rights₀ lefts rights : List ℕ} {start : ℕ} {s : Assessed} → a ≡ b
    → HoldsAssessment most a lefts₀ rights₀ start lefts rights s → HoldsAssessment most b lefts₀ rights₀ start lefts rights s
holds_as {most = most} {lefts₀ = lefts₀} {rights₀ = rights₀} {lefts = lefts} {rights = rights} {start = start} {s = s} e h =
    subst (λ (z : Assessment). HoldsAssessment most z lefts₀ rights₀ start lefts rights s) e h
