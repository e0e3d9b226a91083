-- The cells of the strip are those in its ranges, which lie on the map; the strip holds the earlier cell of each step that the span cuts.
use mathlib.Core.Path.{◌≡◌, refl, ◌∙◌}
use mathlib.Core.Logic.{by_cases, ⊎_elim}
use mathlib.Core.Bool.{Bool, true, false, cond}
use mathlib.Core.List.{Memᴰ}
use Prim.Native.Nat.{ℕ, zero, suc, ◌+◌, ◌*◌, ◌≤◌, ◌<◌}
use native.Mathlib.Omega.{arith}
use native.Mathlib.Decide.{dec_le}
use borrow.Author.Tests.{ltb-true, ltb-false, leb-true, leb-false, lt-ltb, le-ltb, le-leb, lt-leb, eq-eqb}
use lib.Dec.{leb}
use Rattle.order.specs.Lists.{has}
use Rattle.order.proofs.Bools.{clash, and_both, by-test}
use Rattle.order.proofs.Numbers.{has-mem}
use Rattle.position.specs.Order.{pos_le, pos_same}
use Rattle.position.specs.declared.Span.{Span}
use Rattle.position.proofs.Order.{le-means, ordered}
use Rattle.grid.specs.Cells.{Grid, Whole}
use Rattle.grid.specs.Directions.{eight}
use Rattle.grid.specs.Steps.{neighbour, has_step, step_of}
use Rattle.grid.proofs.Directions.{eight-closed}
use Rattle.grid.proofs.Index.{column-of, row-of}
use Rattle.grid.proofs.Steps.{has-step}
use Rattle.areas.specs.declared.candidates.CellRange.{CellRange}
use Rattle.areas.specs.declared.candidates.Line.{Line}
use Rattle.areas.specs.Spans.{SpanFits, Sides}
use Rattle.areas.specs.Cuts.{cut_by}
use Rattle.areas.specs.Strip.{axis_range, minor_range, clamp, line_at, gap, InStrip, tall, line_of, strip_axis, strip_minor, major_of, minor_of, cell_of}
use Rattle.areas.specs.Strip.{StripHolds}
use Rattle.areas.proofs.Covering.{cut-covers}

-- what it is to be tall, in numbers
pub tall-means : (s : Span) → tall s ≡ true → gap s.a.x s.b.x < gap s.a.y s.b.y
unfolding tall
tall-means s e = ltb-true _ _ e

pub wide-means : (s : Span) → tall s ≡ false → gap s.a.y s.b.y ≤ gap s.a.x s.b.x
unfolding tall
wide-means s e = ltb-false _ _ e

means-tall : (s : Span) → gap s.a.x s.b.x < gap s.a.y s.b.y → tall s ≡ true
unfolding tall
means-tall s l = lt-ltb (gap s.a.x s.b.x) (gap s.a.y s.b.y) l

means-wide : (s : Span) → gap s.a.y s.b.y ≤ gap s.a.x s.b.x → tall s ≡ false
unfolding tall
means-wide s l = le-ltb (gap s.a.x s.b.x) (gap s.a.y s.b.y) l

-- a line between two different coordinates of a map
pub record LineFits (n : Line) : Type 0 where
  pub rises : n.l < n.u
  pub along : n.u ≤ 8192
  pub low : n.lm ≤ 8192
  pub high : n.um ≤ 8192

apart-means : {w h : ℕ} {s : Span} → SpanFits w h s → s.a.x ≡ s.b.x → s.a.y ≡ s.b.y → ⊥
unfolding pos_same
apart-means {s = s} f ex ey = clash (and_both (eq-eqb s.a.x s.b.x ex) (eq-eqb s.a.y s.b.y ey)) f.apart

module _ {w h : ℕ} {s : Span} (d : Sides w h) (f : SpanFits w h s) where
  columns-rise : s.a.x ≤ s.b.x
  columns-rise = ⊎_elim (λ k. omega arith) (λ k. omega arith) (le-means s.a s.b f.ordered)

  line-cases : (t o : Bool) → tall s ≡ t → leb s.a.y s.b.y ≡ o →
      LineFits (cond t (cond o (record { l = s.a.y; lm = s.a.x; u = s.b.y; um = s.b.x })
      (record { l = s.b.y; lm = s.b.x; u = s.a.y; um = s.a.x }))
      (record { l = s.a.x; lm = s.a.y; u = s.b.x; um = s.b.y }))
  line-cases false o e k =
      let m = wide-means s e in
      let c = columns-rise in
      let n : s.a.x < s.b.x = by_cases (dec_le s.b.x s.a.x) (λ q. absurd (apart-means f (omega arith) (omega arith))) (λ q. omega arith) in
      record { rises = n; along = omega arith; low = omega arith; high = omega arith }
  line-cases true true e k =
      let m = tall-means s e in
      let o = leb-true s.a.y s.b.y k in
      record { rises = omega arith; along = omega arith; low = omega arith; high = omega arith }
  line-cases true false e k =
      let m = tall-means s e in
      let o = leb-false s.a.y s.b.y k in
      record { rises = omega arith; along = omega arith; low = omega arith; high = omega arith }

  pub line-fits : LineFits (line_of s)
  unfolding line_of
  line-fits = line-cases (tall s) (leb s.a.y s.b.y) refl refl

  pub line-kept : {n : Line} → n ≡ line_of s → LineFits n
  line-kept e = rw e line-fits

-- the cells in the strip are those in its ranges
pub in_within : (g : Grid) (s : Span) (i : ℕ) → InStrip g s i → StripHolds g s i
unfolding strip_axis strip_minor major_of minor_of line_of
in_within g s i (InStrip.wide m n) = let e : tall s ≡ false = means-wide s m in record { along = rw e n.along; beside = rw e n.beside }
in_within g s i (InStrip.falls m o n) =
    let e : tall s ≡ true = means-tall s m in
    let k : leb s.a.y s.b.y ≡ true = le-leb s.a.y s.b.y o in record { along = rw (e, k) n.along; beside = rw (e, k) n.beside }
in_within g s i (InStrip.rises m o n) =
    let e : tall s ≡ true = means-tall s m in
    let k : leb s.a.y s.b.y ≡ false = lt-leb s.a.y s.b.y o in record { along = rw (e, k) n.along; beside = rw (e, k) n.beside }

-- they are on the map
pub axis-on : {w h : ℕ} → Sides w h → (s : Span) → (strip_axis w h s).last < cond (tall s) h w
unfolding strip_axis axis_range
axis-on {w} {h} d s = by-test (tall s) (λ e. rw e (omega arith)) (λ e. rw e (omega arith))

pub minor-on : {w h : ℕ} → Sides w h → (s : Span) (c : ℕ) → (strip_minor w h s c).last < cond (tall s) w h
unfolding strip_minor minor_range
minor-on {w} {h} d s c = by-test (tall s) (λ e. rw e (omega arith)) (λ e. rw e (omega arith))

-- a direction that leads to a later cell is one of the eight
later-eight : (k : ℕ) → k < 4 → Memᴰ (5 + k) eight
unfolding has
later-eight zero l = has-mem 5 eight refl
later-eight (suc zero) l = has-mem 6 eight refl
later-eight (suc (suc zero)) l = has-mem 7 eight refl
later-eight (suc (suc (suc zero))) l = has-mem 8 eight refl
later-eight (suc (suc (suc (suc k)))) l = absurd (omega arith)

-- the earlier cell of a cut step is in the strip
pub cut-in : {g : Grid} → Whole g → (s : Span) → pos_le s.a s.b ≡ true → (i k : ℕ) → k < 4 → has_step g i (5 + k) ≡ true →
    cut_by g s (step_of i (neighbour g i (5 + k))) ≡ true → InStrip g s i
cut-in {g} whole s o i k l h cut =
    rw (ordered s o) at (cut-covers eight-closed whole s (record { by = 5 + k; among = later-eight k l; taken = has-step g i (5 + k) h }) cut)

-- the ranges by steps, as the code computes them
pub axis-is : (w h : ℕ) (s : Span) (n : Line) (t : Bool) (q : ℕ) (r : CellRange) → n ≡ line_of s → t ≡ tall s → q ≡ cond t h w → r ≡ axis_range n.l n.u q
    → r ≡ strip_axis w h s
unfolding strip_axis
axis-is w h s n t q r en et eq er = er ∙ rw (eq, et, en)

pub minor-is : (w h : ℕ) (s : Span) (c : ℕ) (n : Line) (t : Bool) (q v x : ℕ) (r : CellRange) → n ≡ line_of s → t ≡ tall s → q ≡ cond t w h
    → v ≡ clamp (8 * c + 4) n.l n.u →
    x ≡ line_at n.l n.lm n.u n.um v → r ≡ minor_range x q → r ≡ strip_minor w h s c
unfolding strip_minor
minor-is w h s c n t q v x r en et eq ev ex er = er ∙ rw (ex, ev, eq, et, en)

-- a limit is above 0
pub limit-some : {w h : ℕ} → Sides w h → (t : Bool) → (0 < cond t h w) × (0 < cond t w h)
limit-some d true = (d.rows, d.columns)
limit-some d false = (d.columns, d.rows)

-- the major coordinate of the cell at two coordinates of the map
pub cell-major : (g : Grid) (s : Span) (c cm : ℕ) → c < cond (tall s) g.height g.width → cm < cond (tall s) g.width g.height
    → major_of g s (cell_of g s c cm) ≡ c
unfolding cell_of major_of
cell-major g s c cm major minor =
    by-test (tall s)
    (λ e. rw e (row-of g cm c (rw e at minor)))
    (λ e. rw e (column-of g c cm (rw e at major)))
