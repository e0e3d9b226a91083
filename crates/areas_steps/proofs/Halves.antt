-- The bytes of a map while a span is taken into account, cell after cell.
use mathlib.Core.Path.{◌≡◌, refl, sym, ◌∙◌, ap, ap₂, subst₂}
use mathlib.Core.Logic.{by_cases}
use mathlib.Core.Bool.{Bool, true, false, cond}
use mathlib.Core.List.{List, [], ◌∷◌, ◌++◌}
use Prim.Native.Nat.{ℕ, ◌+◌, ◌*◌, ◌/◌, ◌%◌, ◌≤◌, ◌<◌, min}
use native.Mathlib.Nat.{mul-le-mul_right}
use native.Mathlib.Omega.{arith}
use native.Mathlib.Decide.{ℕ_discrete, dec_lt}
use lib.ListN.{length, get_or, set, length-set}
use lib.Seq.{get_or-set_same, get_or-set_other}
use Rattle.order.proofs.Bools.{by-test}
use Rattle.position.specs.Order.{pos_le}
use Rattle.position.specs.declared.Span.{Span}
use Rattle.position.specs.declared.WalkPosition.{WalkPosition}
use Rattle.grid.specs.Cells.{Grid, Whole, size, index_of, column_of, row_of}
use Rattle.grid.specs.Steps.{leads_on, neighbour, column_to, row_to}
use Rattle.grid.proofs.Index.{index-split, column-of, row-of, column-in, row_in}
use Rattle.grid.proofs.Steps.{Leads, leads-means, neighbour-column, neighbour-row}
use Rattle.grid.proofs.Reach.{grid_of}
use Rattle.position.specs.Bounds.{Bounded}
use Rattle.areas.specs.Open.{open_byte}
use Rattle.areas.specs.Spans.{Sides, SpanFits}
use Rattle.areas.specs.Strip.{InRange, InStrip, tall, major_of, minor_of, strip_axis, strip_minor}
use Rattle.areas.specs.declared.candidates.CellRange.{CellRange}
use Rattle.areas.proofs.StripCells.{in_within, axis-on, minor-on}
use Rattle.areas_steps.specs.Marks.{MapOf, WorkHolds, rank_at, rank, Half}
use Rattle.areas_steps.proofs.Bits.{byte-off}

pub sides-of : {w h : ℕ} {g : Grid} → MapOf w h g → Sides w h → Sides g.width g.height
sides-of m d = record { columns = omega arith; rows = omega arith; wide = omega arith; high = omega arith }

-- the rank by column and row
pub rank-at : (g : Grid) (s : Span) (i : ℕ) {column row : ℕ} → column_of g i ≡ column → row_of g i ≡ row → rank g s i ≡ rank_at s column row
unfolding rank_at major_of minor_of
rank-at g s i e f = rw (e, f)

module _ (g : Grid) (whole : Whole g) (sides : Sides g.width g.height) (s : Span) where
  pub minor-small : (i : ℕ) → i < size g → minor_of g s i < 1024
  unfolding minor_of
  minor-small i l = by-test (tall s) (λ e. rw e (omega (arith, column-in g whole i l))) (λ e. rw e (omega (arith, row_in g whole i l)))

  -- each cell has a rank of its own
  same_place : (i j : ℕ) → major_of g s i ≡ major_of g s j → minor_of g s i ≡ minor_of g s j → (column_of g i ≡ column_of g j) × (row_of g i ≡ row_of g j)
  unfolding major_of minor_of
  same_place i j e f = by-test (tall s) (λ t. (rw t at f, rw t at e)) (λ t. (rw t at e, rw t at f))

  rank-one : (i j : ℕ) → i < size g → j < size g → rank g s i ≡ rank g s j → i ≡ j
  rank-one i j l k e =
      let a = minor-small i l in
      let b = minor-small j k in
      let p = same_place i j (omega arith) (omega arith) in
      sym (index-split g i) ∙ ap₂ (index_of g) p.0 p.1 ∙ index-split g j

  module _ (o : pos_le s.a s.b ≡ true) where
    -- cells that are not in the strip may be passed over
    pub half-skip : {base : ℕ} {dirs : List ℕ} {ss : List Span} {k : ℕ} {before work : List ℕ} (m : ℕ) → k ≤ m →
        ((i : ℕ) → i < size g → k ≤ rank g s i → rank g s i < m → InStrip g s i → ⊥) → Half base g dirs ss s k before work → Half base g dirs ss s m before work
    half-skip {base} {dirs} {ss} {k} {before} {work} m le off h = record {
      long = h.long;
      done = λ i l r.
          by_cases (dec_lt (rank g s i) k) (λ q. h.done i l q)
          (λ q. h.left i l (omega arith) ∙ sym (byte-off dirs g ss s i whole o (off i l (omega arith) r)));
      left = λ i l r. h.left i l (omega arith);
      rest = h.rest;
    }

    pub half-start : {base : ℕ} {dirs : List ℕ} {ss : List Span} {before work : List ℕ} (k : ℕ) →
        ((i : ℕ) → i < size g → rank g s i < k → InStrip g s i → ⊥) → WorkHolds base (size g) (open_byte dirs g ss) before work
        → Half base g dirs ss s k before work
    half-start {base} {dirs} {ss} {before} {work} k off h = record {
      long = h.long;
      done = λ i l r. h.here i l ∙ sym (byte-off dirs g ss s i whole o (off i l r));
      left = λ i l r. h.here i l;
      rest = h.rest;
    }

    pub half-end : {base : ℕ} {dirs : List ℕ} {ss : List Span} {k : ℕ} {before work : List ℕ} →
        ((i : ℕ) → i < size g → k ≤ rank g s i → InStrip g s i → ⊥) → Half base g dirs ss s k before work
        → WorkHolds base (size g) (open_byte dirs g (ss ++ (s ∷ []))) before work
    half-end {base} {dirs} {ss} {k} {before} {work} off h = record {
      long = h.long;
      here = λ i l.
          by_cases (dec_lt (rank g s i) k) (λ q. h.done i l q) (λ q. h.left i l (omega arith) ∙ sym (byte-off dirs g ss s i whole o (off i l (omega arith))));
      rest = h.rest;
    }

  -- one cell is done
  pub half-set : {base : ℕ} {dirs : List ℕ} {ss : List Span} {k : ℕ} {before work : List ℕ} (i v : ℕ) → i < size g → base + size g ≤ length work
      → rank g s i ≡ k →
      v ≡ open_byte dirs g (ss ++ (s ∷ [])) i → Half base g dirs ss s k before work → Half base g dirs ss s (k + 1) before (set work (base + i) v)
  half-set {base} {dirs} {ss} {k} {before} {work} i v l room r ev h = record {
    long = length-set work (base + i) v ∙ h.long;
    done = λ j m q.
        by_cases (ℕ_discrete j i)
        (λ e. ap (λ (x : ℕ). get_or (set work (base + i) v) (base + x) 0) e ∙ get_or-set_same work (base + i) v 0 (omega arith) ∙ ev
        ∙ ap (open_byte dirs g (ss ++ (s ∷ []))) (sym e))
        (λ ne. get_or-set_other work (base + i) (base + j) v 0 (λ e. ne (omega arith)) ∙ h.done j m (below j m q ne));
    left = λ j m q. get_or-set_other work (base + i) (base + j) v 0 (λ e. over j q (omega arith)) ∙ h.left j m (omega arith);
    rest = λ j off. get_or-set_other work (base + i) j v 0 (λ e. off (omega arith) (omega arith)) ∙ h.rest j off;
  }
    where
      below : (j : ℕ) → j < size g → rank g s j < k + 1 → (j ≡ i → ⊥) → rank g s j < k
      below j m q ne = by_cases (dec_lt (rank g s j) k) (λ a. a) (λ a. absurd (ne (rank-one j i m l (omega arith))))

      over : (j : ℕ) → k + 1 ≤ rank g s j → j ≡ i → ⊥
      over j q e = let z : rank g s j ≡ rank g s i = ap (rank g s) e in omega arith

-- what the ranges of the strip leave out
module _ {g : Grid} {w h : ℕ} (m : MapOf w h g) (sides : Sides w h) (s : Span) where
  in-axis : (i : ℕ) → InStrip g s i → ((strip_axis w h s).first ≤ major_of g s i) × (major_of g s i ≤ (strip_axis w h s).last)
  in-axis i z = subst₂ (λ (a b : ℕ). InRange (strip_axis a b s) (major_of g s i)) m.columns m.rows (in_within g s i z).along

  in-minor : (i : ℕ) → InStrip g s i →
      ((strip_minor w h s (major_of g s i)).first ≤ minor_of g s i) × (minor_of g s i ≤ (strip_minor w h s (major_of g s i)).last)
  in-minor i z = subst₂ (λ (a b : ℕ). InRange (strip_minor a b s (major_of g s i)) (minor_of g s i)) m.columns m.rows (in_within g s i z).beside

  pub before-axis : (i : ℕ) → rank g s i < (strip_axis w h s).first * 1024 → InStrip g s i → ⊥
  before-axis i r z = let p = in-axis i z in omega arith

  pub past-axis : (c i : ℕ) → i < size g → (strip_axis w h s).last < c → c * 1024 ≤ rank g s i → InStrip g s i → ⊥
  past-axis c i l q r z =
      let p = in-axis i z in
      let n = minor-small g m.whole (sides-of m sides) s i l in
      omega arith

  pub before-minor : (c i : ℕ) → i < size g → c * 1024 ≤ rank g s i → rank g s i < c * 1024 + min (strip_minor w h s c).first 1024 → InStrip g s i → ⊥
  before-minor c i l q r z =
      let n = minor-small g m.whole (sides-of m sides) s i l in
      let e : major_of g s i ≡ c = omega arith in
      let p = in-minor i z in
      let t : ((strip_minor w h s c).first ≤ minor_of g s i) × (minor_of g s i ≤ (strip_minor w h s c).last) = rw e at p in
      omega arith

  pub past-minor : (c k i : ℕ) → i < size g → (strip_minor w h s c).last < k → c * 1024 + min k 1024 ≤ rank g s i → rank g s i < (c + 1) * 1024 → InStrip g s i
      → ⊥
  past-minor c k i l q r u z =
      let n = minor-small g m.whole (sides-of m sides) s i l in
      let e : major_of g s i ≡ c = omega arith in
      let p = in-minor i z in
      let t : ((strip_minor w h s c).first ≤ minor_of g s i) × (minor_of g s i ≤ (strip_minor w h s c).last) = rw e at p in
      omega arith

pub limit-small : {w h : ℕ} → Sides w h → (t : Bool) → (cond t h w ≤ 1024) × (cond t w h ≤ 1024)
limit-small d true = (d.high, d.wide)
limit-small d false = (d.wide, d.high)

-- the cells along the span and beside it are on the map, whose sides are at most 1,024
pub axis-last : {w h : ℕ} (s : Span) {r : CellRange} → Sides w h → r ≡ strip_axis w h s → (r.last < cond (tall s) h w) × (cond (tall s) h w ≤ 1024)
axis-last s d e = (omega (arith, ap (λ (r : CellRange). r.last) e, axis-on d s), (limit-small d (tall s)).0)

pub minor-last : {w h : ℕ} (s : Span) (c : ℕ) {r : CellRange} → Sides w h → r ≡ strip_minor w h s c → (r.last < cond (tall s) w h) × (cond (tall s) w h ≤ 1024)
minor-last s c d e = (omega (arith, ap (λ (r : CellRange). r.last) e, minor-on d s c), (limit-small d (tall s)).1)

-- a place of a map
pub place_in : (w h x y : ℕ) → x < w → y < h → y * w + x < w * h
place_in w h x y l k = omega (arith, mul-le-mul_right {m = y + 1} {n = h} w (omega arith))

module _ {w h : ℕ} {g : Grid} (m : MapOf w h g) where
  pub map-size : size g ≡ w * h
  map-size = m.whole ∙ ap₂ ◌*◌ m.columns m.rows

  module _ (x y : ℕ) (l : x < w) (k : y < h) where
    pub map-column : column_of g (y * w + x) ≡ x
    map-column = ap (λ (n : ℕ). column_of g (y * n + x)) (sym m.columns) ∙ column-of g x y (omega arith)

    pub map_row : row_of g (y * w + x) ≡ y
    map_row = ap (λ (n : ℕ). row_of g (y * n + x)) (sym m.columns) ∙ row-of g x y (omega arith)

    pub map_on : y * w + x < size g
    map_on = omega (arith, place_in w h x y l k, map-size)

-- where a direction leads on, by numbers
pub leads-at : (w h x y d : ℕ) → x < w → leads_on (grid_of w h []) (y * w + x) d ≡ true → (0 < x + d % 3) × (x + d % 3 ≤ w) × (0 < y + d / 3) × (y + d / 3 ≤ h)
leads-at w h x y d l e = go (leads-means (grid_of w h []) (y * w + x) d e) (column-of (grid_of w h []) x y l) (row-of (grid_of w h []) x y l)
  where
    go : Leads (grid_of w h []) (y * w + x) d → column_of (grid_of w h []) (y * w + x) ≡ x → row_of (grid_of w h []) (y * w + x) ≡ y → (0 < x + d % 3)
        × (x + d % 3 ≤ w) × (0 < y + d / 3) × (y + d / 3 ≤ h)
    go m p q = (omega arith, omega arith, omega arith, omega arith)

pub leads-near : {w h : ℕ} {p : WalkPosition} (d : ℕ) {r : Bool} → p.x < w
    → ((g : Grid) (i : ℕ) → g.width ≡ w → g.height ≡ h → column_of g i ≡ p.x → row_of g i ≡ p.y → r ≡ leads_on g i d) → r ≡ true
    → (0 < p.x + d % 3) × (p.x + d % 3 ≤ w) × (0 < p.y + d / 3) × (p.y + d / 3 ≤ h)
leads-near {w} {h} {p} d l told e =
    let g = grid_of w h [] in
    leads-at w h p.x p.y d l (sym (told g _ refl refl (column-of g p.x p.y l) (row-of g p.x p.y l)) ∙ e)

-- the cell that it leads to
pub beyond-told : (g : Grid) (i d : ℕ) {p : WalkPosition} → leads_on g i d ≡ true → (p.x ≡ column_to g i d) × (p.y ≡ row_to g i d)
    → (column_of g (neighbour g i d) ≡ p.x) × (row_of g (neighbour g i d) ≡ p.y)
beyond-told g i d l to = let n = leads-means g i d l in (neighbour-column g i d n ∙ sym to.0, neighbour-row g i d n ∙ sym to.1)

-- the ends of a span on the map
pub ends-bounded : {w h : ℕ} {s : Span} → Sides w h → SpanFits w h s → Bounded s.a × Bounded s.b
ends-bounded d f = (record { column = omega arith; row = omega arith }, record { column = omega arith; row = omega arith })

-- the place at c along the span and cm on the other axis
pub place-fits : (t : Bool) (w h c cm x y : ℕ) → c < cond t h w → cm < cond t w h → x ≡ cond t cm c → y ≡ cond t c cm → (x < w) × (y < h)
place-fits true w h c cm x y l k e f = (omega arith, omega arith)
place-fits false w h c cm x y l k e f = (omega arith, omega arith)

pub rank-place : (s : Span) (t : Bool) (c cm x y : ℕ) → t ≡ tall s → x ≡ cond t cm c → y ≡ cond t c cm → rank_at s x y ≡ c * 1024 + cm
unfolding rank_at
rank-place s t c cm x y et ex ey = rw (← et) (go t ex ey)
  where
    go : (b : Bool) → x ≡ cond b cm c → y ≡ cond b c cm → cond b y x * 1024 + cond b x y ≡ c * 1024 + cm
    go true a b = omega arith
    go false a b = omega arith

pub half_at : {base : ℕ} {g : Grid} {dirs : List ℕ} {ss : List Span} {s : Span} {k : ℕ} {before work : List ℕ} (m : ℕ) → k ≡ m
    → Half base g dirs ss s k before work → Half base g dirs ss s m before work
half_at m e h = rw (← e) h
