-- The steps that a span cuts, gone through by its strip: all of them, each once.
use mathlib.Core.Path.{◌≡◌, refl, sym, ◌∙◌, ap, subst}
use mathlib.Core.Logic.{by_cases}
use mathlib.Core.Bool.{Bool, true, false, cond, ◌&&◌}
use mathlib.Core.List.Memᴰ
use mathlib.Core.List.Permᴰ
use mathlib.Core.List.{List, [], ◌∷◌, Memᴰ, Permᴰ}
use Prim.Native.Nat.{ℕ, ◌+◌, ◌*◌, ◌-◌, ◌≤◌, ◌<◌}
use native.Mathlib.Omega.{arith}
use native.Mathlib.Nat.{mul-le-mul_right}
use native.Mathlib.Decide.{dec_lt, dec_le}
use Rattle.order.specs.Lists.{up_from, has}
use Rattle.order.specs.Pairs.{none, more, Distinct}
use Rattle.order.proofs.Bools.{by-test, and_parts, and_both}
use Rattle.order.proofs.Members.{perm-length}
use Rattle.order.proofs.Keep.{keep-mem, keep-pairs, keep-perm}
use Rattle.order.proofs.Gather.{gather-mem, mem-gather, gather_pairs}
use Rattle.order.proofs.Numbers.{up_mem, mem_up, up_strict, has-mem, mem-has}
use Rattle.order.proofs.Pairs.{pairs-imp, pairs-mem}
use Rattle.order.proofs.Distinct.{distinct-same}
use Rattle.order.proofs.Once.{once-forgets}
use Rattle.position.specs.Order.{pos_le}
use Rattle.position.specs.declared.Span.{Span}
use Rattle.graph.specs.Path.{Edge}
use Rattle.grid.specs.Cells.{Grid, Whole, column_of, row_of}
use Rattle.grid.specs.Directions.{directions_of}
use Rattle.grid.specs.Steps.{neighbour, column_to, row_to, has_step, Step, StepBy, step_of}
use Rattle.grid.proofs.Index.{index-split, column-in, walkable-on}
use Rattle.grid.proofs.Steps.{Leads, leads-means, has-step, step-has, neighbour-one}
use Rattle.grid.proofs.StepList.{steps-iff, steps-distinct}
use Rattle.areas.specs.Cuts.{cut_by, cut_steps}
use Rattle.areas.specs.Spans.{Sides}
use Rattle.areas.specs.Strip.{numbers_of, tall, strip_axis, strip_minor, major_of, minor_of, cell_of}
use Rattle.areas.specs.Assessments.{is_separated, label_pair, assessment}
use Rattle.areas.proofs.Assessments.{pair-order}
use Rattle.areas.proofs.Cuts.{cut-steps-iff}
use Rattle.areas.proofs.StripCells.{axis-on, minor-on, in_within, cut-in, cell-major}
use Rattle.areas_assessments.specs.Visits.{is_cut_in, cut_in, cut_from, cut_beside, cut_along}

-- an assessment does not depend on the order of the steps
pub assessment-perm : (ls : List ℕ) {es fs : List Edge} → Permᴰ es fs → assessment ls es ≡ assessment ls fs
unfolding assessment
assessment-perm ls p =
    let a = perm-length p in
    let b = perm-length (keep-perm (is_separated ls) p) in
    let c = once-forgets pair-order (Permᴰ.map (label_pair ls) (keep-perm (is_separated ls) p)) in λ i. record { removed = a i; separated = b i; pairs = c i }

-- where a direction leads: to a later cell exactly from 5 on
module _ (g : Grid) (whole : Whole g) (i d : ℕ) (t : has_step g i d ≡ true) (small : d < 9) where
  leads : Leads g i d
  leads = leads-means g i d (has-step g i d t).leads

  column-here : column_of g i < g.width
  column-here = column-in g whole i (walkable-on g i (has-step g i d t).from)

  goes_later : 5 ≤ d → i < neighbour g i d
  goes_later h =
      let l = leads in
      let s = index-split g i in
      let c = column-here in
      by_cases (dec_lt d 6)
      (λ a. let e : row_to g i d ≡ row_of g i = omega arith in
      let f : column_to g i d ≡ column_of g i + 1 = omega arith in omega (arith, ap (λ (z : ℕ). z * g.width) e))
      (λ a. let e : row_to g i d ≡ row_of g i + 1 = omega arith in omega (arith, ap (λ (z : ℕ). z * g.width) e))

  only-later : i < neighbour g i d → 5 ≤ d
  only-later h =
      let l = leads in
      let s = index-split g i in
      let c = column-here in
      by_cases (dec_le 5 d) (λ a. a)
      (λ a. by_cases (dec_lt d 3)
      (λ b. let e : row_to g i d + 1 ≡ row_of g i = omega (arith, l.top-edge) in
      let k : column_to g i d < g.width = omega (arith, l.right-edge, l.left-edge) in absurd (omega (arith, ap (λ (z : ℕ). z * g.width) e)))
      (λ b. let e : row_to g i d ≡ row_of g i = omega arith in
      let k : column_to g i d ≤ column_of g i = omega arith in absurd (omega (arith, ap (λ (z : ℕ). z * g.width) e))))

module _ (dirs : List ℕ) (g : Grid) (s : Span) where
  -- what it is to be the step in a direction
  in_mem : (i d : ℕ) {e : Edge} → Memᴰ e (cut_in dirs g s i d) → (e ≡ step_of i (neighbour g i d)) × (is_cut_in dirs g s i d ≡ true)
  unfolding cut_in
  in_mem i d {e} m = go (is_cut_in dirs g s i d) refl m
    where
      go : (b : Bool) → is_cut_in dirs g s i d ≡ b → Memᴰ e (cond b (step_of i (neighbour g i d) ∷ []) []) → (e ≡ step_of i (neighbour g i d))
          × (is_cut_in dirs g s i d ≡ true)
      go true h (Memᴰ.head q) = (q, h)
      go true h (Memᴰ.tail q) = absurd (Memᴰ.not-nil q)
      go false h q = absurd (Memᴰ.not-nil q)

  mem-in : (i d : ℕ) → is_cut_in dirs g s i d ≡ true → Memᴰ (step_of i (neighbour g i d)) (cut_in dirs g s i d)
  unfolding cut_in
  mem-in i d h = rw h (Memᴰ.head refl)

  in-distinct : (i d : ℕ) → Distinct (cut_in dirs g s i d)
  unfolding cut_in
  in-distinct i d = go (is_cut_in dirs g s i d)
    where
      go : (b : Bool) → Distinct (cond b (step_of i (neighbour g i d) ∷ []) [])
      go true = more (λ y m. absurd (Memᴰ.not-nil m)) none
      go false = none

  parts : (i d : ℕ) → is_cut_in dirs g s i d ≡ true → (has d dirs ≡ true) × (has_step g i d ≡ true) × (cut_by g s (step_of i (neighbour g i d)) ≡ true)
  unfolding is_cut_in
  parts i d h =
      let p = and_parts (has d dirs) (has_step g i d && cut_by g s (step_of i (neighbour g i d))) h in
      let q = and_parts (has_step g i d) (cut_by g s (step_of i (neighbour g i d))) p.1 in (p.0, q.0, q.1)

  together : (i d : ℕ) → has d dirs ≡ true → has_step g i d ≡ true → cut_by g s (step_of i (neighbour g i d)) ≡ true → is_cut_in dirs g s i d ≡ true
  unfolding is_cut_in
  together i d a b c = and_both a (and_both b c)

  -- from a cell
  from-mem : (i : ℕ) {e : Edge} → Memᴰ e (cut_from dirs g s i) → (d : ℕ) × Memᴰ d (up_from 5 4) × Memᴰ e (cut_in dirs g s i d)
  unfolding cut_from
  from-mem i m = gather-mem (cut_in dirs g s i) (up_from 5 4) m

  mem-from : (i d : ℕ) → 5 ≤ d → d < 9 → is_cut_in dirs g s i d ≡ true → Memᴰ (step_of i (neighbour g i d)) (cut_from dirs g s i)
  unfolding cut_from
  mem-from i d a b h = mem-gather (cut_in dirs g s i) (mem_up 5 4 d a (omega arith)) (mem-in i d h)

  from-left : (i : ℕ) {e : Edge} → Memᴰ e (cut_from dirs g s i) → e.left ≡ i
  from-left i m = let w = from-mem i m in ap (λ (e : Edge). e.left) (in_mem i w.0 w.2).0

  from-distinct : (i : ℕ) → Distinct (cut_from dirs g s i)
  unfolding cut_from
  from-distinct i = gather_pairs (cut_in dirs g s i) (in-distinct i) (pairs-imp across (up_strict 5 4))
    where
      across : (d k : ℕ) → d < k → (b c : Edge) → Memᴰ b (cut_in dirs g s i d) → Memᴰ c (cut_in dirs g s i k) → b ≡ c → ⊥
      across d k l b c m n e =
          let p = in_mem i d m in
          let q = in_mem i k n in
          let f = neighbour-one g i d k (has-step g i d (parts i d p.1).1).leads (has-step g i k (parts i k q.1).1).leads
          (ap (λ (x : Edge). x.right) (sym p.0 ∙ (e ∙ q.0))) in
          omega arith

  -- from the cells of the strip at c
  beside-mem : (c : ℕ) {e : Edge} → Memᴰ e (cut_beside dirs g s c) → (cm : ℕ) × Memᴰ cm (numbers_of (strip_minor g.width g.height s c))
      × Memᴰ e (cut_from dirs g s (cell_of g s c cm))
  unfolding cut_beside
  beside-mem c m = gather-mem (λ cm. cut_from dirs g s (cell_of g s c cm)) (numbers_of (strip_minor g.width g.height s c)) m

  along-mem : {e : Edge} → Memᴰ e (cut_along dirs g s) → (c : ℕ) × Memᴰ c (numbers_of (strip_axis g.width g.height s))
      × Memᴰ e (cut_beside dirs g s c)
  unfolding cut_along
  along-mem m = gather-mem (cut_beside dirs g s) (numbers_of (strip_axis g.width g.height s)) m

  mem-along : (c cm : ℕ) {e : Edge} → Memᴰ c (numbers_of (strip_axis g.width g.height s))
      → Memᴰ cm (numbers_of (strip_minor g.width g.height s c)) →
      Memᴰ e (cut_from dirs g s (cell_of g s c cm)) → Memᴰ e (cut_along dirs g s)
  unfolding cut_along cut_beside
  mem-along c cm a b m = mem-gather (cut_beside dirs g s) a (mem-gather (λ cm. cut_from dirs g s (cell_of g s c cm)) b m)

-- two places at one c are two cells
cell_apart : (g : Grid) (s : Span) → 0 < g.width → (c m n : ℕ) → m < n → cell_of g s c m ≡ cell_of g s c n → ⊥
unfolding cell_of
cell_apart g s some c m n l e =
    by-test (tall s) (λ t. let f = rw t at e in omega arith)
    (λ t. let f = rw t at e in omega (arith, mul-le-mul_right {m = m + 1} {n = n} g.width (omega arith)))

cell-back : (g : Grid) (s : Span) (i : ℕ) → cell_of g s (major_of g s i) (minor_of g s i) ≡ i
unfolding cell_of major_of minor_of
cell-back g s i = by-test (tall s) (λ t. rw t (index-split g i)) (λ t. rw t (index-split g i))

in-within-range : {a b k : ℕ} → a ≤ k → k ≤ b → Memᴰ k (up_from a (b + 1 - a))
in-within-range {a} {b} {k} h l = mem_up a (b + 1 - a) k h (omega arith)

module _ (dirs : List ℕ) (g : Grid) (whole : Whole g) (sides : Sides g.width g.height) (s : Span) where
  beside-distinct : (c : ℕ) → Distinct (cut_beside dirs g s c)
  unfolding cut_beside
  beside-distinct c =
      gather_pairs (λ cm. cut_from dirs g s (cell_of g s c cm)) (λ cm. from-distinct dirs g s (cell_of g s c cm))
      (pairs-imp across (up_strict (strip_minor g.width g.height s c).first
      ((strip_minor g.width g.height s c).last + 1 - (strip_minor g.width g.height s c).first)))
    where
      across : (m n : ℕ) → m < n → (b d : Edge) → Memᴰ b (cut_from dirs g s (cell_of g s c m)) → Memᴰ d (cut_from dirs g s (cell_of g s c n)) → b ≡ d → ⊥
      across m n l b d p q e =
          cell_apart g s sides.columns c m n l
          (sym (from-left dirs g s (cell_of g s c m) p) ∙ (ap (λ (x : Edge). x.left) e ∙ from-left dirs g s (cell_of g s c n) q))

  -- where a step of the strip at c starts
  beside-major : (c : ℕ) {e : Edge} → Memᴰ c (numbers_of (strip_axis g.width g.height s)) → Memᴰ e (cut_beside dirs g s c)
      → major_of g s e.left ≡ c
  beside-major c {e} a m =
      let w = beside-mem dirs g s c m in
      let x = up_mem _ _ a in
      let y = up_mem _ _ w.1 in
      let p = axis-on sides s in
      let q = minor-on sides s c in
      ap (major_of g s) (from-left dirs g s (cell_of g s c w.0) w.2) ∙ cell-major g s c w.0 (omega arith) (omega arith)

  along-distinct : Distinct (cut_along dirs g s)
  unfolding cut_along
  along-distinct =
      gather_pairs (cut_beside dirs g s) beside-distinct
      (pairs-imp across (pairs-mem
      (up_strict (strip_axis g.width g.height s).first
      ((strip_axis g.width g.height s).last + 1 - (strip_axis g.width g.height s).first))))
    where
      across : (m n : ℕ)
          → (m < n) × Memᴰ m (numbers_of (strip_axis g.width g.height s)) × Memᴰ n (numbers_of (strip_axis g.width g.height s)) →
          (b d : Edge) → Memᴰ b (cut_beside dirs g s m) → Memᴰ d (cut_beside dirs g s n) → b ≡ d → ⊥
      across m n (l, u, v) b d p q e =
          let f = beside-major m u p in
          let h = beside-major n v q in
          let k : major_of g s b.left ≡ major_of g s d.left = ap (λ (x : Edge). major_of g s x.left) e in
          omega arith

  module _ (small : (d : ℕ) → Memᴰ d dirs → d < 9) (ordered : pos_le s.a s.b ≡ true) where
    to-cut : {e : Edge} → Memᴰ e (cut_along dirs g s) → Memᴰ e (cut_steps dirs g s)
    to-cut {e} m =
        let u = along-mem dirs g s m in
        let v = beside-mem dirs g s u.0 u.2 in
        let i = cell_of g s u.0 v.0 in
        let w = from-mem dirs g s i v.2 in
        let d = w.0 in
        let r = up_mem 5 4 w.1 in
        let x = in_mem dirs g s i d w.2 in
        let p = parts dirs g s i d x.1 in
        let t : Step dirs g i (neighbour g i d) = record { by = d; among = has-mem d dirs p.0; taken = has-step g i d p.1 } in
        Memᴰ.cast x.0 ((cut-steps-iff dirs g s (step_of i (neighbour g i d))).1
        ((steps-iff dirs g i (neighbour g i d)).1 (t, goes_later g whole i d p.1 (omega arith) r.0), p.2))

    from_step : (i d j : ℕ) → Memᴰ d dirs → StepBy g d i j → i < j → cut_by g s (step_of i j) ≡ true → Memᴰ (step_of i j) (cut_along dirs g s)
    from_step i d j m t l cut =
        let h = step-has g i d t in
        let n = t.there in
        let nine = small d m in
        let c : cut_by g s (step_of i (neighbour g i d)) ≡ true = ap (λ (z : ℕ). cut_by g s (step_of i z)) n ∙ cut in
        let five = only-later g whole i d h nine (omega arith) in
        let k : 5 + (d - 5) ≡ d = omega arith in
        let w = in_within g s i (cut-in whole s ordered i (d - 5) (omega arith) (ap (has_step g i) k ∙ h)
        (ap (λ (z : ℕ). cut_by g s (step_of i (neighbour g i z))) k ∙ c)) in
        mem-along dirs g s (major_of g s i) (minor_of g s i) (in-within-range w.along.0 w.along.1) (in-within-range w.beside.0 w.beside.1)
        (subst (λ (z : ℕ). Memᴰ (step_of i j) (cut_from dirs g s z)) (sym (cell-back g s i))
        (Memᴰ.cast (ap (step_of i) (sym n)) (mem-from dirs g s i d five nine (together dirs g s i d (mem-has d dirs m) h c))))

    from_cut : {e : Edge} → Memᴰ e (cut_steps dirs g s) → Memᴰ e (cut_along dirs g s)
    from_cut {e} m =
        let p = (cut-steps-iff dirs g s e).0 m in
        let q = (steps-iff dirs g e.left e.right).0 p.0 in
        from_step e.left q.0.by e.right q.0.among q.0.taken q.1 p.1

    pub strip-perm : Distinct dirs → Permᴰ (cut_along dirs g s) (cut_steps dirs g s)
    unfolding cut_steps
    strip-perm once = distinct-same (cut_along dirs g s) (cut_steps dirs g s) along-distinct (keep-pairs (cut_by g s) (steps-distinct dirs g once))
        (λ y. (λ m. to-cut m, λ m. from_cut m))

directions-small : (n d : ℕ) → Memᴰ d (directions_of n) → d < 9
unfolding directions_of
directions-small n d m = let r = up_mem 0 9 (keep-mem _ (up_from 0 9) m).0 in omega arith

directions-distinct : (n : ℕ) → Distinct (directions_of n)
unfolding directions_of
directions-distinct n = keep-pairs _ (pairs-imp (λ i j l e. omega arith) (up_strict 0 9))

-- the strip leaves nothing out of the assessment
pub strip-assessed : (ls : List ℕ) (n : ℕ) (g : Grid) → Whole g → Sides g.width g.height → (s : Span) → pos_le s.a s.b ≡ true →
    assessment ls (cut_along (directions_of n) g s) ≡ assessment ls (cut_steps (directions_of n) g s)
strip-assessed ls n g whole sides s ordered =
    assessment-perm ls (strip-perm (directions_of n) g whole sides s (directions-small n) ordered (directions-distinct n))
