-- The labels that the open bytes of a map make are its areas.
use mathlib.Core.Path.{◌≡◌, refl, sym, ◌∙◌, ap, subst}
use mathlib.Core.Logic.{by_cases}
use mathlib.Core.Bool.{Bool, true, false, not, ◌&&◌}
use mathlib.Core.List.Memᴰ
use mathlib.Core.List.{List, Memᴰ}
use Prim.Native.Nat.{ℕ, zero, suc, ◌+◌, ◌*◌, ◌-◌, ◌/◌, ◌%◌, ◌<◌, ◌≤◌}
use native.Mathlib.Omega.{arith}
use native.Mathlib.Nat.{suc-mul, mod-lt}
use native.Mathlib.Decide.{dec_lt}
use lib.Dec.{eqb}
use lib.ListN.{length, get_or}
use Rattle.lists.specs.Rows.{rows}
use Rattle.lists.proofs.Rows.{length-rows, rows_at}
use Rattle.order.specs.Lists.{has}
use Rattle.order.specs.Pairs.{SameMembers}
use Rattle.order.proofs.Bools.{and_parts, and_both}
use Rattle.order.proofs.Numbers.{has-mem, mem-has}
use Rattle.position.specs.declared.Span.{Span}
use Rattle.graph.specs.Path.{Edge}
use Rattle.graph.specs.Labelling.{Among}
use Rattle.graph.specs.Labels.{labels, label_count}
use Rattle.graph.proofs.Paths.{path-same}
use Rattle.graph.proofs.LabelList.{labels-edges, label_count-ext}
use Rattle.grid.specs.Cells.{Grid, size, walkable, row_of}
use Rattle.grid.specs.Directions.{IsDirection}
use Rattle.grid.specs.Steps.{neighbour, has_step, leads_on, StepBy, Step, step_of, steps}
use Rattle.grid.proofs.Index.{walkable-on, index-split}
use Rattle.grid.proofs.Steps.{leads-means, has-step, step-has}
use Rattle.grid.proofs.StepList.{steps-iff}
use Rattle.order.proofs.Keep.{keep-mem, mem-keep}
use Rattle.areas.specs.Cuts.{is_cut, uncut_steps}
use Rattle.areas.proofs.Cuts.{uncut-among}
use Rattle.areas.specs.Areas.{area_labels, area_count}
use Rattle.areas.specs.Open.{is_open, bit_of, open_byte, later, bit_at, named}
use Rattle.areas.proofs.Named.{Names, named-names, names-named}

-- the bits of a sum of bits
pub bit-small : (b : Bool) → bit_of b ≤ 1
bit-small true = omega arith
bit-small false = omega arith

bit_test : (b : Bool) → eqb (bit_of b) 1 ≡ b
bit_test true = refl
bit_test false = refl

module _ (dirs : List ℕ) (g : Grid) (ss : List Span) (i : ℕ) where
  -- each bit of the byte of a cell is what it says
  pub open-bit : (k : ℕ) → k < 4 → bit_at (open_byte dirs g ss i) k ≡ is_open dirs g ss i k
  unfolding open_byte
  open-bit k l = go k l
    where
      p : ℕ → ℕ
      p j = bit_of (is_open dirs g ss i j)

      one : (j : ℕ) → p j ≤ 1
      one j = bit-small (is_open dirs g ss i j)

      go : (k : ℕ) → k < 4 → bit_at (p 0 + 2 * p 1 + 4 * p 2 + 8 * p 3) k ≡ is_open dirs g ss i k
      go zero l =
          ap (λ (x : ℕ). eqb x 1) (let z : (p 0 + 2 * p 1 + 4 * p 2 + 8 * p 3) / 1 % 2 ≡ p 0 = omega (arith, one 0) in z) ∙ bit_test (is_open dirs g ss i 0)
      go (suc zero) l =
          ap (λ (x : ℕ). eqb x 1) (let z : (p 0 + 2 * p 1 + 4 * p 2 + 8 * p 3) / 2 % 2 ≡ p 1 = omega (arith, one 0, one 1) in z)
          ∙ bit_test (is_open dirs g ss i 1)
      go (suc (suc zero)) l =
          ap (λ (x : ℕ). eqb x 1) (let z : (p 0 + 2 * p 1 + 4 * p 2 + 8 * p 3) / 4 % 2 ≡ p 2 = omega (arith, one 0, one 1, one 2) in z)
          ∙ bit_test (is_open dirs g ss i 2)
      go (suc (suc (suc zero))) l =
          ap (λ (x : ℕ). eqb x 1) (let z : (p 0 + 2 * p 1 + 4 * p 2 + 8 * p 3) / 8 % 2 ≡ p 3 = omega (arith, one 0, one 1, one 2, one 3) in z)
          ∙ bit_test (is_open dirs g ss i 3)
      go (suc (suc (suc (suc k)))) l = absurd (omega arith)

-- a row on
next_row : (row w : ℕ) → (row + 2 - 1) * w ≡ row * w + w
next_row row w = ap (λ (x : ℕ). x * w) (let z : row + 2 - 1 ≡ suc row = omega arith in z) ∙ suc-mul row w

same_row : (row w : ℕ) → (row + 1 - 1) * w ≡ row * w
same_row row w = ap (λ (x : ℕ). x * w) (let z : row + 1 - 1 ≡ row = omega arith in z)

-- a row back
last_row : (row w : ℕ) → 0 < row + 0 → (row + 0 - 1) * w + w ≡ row * w
last_row row w l = sym (suc-mul (row + 0 - 1) w) ∙ ap (λ (x : ℕ). x * w) (let z : suc (row + 0 - 1) ≡ row = omega arith in z)

module _ (g : Grid) (i : ℕ) where
  -- where directions 5 to 8 lead
  pub neighbour-later : (k : ℕ) → k < 4 → leads_on g i (5 + k) ≡ true → neighbour g i (5 + k) ≡ i + later g.width k
  unfolding later
  neighbour-later zero l h = omega (arith, same_row (row_of g i) g.width, index-split g i)
  neighbour-later (suc zero) l h = let m = leads-means g i 6 h in omega (arith, m.left-edge, m.right-edge, next_row (row_of g i) g.width, index-split g i)
  neighbour-later (suc (suc zero)) l h = omega (arith, next_row (row_of g i) g.width, index-split g i)
  neighbour-later (suc (suc (suc zero))) l h = omega (arith, next_row (row_of g i) g.width, index-split g i)
  neighbour-later (suc (suc (suc (suc k)))) l h = absurd (omega arith)

  later-far : (k : ℕ) → k < 4 → leads_on g i (5 + k) ≡ true → 0 < later g.width k
  unfolding later
  later-far zero l h = omega arith
  later-far (suc zero) l h = let m = leads-means g i 6 h in
      omega (arith, m.left-edge, m.right-edge, mod-lt i (let z : 0 < g.width = omega (arith, m.left-edge, m.right-edge) in z))
  later-far (suc (suc zero)) l h = let m = leads-means g i 7 h in omega (arith, m.right-edge)
  later-far (suc (suc (suc zero))) l h = omega arith
  later-far (suc (suc (suc (suc k)))) l h = absurd (omega arith)

  -- directions 0 to 3 lead to earlier cells
  neighbour-earlier : (d : ℕ) → d < 4 → leads_on g i d ≡ true → neighbour g i d < i
  neighbour-earlier zero l h = let m = leads-means g i 0 h in
      omega (arith, m.left-edge, m.right-edge, m.top-edge, last_row (row_of g i) g.width m.top-edge, index-split g i)
  neighbour-earlier (suc zero) l h = let m = leads-means g i 1 h in
      omega (arith, m.left-edge, m.right-edge, m.top-edge, last_row (row_of g i) g.width m.top-edge, index-split g i)
  neighbour-earlier (suc (suc zero)) l h = let m = leads-means g i 2 h in
      omega (arith, m.left-edge, m.right-edge, m.top-edge, last_row (row_of g i) g.width m.top-edge, index-split g i)
  neighbour-earlier (suc (suc (suc zero))) l h = let m = leads-means g i 3 h in omega (arith, m.left-edge, same_row (row_of g i) g.width, index-split g i)
  neighbour-earlier (suc (suc (suc (suc d)))) l h = absurd (omega arith)

module _ (dirs : List ℕ) (g : Grid) (ss : List Span) (each : (d : ℕ) → Memᴰ d dirs → IsDirection d) where
  -- the open bytes of the map
  abbrev open_bytes : List ℕ
  open_bytes = rows (size g) (open_byte dirs g ss)

  size-bytes : length open_bytes ≡ size g
  size-bytes = length-rows (size g) (open_byte dirs g ss)

  byte-open : (i k : ℕ) → i < size g → k < 4 → bit_at (get_or open_bytes i 0) k ≡ is_open dirs g ss i k
  byte-open i k l m = ap (λ (x : ℕ). bit_at x k) (rows_at (size g) (open_byte dirs g ss) i 0 l) ∙ open-bit dirs g ss i k m

  open-uncut : (i k : ℕ) → k < 4 → is_open dirs g ss i k ≡ true → Memᴰ (step_of i (i + later g.width k)) (uncut_steps dirs g ss)
  unfolding is_open uncut_steps later
  open-uncut i k l h =
      let p = and_parts (has (5 + k) dirs) (has_step g i (5 + k) && not (is_cut g ss (step_of i (neighbour g i (5 + k))))) h in
      let q = and_parts (has_step g i (5 + k)) (not (is_cut g ss (step_of i (neighbour g i (5 + k))))) p.1 in
      let s : StepBy g (5 + k) i (neighbour g i (5 + k)) = has-step g i (5 + k) q.0 in
      let e : neighbour g i (5 + k) ≡ i + later g.width k = neighbour-later g i k l s.leads in
      let far : i < neighbour g i (5 + k) = omega (arith, e, later-far g i k l s.leads) in
      Memᴰ.cast (ap (step_of i) (sym e))
      (mem-keep (λ x. not (is_cut g ss x))
      ((steps-iff dirs g i (neighbour g i (5 + k))).1 (record { by = 5 + k; among = has-mem (5 + k) dirs p.0; taken = s }, far)) q.1)

  -- a step to a later cell goes in direction 5 to 8
  forward : (d i j : ℕ) → IsDirection d → StepBy g d i j → i < j → 5 ≤ d
  forward d i j h s l =
      by_cases (dec_lt d 4) (λ m. absurd (omega (arith, neighbour-earlier g i d m s.leads, s.there))) (λ m. let q = h.1 in omega arith)

  uncut-open : (e : Edge) → Memᴰ e (uncut_steps dirs g ss) → Names g.width open_bytes (size g) e
  unfolding uncut_steps is_open
  uncut-open e m = record {
    cell = e.left;
    bit = s.by - 5;
    below = walkable-on g e.left s.taken.from;
    small = omega (arith, (each s.by s.among).0);
    is_set = byte-open e.left (s.by - 5) (walkable-on g e.left s.taken.from) (omega (arith, (each s.by s.among).0)) ∙ opened;
    edge = ap (step_of e.left)
        (sym (neighbour-later g e.left (s.by - 5) (omega (arith, (each s.by s.among).0)) (ap (leads_on g e.left) back ∙ s.taken.leads))
        ∙ (ap (neighbour g e.left) back ∙ s.taken.there));
  }
    where
      k : Memᴰ e (steps dirs g) × (not (is_cut g ss e) ≡ true)
      k = keep-mem (λ x. not (is_cut g ss x)) (steps dirs g) m

      t : Step dirs g e.left e.right × (e.left < e.right)
      t = (steps-iff dirs g e.left e.right).0 k.0

      s : Step dirs g e.left e.right
      s = t.0

      back : 5 + (s.by - 5) ≡ s.by
      back = omega (arith, forward s.by e.left e.right (each s.by s.among) s.taken t.1)

      opened : is_open dirs g ss e.left (s.by - 5) ≡ true
      opened =
          ap (λ (d : ℕ). has d dirs && (has_step g e.left d && not (is_cut g ss (step_of e.left (neighbour g e.left d))))) back
          ∙ and_both (mem-has s.by dirs s.among)
          (and_both (step-has g e.left s.by s.taken) (ap (λ (x : ℕ). not (is_cut g ss (step_of e.left x))) s.taken.there ∙ k.1))

  -- the steps that the bytes name are the uncut steps
  pub open-members : SameMembers (named g.width open_bytes) (uncut_steps dirs g ss)
  open-members e = (to, from)
    where
      to : Memᴰ e (named g.width open_bytes) → Memᴰ e (uncut_steps dirs g ss)
      to m =
          let w = named-names g.width open_bytes e m in
          let l : w.cell < size g = omega (arith, w.below, size-bytes) in
          Memᴰ.cast (sym w.edge) (open-uncut w.cell w.bit w.small (sym (byte-open w.cell w.bit l w.small) ∙ w.is_set))

      from : Memᴰ e (uncut_steps dirs g ss) → Memᴰ e (named g.width open_bytes)
      from m = names-named g.width open_bytes e (subst (λ (n : ℕ). Names g.width open_bytes n e) (sym size-bytes) (uncut-open e m))

  -- and lead between walkable cells
  pub open-among : Among (walkable g) (named g.width open_bytes)
  open-among e m = uncut-among dirs g ss e ((open-members e).0 m)

  pub open-labels : labels (size g) (walkable g) (named g.width open_bytes) ≡ area_labels dirs g ss
  unfolding area_labels
  open-labels = labels-edges (size g) (walkable g) (named g.width open_bytes) (uncut_steps dirs g ss) open-members

  pub open-count : label_count (size g) (walkable g) (named g.width open_bytes) ≡ area_count dirs g ss
  unfolding area_count
  open-count = label_count-ext (size g) (walkable g) (named g.width open_bytes) (uncut_steps dirs g ss) (path-same open-members)
