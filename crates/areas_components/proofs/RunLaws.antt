-- The first cells of runs, as parents.
use mathlib.Core.Path.{◌≡◌, refl, sym, ◌∙◌, ap, subst}
use mathlib.Core.Logic.{by_cases}
use mathlib.Core.Bool.{Bool, true, false, cond}
use mathlib.Core.List.{List, Memᴰ}
use Prim.Native.Nat.{ℕ, zero, suc, ◌+◌, ◌*◌, ◌%◌, ◌<◌, ◌≤◌}
use native.Mathlib.Omega.{arith}
use native.Mathlib.Numerals.{add-one}
use native.Mathlib.Decide.{ℕ_discrete}
use lib.Dec.{eqb}
use lib.ListN.{length, get_or}
use Rattle.order.proofs.Bools.{by-test}
use Rattle.wire.specs.Bytes.{part, splice, u32_bytes}
use Rattle.wire.proofs.Parts.{part_at}
use Rattle.graph.specs.Path.{Edge, Path, here}
use Rattle.graph.specs.Parts as parts
use Rattle.graph.proofs.Paths.{path-trans, path-kept, path-between, path-edge}
use Rattle.graph.proofs.Parts.{part_same, part-le, part-path}
use Rattle.grid.specs.Steps.{step_of}
use Rattle.areas.specs.Open.{later, bit_at, named}
use Rattle.areas.specs.Words.{word}
use Rattle.areas.proofs.Named.{named-names, names-named}
use Rattle.areas_components.specs.Dues.{byte_in, runs, run_start}
use Rattle.areas_components.specs.Forests.{Forest, Kept}
use Rattle.areas_components.proofs.WordLaws.{kept-none, kept_trans, put-kept, put-upd, put_other}
use Rattle.areas_components.proofs.StepLaws.{first_bit, to-right, kept_at}
use Rattle.areas_components.proofs.DueLaws.{half-bit, half-zero, run_at, runs-long}

module _ (width : ℕ) (bytes : List ℕ) where
  pub start-below : (i : ℕ) → run_start bytes i ≤ i
  unfolding run_start
  start-below zero = omega arith
  start-below (suc i) = by-test (bit_at (byte_in bytes i) 0) (λ e. rw e (omega (arith, start-below i))) (λ e. rw e (omega arith))

  start-joined : (j : ℕ) → bit_at (byte_in bytes j) 0 ≡ true → run_start bytes (suc j) ≡ run_start bytes j
  unfolding run_start
  start-joined j t = rw t

  -- an edge of the runs joins a cell and the next, where the bit is set
  run-edge : (e : Edge) → Memᴰ e (named width (runs bytes)) → (i : ℕ) × (bit_at (byte_in bytes i) 0 ≡ true) × (e.left ≡ i) × (e.right ≡ suc i)
  run-edge e m =
      let w = named-names width (runs bytes) e m in
      let l : w.cell < length bytes = omega (arith, runs-long width bytes, w.below) in
      let h : bit_at (byte_in bytes w.cell % 2) w.bit ≡ true = ap (λ (x : ℕ). bit_at x w.bit) (sym (run_at width bytes w.cell l)) ∙ w.is_set in
      let z : w.bit ≡ 0 = half-zero (byte_in bytes w.cell) w.bit w.small h in
      let first = sym (half-bit (byte_in bytes w.cell)) ∙ (ap (bit_at (byte_in bytes w.cell % 2)) (sym z) ∙ h) in
      let next : w.cell + later width w.bit ≡ suc w.cell =
      ap (λ (k : ℕ). w.cell + later width k) z ∙ (sym (to-right width w.cell) ∙ add-one w.cell) in
      (w.cell, first, sym (ap (λ (x : Edge). x.left) w.edge), sym (ap (λ (x : Edge). x.right) w.edge) ∙ next)

  start-path : (i : ℕ) → i < length bytes → Path (named width (runs bytes)) (run_start bytes i) i
  unfolding run_start
  start-path zero l = here
  start-path (suc i) l =
      by-test (bit_at (byte_in bytes i) 0)
      (λ e. rw e (path-trans (start-path i (omega arith)) (step e)))
      (λ e. rw e here)
    where
      step : bit_at (byte_in bytes i) 0 ≡ true → Path (named width (runs bytes)) i (suc i)
      step h =
          let m : i < length bytes = omega arith in
          let is_set = ap (λ (x : ℕ). bit_at x 0) (run_at width bytes i m) ∙ (half-bit (byte_in bytes i) ∙ h) in
          let w = names-named width (runs bytes) (step_of i (i + later width 0))
          (record { cell = i; bit = 0; below = omega (arith, runs-long width bytes); small = omega arith; is_set = is_set; edge = refl }) in
          path-between refl (path-edge (step_of i (i + later width 0)) w) (sym (to-right width i) ∙ add-one i)

  -- no step leads to the first cell of a run from before it
  start_first : (i : ℕ) → run_start bytes i ≡ i → {a b : ℕ} → Path (named width (runs bytes)) a b → i ≤ a → i ≤ b
  start_first i e p h = path-kept (λ x. i ≤ x) (λ d m. let q = run-edge d m in (λ k. omega (arith, q.2, q.3), λ k. back d q k)) p h
    where
      back : (d : Edge) → (j : ℕ) × (bit_at (byte_in bytes j) 0 ≡ true) × (d.left ≡ j) × (d.right ≡ suc j) → i ≤ d.right → i ≤ d.left
      back d q k =
          by_cases (ℕ_discrete i (suc q.0))
          (λ z. absurd (omega (arith, z, subst (λ (x : ℕ). run_start bytes x ≡ x) z e, start-joined q.0 q.1, start-below q.0)))
          (λ z. omega (arith, q.2, q.3))

  pub runs-forest : (n : ℕ) (p : ℕ → ℕ) → length bytes ≡ n → ((i : ℕ) → i < n → p i ≡ run_start bytes i) → Forest (named width (runs bytes)) n p
  runs-forest n p e h = record {
    falls = λ i l. omega (arith, h i l, start-below i);
    along = λ i l. ap (parts.component_of (named width (runs bytes))) (h i l) ∙ part_same (named width (runs bytes)) (start-path i (omega arith));
    top = λ i l t.
        let es = named width (runs bytes) in
        let low = start_first i (sym (h i l) ∙ t) (part-path es i) (omega arith) in
        omega (arith, low, part-le es i);
  }

-- the first i cells have their parents; `first` is the parent of the last of them, and `joined` says whether it is also that of the next
pub record Running (n base i first : ℕ) (joined : Bool) (s w : List ℕ) : Type 0 where
  pub below : i ≤ n
  pub kept : Kept n s w
  pub words : (j : ℕ) → j < i → word w j ≡ run_start (part s base n) j
  pub next : cond joined first i ≡ run_start (part s base n) i

pub running-start : (n base : ℕ) (s : List ℕ) → Running n base 0 0 false s s
unfolding run_start
running-start n base s = record { below = omega arith; kept = kept-none n s; words = λ j l. absurd (omega arith); next = refl }

module _ {n base i first : ℕ} {joined : Bool} {s w : List ℕ} (apart : 4 * n ≤ base) (room : base + n ≤ length s) (few : n ≤ 1048576)
    (h : Running n base i first joined s w) (l : i < n) (f : ℕ) (ef : f ≡ cond joined first i) where
  pub running-small : f ≤ i
  running-small = omega (arith, ef, h.next, start-below 0 (part s base n) i)

  pub running-room : 4 * i + 4 ≤ length w
  running-room = omega (arith, h.kept.size)

  put_next : (b : Bool) → b ≡ eqb (get_or (splice w (4 * i) (u32_bytes f)) (base + i) 0 % 2) 1 → Running n base (i + 1) f b s (splice w (4 * i) (u32_bytes f))
  unfolding run_start
  put_next b eb = record {
    below = omega arith;
    kept = keeps;
    words = λ j k.
        by_cases (ℕ_discrete j i)
        (λ e. ap (word (splice w (4 * i) (u32_bytes f))) e
        ∙ ((put-upd w i f running-room (omega (arith, running-small))).at ∙ (ef ∙ (h.next ∙ ap (run_start (part s base n)) (sym e)))))
        (λ d. put_other w i f running-room j d ∙ h.words j (omega arith));
    next = rw (add-one, bit) (ap (λ (x : ℕ). cond (bit_at (byte_in (part s base n) i) 0) x (suc i)) (ef ∙ h.next));
  }
    where
      keeps : Kept n s (splice w (4 * i) (u32_bytes f))
      keeps = kept_trans n h.kept (put-kept w i f running-room n l)

      bit : b ≡ bit_at (byte_in (part s base n) i) 0
      bit = eb ∙ (ap (λ (x : ℕ). eqb (x % 2) 1) (kept_at keeps (base + i) (omega arith) ∙ sym (part_at s base n i l)) ∙ first_bit (byte_in (part s base n) i))

  pub running-next : (v : List ℕ) → v ≡ splice w (4 * i) (u32_bytes f) → (b : Bool) → b ≡ eqb (get_or v (base + i) 0 % 2) 1 → Running n base (i + 1) f b s v
  running-next v ev b eb =
      subst (λ (x : List ℕ). Running n base (i + 1) f b s x) (sym ev) (put_next b (eb ∙ ap (λ (x : List ℕ). eqb (get_or x (base + i) 0 % 2) 1) ev))

pub running-end : {n base i first : ℕ} {joined : Bool} {s w : List ℕ} → Running n base i first joined s w → (i < n → ⊥) →
    Kept n s w × ((j : ℕ) → j < n → word w j ≡ run_start (part s base n) j)
running-end h q = (h.kept, λ j l. h.words j (omega (arith, h.below)))
