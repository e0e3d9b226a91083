-- The list of steps: all of them, each once.
use mathlib.Core.Path.{◌≡◌, sym, ap, subst}
use mathlib.Core.Logic.{◌↔◌, ◌⊎◌, inl, inr, by_cases}
use mathlib.Core.Bool.{Bool, ◌&&◌}
use mathlib.Core.List.Memᴰ
use mathlib.Core.List.{List, Memᴰ}
use Prim.Native.Nat.{ℕ, ◌<◌}
use native.Mathlib.Omega.{arith}
use native.Mathlib.Decide.{dec_lt}
use borrow.Author.Tests.{ltb-true, lt-ltb}
use lib.Dec.{ltb}
use Rattle.order.specs.Lists.{keep, up_from}
use Rattle.order.specs.Pairs.{Distinct}
use Rattle.order.proofs.Bools.{and_parts, and_both}
use Rattle.order.proofs.Keep.{keep-mem, mem-keep, keep-pairs}
use Rattle.order.proofs.Gather.{gather-mem, mem-gather, gather_pairs}
use Rattle.order.proofs.Numbers.{mem_up, up_strict}
use Rattle.order.proofs.Pairs.{pairs-imp, pairs-mem, pairs-map}
use Rattle.graph.specs.Path.{Edge}
use Rattle.graph.specs.Labelling.{Among}
use Rattle.grid.specs.Cells.{Grid, Whole, size, walkable}
use Rattle.grid.specs.Directions.{ClosedUnderReversal}
use Rattle.grid.specs.Steps.{neighbour, has_step, StepBy, Step, step_of, steps_from, steps}
use Rattle.grid.proofs.Index.{walkable-on}
use Rattle.grid.proofs.Steps.{has-step, step-has, neighbour-one, step_back, step-apart}

module _ (dirs : List ℕ) (g : Grid) where
  -- the directions of the steps from a cell to later ones
  abbrev later : ℕ → ℕ → Bool
  later i d = has_step g i d && ltb i (neighbour g i d)

  abbrev edge_by : ℕ → ℕ → Edge
  edge_by i d = step_of i (neighbour g i d)

  later-means : (i : ℕ) {d : ℕ} → Memᴰ d (keep (later i) dirs) → Memᴰ d dirs × StepBy g d i (neighbour g i d) × (i < neighbour g i d)
  later-means i {d} m =
      let k = keep-mem (later i) dirs m in
      let p = and_parts (has_step g i d) (ltb i (neighbour g i d)) k.1 in (k.0, has-step g i d p.0, ltb-true _ _ p.1)

  from-mem : (i : ℕ) {e : Edge} → Memᴰ e (steps_from dirs g i) → (d : ℕ) × Memᴰ d (keep (later i) dirs) × (edge_by i d ≡ e)
  unfolding steps_from
  from-mem i m = Memᴰ.of_map (edge_by i) (keep (later i) dirs) m

  -- the members are the steps, the earlier cell first
  pub steps-iff : (i j : ℕ) → Memᴰ (step_of i j) (steps dirs g) ↔ (Step dirs g i j × (i < j))
  unfolding steps
  steps-iff i j = (to, from)
    where
      to : Memᴰ (step_of i j) (steps dirs g) → Step dirs g i j × (i < j)
      to m =
          let u = gather-mem (steps_from dirs g) (up_from 0 (size g)) m in
          let v = from-mem u.0 u.2 in
          let w = later-means u.0 v.1 in
          subst (λ (e : Edge). Step dirs g e.left e.right × (e.left < e.right)) v.2 (record { by = v.0; among = w.0; taken = w.1 }, w.2)

      from : Step dirs g i j × (i < j) → Memᴰ (step_of i j) (steps dirs g)
      from (s, l) = mem-gather (steps_from dirs g) (mem_up 0 (size g) i (omega arith) (omega (arith, walkable-on g i s.taken.from))) (here s l)
        where
          here : (s : Step dirs g i j) → i < j → Memᴰ (step_of i j) (steps_from dirs g i)
          here s l =
              let n = neighbour g i s.by in
              let k : i < n = rw s.taken.there l in
              Memᴰ.cast (ap (step_of i) (sym s.taken.there))
              (Memᴰ.map (edge_by i) (mem-keep (later i) s.among (and_both (step-has g i s.by s.taken) (lt-ltb i n k))))

  -- both ends are walkable, and on the map
  pub steps-among : Among (walkable g) (steps dirs g)
  steps-among e m = let s = ((steps-iff e.left e.right).0 m).0 in (s.taken.from, s.taken.to)

  pub steps_on : (e : Edge) → Memᴰ e (steps dirs g) → (e.left < size g) × (e.right < size g)
  steps_on e m = let p = steps-among e m in (walkable-on g e.left p.0, walkable-on g e.right p.1)

  from-distinct : Distinct dirs → (i : ℕ) → Distinct (steps_from dirs g i)
  unfolding steps_from
  from-distinct once i = pairs-map (edge_by i) apart (pairs-mem (keep-pairs (later i) once))
    where
      apart : (d k : ℕ) → (d ≡ k → ⊥) × Memᴰ d (keep (later i) dirs) × Memᴰ k (keep (later i) dirs) → edge_by i d ≡ edge_by i k → ⊥
      apart d k (h, m, n) e = h (neighbour-one g i d k (later-means i m).1.leads (later-means i n).1.leads (ap (λ (x : Edge). x.right) e))

  -- each is listed once
  pub steps-distinct : Distinct dirs → Distinct (steps dirs g)
  unfolding steps
  steps-distinct once = gather_pairs (steps_from dirs g) (from-distinct once) (pairs-imp across (up_strict 0 (size g)))
    where
      across : (i k : ℕ) → i < k → (b c : Edge) → Memᴰ b (steps_from dirs g i) → Memᴰ c (steps_from dirs g k) → b ≡ c → ⊥
      across i k l b c m n e = omega
          (arith, ap (λ (x : Edge). x.left) (from-mem i m).2, ap (λ (x : Edge). x.left) (from-mem k n).2, ap (λ (x : Edge). x.left) e)

  -- a step is listed from its earlier cell, whichever it is
  pub step-listed : ClosedUnderReversal dirs → Whole g → (i j : ℕ) → Step dirs g i j → Memᴰ (step_of i j) (steps dirs g)
      ⊎ Memᴰ (step_of j i) (steps dirs g)
  step-listed closed whole i j s =
      by_cases (dec_lt i j) (λ l. inl ((steps-iff i j).1 (s, l)))
      (λ l. by_cases (dec_lt j i) (λ k. inr ((steps-iff j i).1 (step_back closed whole s, k))) (λ k. absurd (step-apart closed whole s (omega arith))))
