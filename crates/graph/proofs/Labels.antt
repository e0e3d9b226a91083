-- The computed labels are a labelling, by the labels from 1 to their count.
use mathlib.Core.Path.{◌≡◌, sym, ◌∙◌, ap}
use mathlib.Core.Logic.{by_cases}
use mathlib.Core.Bool.{Bool, true, false}
use mathlib.Core.List.{List}
use Prim.Native.Nat.{ℕ, suc, ◌≤◌, ◌<◌}
use native.Mathlib.Omega.{arith}
use native.Mathlib.Decide.{dec_lt}
use borrow.Author.Tests.{eqb-true, eq-eqb}
use lib.Dec.{eqb}
use Rattle.order.proofs.Bools.{by-test, and_parts, and_both}
use Rattle.graph.specs.Path.{Edge}
use Rattle.graph.specs.Parts.{component_of}
use Rattle.graph.specs.Labelling.{Among, Labelling}
use Rattle.graph.specs.Labels.{count, begins, label, label_count}
use Rattle.graph.proofs.Paths.{path-kept}
use Rattle.graph.proofs.Parts.{part-path, part_same, part-iff, part-le, part-idem}
use Rattle.graph.proofs.Count.{count_yes, count-lt, count_at}

module _ (on : ℕ → Bool) (es : List Edge) (among : Among on es) where
  begins-part : (i : ℕ) → on i ≡ true → begins on es (component_of es i) ≡ true
  unfolding begins
  begins-part i h =
      and_both (path-kept (λ x. on x ≡ true) (λ e m. (λ k. (among e m).1, λ k. (among e m).0)) (part-path es i) h)
      (eq-eqb (component_of es (component_of es i)) (component_of es i) (part-idem es i))

  begins-own : (j : ℕ) → begins on es j ≡ true → (on j ≡ true) × (component_of es j ≡ j)
  unfolding begins
  begins-own j h = let p = and_parts (on j) (eqb (component_of es j) j) h in (p.0, eqb-true (component_of es j) j p.1)

  label-out : (i : ℕ) → on i ≡ false → label on es i ≡ 0
  unfolding label
  label-out i e = rw e

  label-in : (i : ℕ) → on i ≡ true → label on es i ≡ suc (count (begins on es) (component_of es i))
  unfolding label
  label-in i e = rw e (count_yes (begins on es) (component_of es i) (begins-part i e))

  label-begin : (j : ℕ) → begins on es j ≡ true → label on es j ≡ count (begins on es) (suc j)
  label-begin j h = let p = begins-own j h in label-in j p.0 ∙ (ap (λ (k : ℕ). suc (count (begins on es) k)) p.1 ∙ sym (count_yes (begins on es) j h))

  -- a vertex with a label is in
  label-some : (i : ℕ) → 0 < label on es i → on i ≡ true
  label-some i l = by-test (on i) (λ e. e) (λ e. absurd (omega (arith, label-out i e)))

  one-part : (i j : ℕ) → on i ≡ true → on j ≡ true → label on es i ≡ label on es j → component_of es i ≡ component_of es j
  one-part i j s t e =
      by_cases (dec_lt (component_of es i) (component_of es j))
      (λ l. absurd (omega (arith, count-lt (begins on es) (component_of es i) (component_of es j) l (begins-part i s), label-in i s, label-in j t))) λ l.
      by_cases (dec_lt (component_of es j) (component_of es i))
      (λ k. absurd (omega (arith, count-lt (begins on es) (component_of es j) (component_of es i) k (begins-part j t), label-in i s, label-in j t))) λ k.
      omega arith

  earlier : (i v : ℕ) → 0 < v → v < label on es i → (j : ℕ) × (j < i) × (label on es j ≡ v)
  earlier i v p l =
      let h : on i ≡ true = label-some i (omega arith) in
      let w = count_at (begins on es) (component_of es i) v p (omega (arith, label-in i h)) in
      (w.0, omega (arith, part-le es i), label-begin w.0 w.2 ∙ w.3)

  pub label-labelling : (n : ℕ) → Labelling n on es (label on es)
  label-labelling n = record {
    out = λ i l e. label-out i e;
    some = λ i l e. omega (arith, label-in i e);
    same = λ i j a b s t. (
      λ e. (part-iff es i j).0 (one-part i j s t e),
      λ p. label-in i s ∙ (ap (λ (k : ℕ). suc (count (begins on es) k)) (part_same es p) ∙ sym (label-in j t)),
    );
    order = λ i l v p q. earlier i v p q;
  }

  -- the labels are those from 1 to the count
  pub label-max : (n i : ℕ) → i < n → label on es i ≤ label_count n on es
  unfolding label_count
  label-max n i l =
      by-test (on i) (λ e. omega (arith, label-in i e, count-lt (begins on es) (component_of es i) n (omega (arith, part-le es i)) (begins-part i e)))
      (λ e. omega (arith, label-out i e))

  pub label-occurs : (n v : ℕ) → 0 < v → v ≤ label_count n on es → (i : ℕ) × (i < n) × (label on es i ≡ v)
  unfolding label_count
  label-occurs n v p l = let w = count_at (begins on es) n v p l in (w.0, w.1, label-begin w.0 w.2 ∙ w.3)
