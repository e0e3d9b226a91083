-- The list of the computed labels: a labelling, and dependent on the set of edges alone.
use mathlib.Core.Path.{◌≡◌, sym, ◌∙◌, ap, fun_ext}
use mathlib.Core.Logic.{◌↔◌}
use mathlib.Core.Bool.{Bool, cond, ◌&&◌}
use mathlib.Core.List.{List, map}
use Prim.Native.Nat.{ℕ, suc, ◌+◌, ◌<◌}
use native.Mathlib.Omega.{arith}
use lib.Dec.{eqb}
use lib.ListN.{length, get_or, length-map}
use Rattle.order.specs.Lists.{up_from}
use Rattle.order.specs.Pairs.{SameMembers}
use Rattle.order.proofs.Numbers.{up-length, map-up-at}
use Rattle.graph.specs.Path.{Edge, Path}
use Rattle.graph.specs.Labelling.{Among, Labelling}
use Rattle.graph.specs.Labels.{count, begins, label, labels, label_count}
use Rattle.graph.proofs.Paths.{path-same}
use Rattle.graph.proofs.Parts.{part_ext}
use Rattle.graph.proofs.Labels.{label-labelling}

module _ (n : ℕ) (on : ℕ → Bool) where
  pub labels_length : (es : List Edge) → length (labels n on es) ≡ n
  unfolding labels
  labels_length es = length-map (up_from 0 n) (label on es) ∙ up-length 0 n

  pub labels_at : (es : List Edge) (i : ℕ) → i < n → get_or (labels n on es) i 0 ≡ label on es i
  unfolding labels
  labels_at es i l = map-up-at (label on es) 0 n i 0 l ∙ ap (label on es) (let e : 0 + i ≡ i = omega arith in e)

  -- labels that agree with a labelling are one
  pub labelling-ext : (es : List Edge) (f g : ℕ → ℕ) → ((i : ℕ) → i < n → g i ≡ f i) → Labelling n on es f → Labelling n on es g
  labelling-ext es f g h F = record {
    out = λ i l e. h i l ∙ F.out i l e;
    some = λ i l e. omega (arith, h i l, F.some i l e);
    same = λ i j a b s t. (λ e. (F.same i j a b s t).0 (sym (h i a) ∙ (e ∙ h j b)), λ p. h i a ∙ ((F.same i j a b s t).1 p ∙ sym (h j b)));
    order = λ i l v p q. let w = F.order i l v p (omega (arith, h i l)) in (w.0, w.1, h w.0 (omega arith) ∙ w.2);
  }

  -- the computed list is a labelling
  pub labels-labelling : (es : List Edge) → Among on es → Labelling n on es (λ i. get_or (labels n on es) i 0)
  labels-labelling es among = labelling-ext es (label on es) (λ i. get_or (labels n on es) i 0) (labels_at es) (label-labelling on es among n)

  -- the same paths, the same labels
  pub labels-ext : (es fs : List Edge) → ((a b : ℕ) → Path es a b ↔ Path fs a b) → labels n on es ≡ labels n on fs
  unfolding labels label begins
  labels-ext es fs s =
      ap (λ (p : ℕ → ℕ). map (λ i. cond (on i) (count (λ j. on j && eqb (p j) j) (suc (p i))) 0) (up_from 0 n)) (fun_ext (part_ext es fs s))

  -- the labels depend on the set of edges alone
  pub labels-edges : (es fs : List Edge) → SameMembers es fs → labels n on es ≡ labels n on fs
  labels-edges es fs s = labels-ext es fs (path-same s)

  pub label_count-ext : (es fs : List Edge) → ((a b : ℕ) → Path es a b ↔ Path fs a b) → label_count n on es ≡ label_count n on fs
  unfolding label_count begins
  label_count-ext es fs s = ap (λ (p : ℕ → ℕ). count (λ j. on j && eqb (p j) j) n) (fun_ext (part_ext es fs s))
