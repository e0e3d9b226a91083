-- There is one labelling, and it is the computed one.
use mathlib.Core.Path.{◌≡◌, sym, ◌∙◌, subst}
use mathlib.Core.Logic.{by_cases}
use mathlib.Core.Bool.{Bool, true}
use mathlib.Core.List.{List}
use Prim.Native.Nat.{ℕ, zero, suc, ◌≤◌, ◌<◌}
use native.Mathlib.Omega.{arith}
use native.Mathlib.Decide.{dec_lt}
use lib.ListN.{length, get_or}
use lib.Seq.{ext_get_or}
use Rattle.order.proofs.Bools.{by-test}
use Rattle.graph.specs.Path.{Edge, Path}
use Rattle.graph.specs.Labelling.{Among, Labelling}
use Rattle.graph.specs.Labels.{label, labels}
use Rattle.graph.proofs.Labels.{label-labelling}
use Rattle.graph.proofs.LabelList.{labels_length, labels_at}

module _ {n : ℕ} {on : ℕ → Bool} {es : List Edge} where
  is-in : {f : ℕ → ℕ} → Labelling n on es f → (i : ℕ) → i < n → 0 < f i → on i ≡ true
  is-in F i l p = by-test (on i) (λ e. e) (λ e. absurd (omega (arith, F.out i l e)))

  -- where two labellings agree before i, neither is below the other at i
  not-below : (f g : ℕ → ℕ) → Labelling n on es f → Labelling n on es g → (i : ℕ) → i < n → ((j : ℕ) → j < i → f j ≡ g j) → f i < g i → ⊥
  not-below f g F G i l agree lt =
      let oi : on i ≡ true = is-in G i l (omega arith) in
      let p : 0 < f i = F.some i l oi in
      let w : (j : ℕ) × (j < i) × (g j ≡ f i) = G.order i l (f i) p lt in
      let lj : w.0 < n = omega arith in
      let oj : on w.0 ≡ true = is-in G w.0 lj (omega arith) in
      let c : Path es w.0 i = (F.same w.0 i lj l oj oi).0 (agree w.0 w.1 ∙ w.2) in
      omega (arith, (G.same w.0 i lj l oj oi).1 c)

  agree-below : (f g : ℕ → ℕ) → Labelling n on es f → Labelling n on es g → (m : ℕ) → m ≤ n → (j : ℕ) → j < m → f j ≡ g j
  agree-below f g F G zero h j l = absurd (omega arith)
  agree-below f g F G (suc m) h j l =
      by_cases (dec_lt j m) (λ s. agree-below f g F G m (omega arith) j s) (λ s. last (λ k q. agree-below f g F G m (omega arith) k q) (omega arith))
    where
      last : ((k : ℕ) → k < m → f k ≡ g k) → j ≡ m → f j ≡ g j
      last before e =
          by_cases (dec_lt (f m) (g m)) (λ s. absurd (not-below f g F G m (omega arith) before s)) λ s.
          by_cases (dec_lt (g m) (f m)) (λ t. absurd (not-below g f G F m (omega arith) (λ k q. sym (before k q)) t)) λ t.
          subst (λ (x : ℕ). f x ≡ g x) (sym e) (omega arith)

  pub labelling-unique : (f g : ℕ → ℕ) → Labelling n on es f → Labelling n on es g → (i : ℕ) → i < n → f i ≡ g i
  labelling-unique f g F G i l = agree-below f g F G n (omega arith) i l

module _ {n : ℕ} {on : ℕ → Bool} {es : List Edge} (among : Among on es) where
  -- a list of labels is the computed one
  pub labels-unique : (xs : List ℕ) → length xs ≡ n → Labelling n on es (λ i. get_or xs i 0) → xs ≡ labels n on es
  labels-unique xs e X =
      ext_get_or 0 xs (labels n on es) (e ∙ sym (labels_length n on es))
      (λ i l. labelling-unique (λ k. get_or xs k 0) (label on es) X (label-labelling on es among n) i (omega arith) ∙ sym (labels_at n on es i (omega arith)))
