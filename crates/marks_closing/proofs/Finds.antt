-- The way up to a root.
use mathlib.Core.Path.{◌≡◌, refl, sym, ◌∙◌, ap}
use mathlib.Core.List.{List, [], ◌∷◌}
use Prim.Native.Nat.{ℕ, zero, suc, ◌-◌, ◌≤◌, ◌<◌}
use native.Mathlib.Omega.{arith}
use lib.ListN.{length}
use Rattle.lists.specs.Rows.{at, sum}
use Rattle.graph.specs.Path.{Edge}
use Rattle.graph.specs.Parts.{component_of}
use Rattle.marks_closing.specs.Forest.{HeightTrees, Along, RootedForest, Root}

at_sum : (l : List ℕ) (i : ℕ) → at l i ≤ sum l
unfolding sum
at_sum [] i = omega arith
at_sum (x ∷ xs) zero = omega arith
at_sum (x ∷ xs) (suc i) = omega (arith, at_sum xs i)

-- `here` is on the way up from x, and has the parent `up`
pub record Finding (parents : List ℕ) (x here up : ℕ) : Type 0 where
  pub inside : here < length parents
  pub parent : up ≡ at parents here
  pub same : (es : List Edge) → Along es parents → component_of es here ≡ component_of es x

pub finding-start : {parents : List ℕ} {x up : ℕ} → x < length parents → up ≡ at parents x → Finding parents x x up
finding-start l e = record { inside = l; parent = e; same = λ es a. refl }

module _ {parents heights : List ℕ} {x here up : ℕ} (t : HeightTrees parents heights) (f : Finding parents x here up) where
  pub finding-inside : up < length parents
  finding-inside = omega (arith, f.parent, t.inside here f.inside)

  -- a parent is higher, and no height is over the sum of all
  pub finding-less : (up ≡ here → ⊥) → sum heights - at heights up < sum heights - at heights here
  finding-less d =
      let rise = t.rising here f.inside (λ e. d (f.parent ∙ e)) in
      omega (arith, rise, ap (at heights) f.parent, at_sum heights up)

  pub finding-next : {next : ℕ} → next ≡ at parents up → Finding parents x up next
  finding-next e = record {
    inside = finding-inside;
    parent = e;
    same = λ es a. ap (component_of es) f.parent ∙ (a here f.inside ∙ f.same es a);
  }

  pub finding-end : up ≡ here → Root parents x here
  finding-end e = record { inside = f.inside; own = sym f.parent ∙ e; same = f.same }

-- two vertices are in one part exactly if they have one root
module _ {es : List Edge} {parents : List ℕ} (f : RootedForest es parents) {x y a b : ℕ} (ra : Root parents x a) (rb : Root parents y b) where
  pub root-same : a ≡ b → component_of es x ≡ component_of es y
  root-same e = sym (ra.same es f.along) ∙ (ap (component_of es) e ∙ rb.same es f.along)

  pub same-root : component_of es x ≡ component_of es y → a ≡ b
  same-root e = f.one a b ra.inside rb.inside ra.own rb.own (ra.same es f.along ∙ (e ∙ sym (rb.same es f.along)))
