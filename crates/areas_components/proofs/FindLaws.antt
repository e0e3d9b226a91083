-- The way from a vertex to the first of its component_of.
use mathlib.Core.Path.{◌≡◌, refl, sym, ◌∙◌, ap, subst}
use mathlib.Core.List.{List}
use Prim.Native.Nat.{ℕ, ◌+◌, ◌*◌, ◌≤◌, ◌<◌}
use native.Mathlib.Omega.{arith}
use lib.ListN.{length}
use Rattle.areas.specs.Words.{word}
use Rattle.wire.specs.Bytes.{splice, u32_bytes}
use Rattle.graph.specs.Path.{Edge}
use Rattle.graph.specs.Parts.{component_of}
use Rattle.areas_components.specs.Forests.{Usable, Forest, Kept, Found}
use Rattle.areas_components.proofs.WordLaws.{Upd, put-upd, put-kept, put-usable, kept-none, kept_trans}
use Rattle.areas_components.proofs.ForestLaws.{forest-halved}

-- at stands in the component_of of i and has the parent p
pub record Finding (i at p : ℕ) (s w : List ℕ) : Type 0 where
  pub below : at ≤ i
  pub parent : p ≡ word w at
  pub usable : (m : ℕ) → Usable m s → Usable m w
  pub kept : (n : ℕ) → i < n → Kept n s w
  pub forest : (n : ℕ) (es : List Edge) → i < n → Forest es n (word s) → Forest es n (word w)
  pub same : (n : ℕ) (es : List Edge) → i < n → Forest es n (word s) → component_of es at ≡ component_of es i

pub finding-start : (i p : ℕ) (s : List ℕ) → p ≡ word s i → Finding i i p s s
finding-start i p s e = record {
  below = omega arith;
  parent = e;
  usable = λ m u. u;
  kept = λ n l. kept-none n s;
  forest = λ n es l f. f;
  same = λ n es l f. refl;
}

module _ {i at p : ℕ} {s w : List ℕ} (u : Usable i s) (f : Finding i at p s w) where
  -- the parent is no later
  pub finding-falls : p ≤ at
  finding-falls = omega (arith, f.parent, (f.usable i u).falls at f.below)

  pub finding-room : (k : ℕ) → k ≤ i → 4 * k + 4 ≤ length w
  finding-room k l = omega (arith, (f.usable i u).room)

  module _ (q : ℕ) (eq : q ≡ word w p) (small : q < 4294967296) where
    pub finding-second : q ≤ p
    finding-second = omega (arith, eq, f.below, finding-falls, (f.usable i u).falls p (omega (arith, f.below, finding-falls)))

    -- the parent is its own
    pub finding-root : q ≡ p → Found i p s w
    finding-root e = record {
      below = omega (arith, f.below, finding-falls);
      usable = f.usable;
      kept = f.kept;
      forest = f.forest;
      first = λ n es l k.
          let inside : at < n = omega (arith, f.below) in
          let top = (f.forest n es l k).top p (omega (arith, finding-falls)) (sym eq ∙ e) in
          sym top ∙ (ap (component_of es) f.parent ∙ ((f.forest n es l k).along at inside ∙ f.same n es l k));
    }

    pub finding-next : (v : List ℕ) → v ≡ splice w (4 * at) (u32_bytes q) → (r : ℕ) → r ≡ word v q → Finding i q r s v
    finding-next v ev r er = subst (λ (x : List ℕ). r ≡ word x q → Finding i q r s x) (sym ev) (λ h. record {
      below = omega (arith, f.below, finding-falls, finding-second);
      parent = h;
      usable = λ m k. put-usable w at q room small (omega (arith, finding-falls, finding-second)) m (f.usable m k);
      kept = λ n l. kept_trans n (f.kept n l) (put-kept w at q room n (omega (arith, f.below)));
      forest = λ n es l k. forest-halved at (omega (arith, f.below)) (f.forest n es l k) halved;
      same = λ n es l k.
          ap (component_of es) eq ∙ ((f.forest n es l k).along p (omega (arith, f.below, finding-falls))
          ∙ (ap (component_of es) f.parent ∙ ((f.forest n es l k).along at (omega (arith, f.below)) ∙ f.same n es l k)));
    }) er
      where
        room : 4 * at + 4 ≤ length w
        room = finding-room at f.below

        halved : Upd (word w) (word (splice w (4 * at) (u32_bytes q))) at (word w (word w at))
        halved = subst (λ (x : ℕ). Upd (word w) (word (splice w (4 * at) (u32_bytes q))) at x) (eq ∙ ap (word w) f.parent) (put-upd w at q room small)

  pub finding-end : (p < at → ⊥) → Found i at s w
  finding-end h = record {
    below = f.below;
    usable = f.usable;
    kept = f.kept;
    forest = f.forest;
    first = λ n es l k. sym ((f.forest n es l k).top at (omega (arith, f.below)) (let z : word w at ≡ at = own in z)) ∙ f.same n es l k;
  }
    where
      own : word w at ≡ at
      own = let z : p ≡ at = omega (arith, finding-falls) in sym f.parent ∙ z
