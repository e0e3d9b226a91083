-- Two finds and a link.
use mathlib.Core.Path.{◌∙◌, ap, ◌≡◌, refl, sym, subst}
use mathlib.Core.Bool.{true, false}
use mathlib.Core.List.{List}
use Prim.Native.Nat.{ℕ, ◌+◌, ◌*◌, ◌≤◌, ◌<◌}
use native.Mathlib.Omega.{arith}
use lib.ListN.{length}
use Rattle.areas.specs.Words.{word}
use Rattle.wire.specs.Bytes.{splice, u32_bytes}
use Rattle.graph.specs.Path.{Edge}
use Rattle.graph.specs.Parts.{component_of}
use Rattle.grid.specs.Steps.{step_of}
use Rattle.areas_components.specs.Forests.{Usable, Forest, Kept, Found}
use Rattle.areas_components.specs.Joining.{Joined}
use Rattle.areas_components.proofs.WordLaws.{put-upd, put-kept, put-usable, kept-none, kept_trans}
use Rattle.areas_components.proofs.ForestLaws.{forest-left-low, forest-right-low, forest-joined}

module _ {i j a b : ℕ} {s t w : List ℕ} (ui : Usable i s) (uj : Usable j s) (fa : Found i a s t) (fb : Found j b t w) where
  usable : (m : ℕ) → Usable m s → Usable m w
  usable m u = fb.usable m (fa.usable m u)

  kept : (n : ℕ) → i < n → j < n → Kept n s w
  kept n l m = kept_trans n (fa.kept n l) (fb.kept n m)

  forest : (n : ℕ) (es : List Edge) → i < n → j < n → Forest es n (word s) → Forest es n (word w)
  forest n es l m f = fb.forest n es m (fa.forest n es l f)

  second : (n : ℕ) (es : List Edge) → i < n → j < n → Forest es n (word s) → b ≡ component_of es j
  second n es l m f = fb.first n es m (fa.forest n es l f)

  pub left-room : 4 * a + 4 ≤ length w
  left-room = omega (arith, fa.below, (usable i ui).room)

  pub right-room : 4 * b + 4 ≤ length w
  right-room = omega (arith, fb.below, (usable j uj).room)

  pub joined-left : a < 4294967296 → a < b → (v : List ℕ) → v ≡ splice w (4 * b) (u32_bytes a) → Joined true i j s v
  joined-left small less v ev = subst (λ (x : List ℕ). Joined true i j s x) (sym ev) (record {
    usable = λ m u. put-usable w b a right-room small (omega arith) m (usable m u);
    kept = λ n l m. kept_trans n (kept n l (m refl)) (put-kept w b a right-room n (omega (arith, fb.below, m refl)));
    forest = λ n es l m f. forest-left-low (step_of i j) (forest n es l (m refl) f) a b (fa.first n es l f) (second n es l (m refl) f) less
        (put-upd w b a right-room small);
  })

  pub joined-right : b < 4294967296 → b < a → (v : List ℕ) → v ≡ splice w (4 * a) (u32_bytes b) → Joined true i j s v
  joined-right small less v ev = subst (λ (x : List ℕ). Joined true i j s x) (sym ev) (record {
    usable = λ m u. put-usable w a b left-room small (omega arith) m (usable m u);
    kept = λ n l m. kept_trans n (kept n l (m refl)) (put-kept w a b left-room n (omega (arith, fa.below)));
    forest = λ n es l m f. forest-right-low (step_of i j) (forest n es l (m refl) f) a b (fa.first n es l f) (second n es l (m refl) f) less
        (put-upd w a b left-room small);
  })

  pub joined_same : (a < b → ⊥) → (b < a → ⊥) → Joined true i j s w
  joined_same p q = record {
    usable = usable;
    kept = λ n l m. kept n l (m refl);
    forest = λ n es l m f. forest-joined (step_of i j) (forest n es l (m refl) f) a b (fa.first n es l f) (second n es l (m refl) f) (omega arith);
  }

-- nothing is joined
pub joined-none : (i j : ℕ) (s : List ℕ) → Joined false i j s s
joined-none i j s = record { usable = λ m u. u; kept = λ n l m. kept-none n s; forest = λ n es l m f. f }

-- the two have one parent
pub joined-near : (i j : ℕ) (s : List ℕ) → word s i ≡ word s j → Joined true i j s s
joined-near i j s e = record {
  usable = λ m u. u;
  kept = λ n l m. kept-none n s;
  forest = λ n es l m f.
      forest-joined (step_of i j) f (component_of es i) (component_of es j) refl refl (sym (f.along i l) ∙ (ap (component_of es) e ∙ f.along j (m refl)));
}
