-- The anchors are those of the bases, and a region is anchored exactly if the cell of one has its label.
use mathlib.Core.Path.{◌≡◌, refl, sym, ap}
use mathlib.Core.Logic.{◌↔◌, ⊎_elim}
use mathlib.Core.Bool.{true}
use mathlib.Core.List.Memᴰ
use mathlib.Core.List.{List, [], ◌∷◌, Memᴰ}
use mathlib.Core.Option.{Option, none, some}
use Prim.Native.Nat.{ℕ}
use borrow.Author.Tests.{eqb-true, eq-eqb}
use lib.Dec.{eqb}
use Rattle.order.proofs.Bools.{clash, or_cases, or_right}
use Rattle.order.proofs.Gather.{gather-mem, mem-gather}
use Rattle.position.specs.declared.WalkPosition.{WalkPosition}
use Rattle.format.specs.Values.{Base}
use Rattle.grid.specs.Cells.{Grid, index_of}
use Rattle.areas.specs.Areas.{label_at}
use Rattle.context.specs.Anchors.{optional, anchors_of, is_anchored}

listed-some : (o : Option WalkPosition) {p : WalkPosition} → Memᴰ p (optional o) → o ≡ some p
listed-some none m = absurd (Memᴰ.not-nil m)
listed-some (some q) (Memᴰ.head e) = ap some (sym e)
listed-some (some q) (Memᴰ.tail m) = absurd (Memᴰ.not-nil m)

pub anchors-iff : (bs : List Base) (p : WalkPosition) → Memᴰ p (anchors_of bs) ↔ ((b : Base) × Memᴰ b bs × (b.anchor ≡ some p))
unfolding anchors_of
anchors-iff bs p = (
  λ m. let w = gather-mem (λ (b : Base). optional b.anchor) bs m in (w.0, w.1, listed-some w.0.anchor w.2),
  λ w. mem-gather (λ (b : Base). optional b.anchor) w.1 (let h : Memᴰ p (optional w.0.anchor) = rw w.2 (Memᴰ.head refl) in h),
)

module _ (g : Grid) (ls : List ℕ) where
  abbrev anchor_label : WalkPosition → ℕ
  anchor_label p = label_at ls (index_of g p.x p.y)

  some-anchor : (ps : List WalkPosition) (r : ℕ) → is_anchored g ls ps r ≡ true → (p : WalkPosition) × Memᴰ p ps × (anchor_label p ≡ r)
  unfolding is_anchored
  some-anchor [] r h = clash h refl
  some-anchor (p ∷ ps) r h =
      ⊎_elim (λ (e : eqb r (anchor_label p) ≡ true). (p, Memᴰ.head refl, sym (eqb-true r (anchor_label p) e)))
      (λ (e : is_anchored g ls ps r ≡ true). let w = some-anchor ps r e in (w.0, Memᴰ.tail w.1, w.2))
      (or_cases (eqb r (anchor_label p)) (is_anchored g ls ps r) h)

  anchor-some : {p : WalkPosition} {ps : List WalkPosition} (r : ℕ) → Memᴰ p ps → anchor_label p ≡ r → is_anchored g ls ps r ≡ true
  unfolding is_anchored
  anchor-some r (Memᴰ.head {x = q} e) h = let k : eqb r (anchor_label q) ≡ true = eq-eqb r (anchor_label q) (rw (← e) (sym h)) in rw k
  anchor-some r (Memᴰ.tail {x = q} m) h = or_right (eqb r (anchor_label q)) (anchor-some r m h)

  pub anchored-iff : (ps : List WalkPosition) (r : ℕ)
      → (is_anchored g ls ps r ≡ true) ↔ ((p : WalkPosition) × Memᴰ p ps × (label_at ls (index_of g p.x p.y) ≡ r))
  anchored-iff ps r = (some-anchor ps r, λ w. anchor-some r w.1 w.2)
