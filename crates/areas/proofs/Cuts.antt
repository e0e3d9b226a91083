-- A cut is what document 01 says, and depends on how neither the step's ends nor the span's are listed.
use mathlib.Core.Path.{◌≡◌, refl, sym, ◌∙◌, ap, ap₂}
use mathlib.Core.Logic.{◌↔◌, ⊎_elim}
use mathlib.Core.Bool.{Bool, true, false, not, xor, ◌&&◌}
use mathlib.Core.List.Memᴰ
use mathlib.Core.List.{List, [], ◌∷◌, map, Memᴰ}
use Prim.Native.Nat.{ℕ}
use borrow.Author.Tests.{not-true}
use Rattle.order.specs.Pairs.{SameMembers}
use Rattle.order.proofs.Bools.{clash, is_false, by-test, and_parts, and_both, or_cases, or_right}
use Rattle.order.proofs.Keep.{keep-mem, mem-keep, keep-ext}
use Rattle.position.specs.Order.{swapped, canonical}
use Rattle.position.proofs.Order.{canonical-swapped}
use Rattle.position.specs.declared.PixelPosition.{PixelPosition}
use Rattle.position.specs.declared.Span.{Span}
use Rattle.graph.specs.Path.{Edge}
use Rattle.graph.specs.Labelling.{Among}
use Rattle.grid.specs.Cells.{Grid, walkable, centre}
use Rattle.grid.specs.Steps.{step_of, steps}
use Rattle.grid.proofs.StepList.{steps-among}
use Rattle.areas.specs.Segments.{side, meets, Meets}
use Rattle.areas.specs.Cuts.{cuts, cut_by, is_cut, cut_steps, uncut_steps}
use Rattle.areas.proofs.Crossing.{weigh, unweigh, flip}
use Rattle.areas.proofs.Meets.{meets-iff}

-- tests that hold together are equal
same_test : (s t : Bool) → (s ≡ true → t ≡ true) → (t ≡ true → s ≡ true) → s ≡ t
same_test s t f g = by-test s (λ e. e ∙ sym (f e)) (λ e. e ∙ sym (is_false t (λ k. clash (g k) e)))

xor_comm : (s t : Bool) → xor s t ≡ xor t s
unfolding xor
xor_comm true true = refl
xor_comm true false = refl
xor_comm false true = refl
xor_comm false false = refl

xor-differs : (s t : Bool) → (xor s t ≡ true) ↔ (s ≡ t → ⊥)
unfolding xor
xor-differs true true = (λ h. clash h refl, λ h. absurd (h refl))
xor-differs true false = (λ h e. clash refl e, λ h. refl)
xor-differs false true = (λ h e. clash e refl, λ h. refl)
xor-differs false false = (λ h. clash h refl, λ h. absurd (h refl))

meets-turned : (a b c d : PixelPosition) → meets a b d c ≡ meets a b c d
meets-turned a b c d = same_test (meets a b d c) (meets a b c d) (λ h. turn ((meets-iff a b d c).0 h)) (λ h. turn ((meets-iff a b c d).0 h))
  where
    turn : {c d : PixelPosition} → Meets a b d c → meets a b c d ≡ true
    turn {c} {d} k = (meets-iff a b c d).1 (unweigh (flip (weigh k)))

cuts-turned : (s : Span) (c d : PixelPosition) → cuts s d c ≡ cuts s c d
unfolding cuts
cuts-turned s c d = ap₂ ◌&&◌ (xor_comm (side s.a s.b d) (side s.a s.b c)) (meets-turned s.a s.b c d)

cuts-iff : (s : Span) (c d : PixelPosition) → (cuts s c d ≡ true) ↔ ((side s.a s.b c ≡ side s.a s.b d → ⊥) × Meets s.a s.b c d)
unfolding cuts
cuts-iff s c d = (
  λ h. let p = and_parts (xor (side s.a s.b c) (side s.a s.b d)) (meets s.a s.b c d) h in
      (differ.0 p.0, (meets-iff s.a s.b c d).0 p.1),
  λ p. and_both (differ.1 p.0) ((meets-iff s.a s.b c d).1 p.1),
)
  where
    differ : (xor (side s.a s.b c) (side s.a s.b d) ≡ true) ↔ (side s.a s.b c ≡ side s.a s.b d → ⊥)
    differ = xor-differs (side s.a s.b c) (side s.a s.b d)

module _ (g : Grid) where
  -- the step's ends lie on different sides of the canonical span, and the closed segments meet
  pub cut-iff : (s : Span) (e : Edge) → let t = canonical s in
      (cut_by g s e ≡ true)
      ↔ ((side t.a t.b (centre g e.left) ≡ side t.a t.b (centre g e.right) → ⊥)
      × Meets t.a t.b (centre g e.left) (centre g e.right))
  unfolding cut_by
  cut-iff s e = cuts-iff (canonical s) (centre g e.left) (centre g e.right)

  -- whichever end of the step is taken first
  pub cut-turned : (s : Span) (i j : ℕ) → cut_by g s (step_of j i) ≡ cut_by g s (step_of i j)
  unfolding cut_by
  cut-turned s i j = cuts-turned (canonical s) (centre g i) (centre g j)

  -- and whichever end of the span
  pub cut-canonical : (s t : Span) → canonical s ≡ canonical t → (e : Edge) → cut_by g s e ≡ cut_by g t e
  unfolding cut_by
  cut-canonical s t h e = ap (λ (u : Span). cuts u (centre g e.left) (centre g e.right)) h

  pub cut-swapped : (s : Span) (e : Edge) → cut_by g (swapped s) e ≡ cut_by g s e
  cut-swapped s e = cut-canonical (swapped s) s (canonical-swapped s) e

  pub is_cut_lem : (ss : List Span) (e : Edge) → is_cut g ss e ≡ true → (s : Span) × Memᴰ s ss × (cut_by g s e ≡ true)
  unfolding is_cut
  is_cut_lem [] e h = clash h refl
  is_cut_lem (s ∷ ss) e h =
      ⊎_elim (λ k. (s, Memᴰ.head refl, k)) (λ k. let r = is_cut_lem ss e k in (r.0, Memᴰ.tail r.1, r.2)) (or_cases (cut_by g s e) (is_cut g ss e) h)

  pub cut-is : (ss : List Span) (e : Edge) {s : Span} → Memᴰ s ss → cut_by g s e ≡ true → is_cut g ss e ≡ true
  unfolding is_cut
  cut-is [] e {s = s} x'' h = elim x'' [ ]
  cut-is (t ∷ ss) e (Memᴰ.head k) h = let p : cut_by g t e ≡ true = rw (← k) h in rw p
  cut-is (t ∷ ss) e (Memᴰ.tail m) h = or_right (cut_by g t e) (cut-is ss e m h)

  -- spans that are the same but for order, repeats and swapped ends cut the same steps
  pub is-cut-same : (ss ts : List Span) → SameMembers (map canonical ss) (map canonical ts) → (e : Edge) → is_cut g ss e ≡ is_cut g ts e
  is-cut-same ss ts same e = same_test (is_cut g ss e) (is_cut g ts e) (over ss ts (λ s. (same s).0)) (over ts ss (λ s. (same s).1))
    where
      over : (ps qs : List Span) → ((s : Span) → Memᴰ s (map canonical ps) → Memᴰ s (map canonical qs)) → is_cut g ps e ≡ true → is_cut g qs e ≡ true
      over ps qs f h =
          let r = is_cut_lem ps e h in
          let w = Memᴰ.of_map canonical qs (f (canonical r.0) (Memᴰ.map canonical r.1)) in
          cut-is qs e w.1 (cut-canonical w.0 r.0 w.2 e ∙ r.2)

module _ (dirs : List ℕ) (g : Grid) where
  -- the uncut steps are the steps that no span cuts
  pub uncut-iff : (ss : List Span) (e : Edge)
      → Memᴰ e (uncut_steps dirs g ss) ↔ (Memᴰ e (steps dirs g) × ((s : Span) → Memᴰ s ss → cut_by g s e ≡ false))
  unfolding uncut_steps
  uncut-iff ss e = (
    λ m. let k = keep-mem (λ x. not (is_cut g ss x)) (steps dirs g) m in
        (k.0, λ s n. is_false (cut_by g s e) (λ h. clash (cut-is g ss e n h) (not-true (is_cut g ss e) k.1))),
    λ p. mem-keep (λ x. not (is_cut g ss x)) p.0 (spared p),
  )
    where
      spared : Memᴰ e (steps dirs g) × ((s : Span) → Memᴰ s ss → cut_by g s e ≡ false) → not (is_cut g ss e) ≡ true
      spared p = rw (is_false (is_cut g ss e) (λ h. let r = is_cut_lem g ss e h in clash r.2 (p.1 r.0 r.1)))

  pub uncut-among : (ss : List Span) → Among (walkable g) (uncut_steps dirs g ss)
  uncut-among ss e m = steps-among dirs g e ((uncut-iff ss e).0 m).0

  pub uncut-same : (ss ts : List Span) → SameMembers (map canonical ss) (map canonical ts) → uncut_steps dirs g ss ≡ uncut_steps dirs g ts
  unfolding uncut_steps
  uncut-same ss ts same = keep-ext (λ e. not (is_cut g ss e)) (λ e. not (is_cut g ts e)) (steps dirs g) (λ e m. ap not (is-cut-same g ss ts same e))

  -- a span that cuts no step leaves the uncut steps as they are
  pub uncut-idle : (s : Span) (ss : List Span) → ((e : Edge) → Memᴰ e (steps dirs g) → cut_by g s e ≡ false)
      → uncut_steps dirs g (s ∷ ss) ≡ uncut_steps dirs g ss
  unfolding uncut_steps
  uncut-idle s ss idle = keep-ext (λ e. not (is_cut g (s ∷ ss) e)) (λ e. not (is_cut g ss e)) (steps dirs g) (λ e m. rw (idle e m))

  pub cut-steps-same : (s t : Span) → canonical s ≡ canonical t → cut_steps dirs g s ≡ cut_steps dirs g t
  unfolding cut_steps
  cut-steps-same s t h = keep-ext (cut_by g s) (cut_by g t) (steps dirs g) (λ e m. cut-canonical g s t h e)

  pub cut-steps-iff : (s : Span) (e : Edge) → Memᴰ e (cut_steps dirs g s) ↔ (Memᴰ e (steps dirs g) × (cut_by g s e ≡ true))
  unfolding cut_steps
  cut-steps-iff s e = (λ m. keep-mem (cut_by g s) (steps dirs g) m, λ p. mem-keep (cut_by g s) p.0 p.1)
