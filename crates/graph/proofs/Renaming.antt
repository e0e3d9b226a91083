-- Regions under other names: bridges and marks are the same.
use mathlib.Core.Path.{◌≡◌, refl, sym, ◌∙◌, ap, subst, subst₂}
use mathlib.Core.Logic.{◌⊎◌, inl, inr}
use mathlib.Core.Bool.{Bool}
use mathlib.Core.List.{List, Memᴰ}
use Prim.Native.Nat.{ℕ, ◌<◌}
use native.Mathlib.Omega.{arith}
use lib.Dec.{eqb}
use lib.ListN.{length}
use Rattle.order.proofs.Bools.{clash, by-test}
use Rattle.graph.specs.Path.{Edge, Joins, forth, back, Path, here, onward}
use Rattle.graph.specs.Records.{Record, record_at, record_edge, edges, without, Remains, only, of_owner}
use Rattle.graph.specs.Bridges.{Bridge, Closed, is_bridge, mark_of}
use Rattle.graph.proofs.Records.{edge-remains, remains-edge}
use Rattle.graph.proofs.Bridges.{bridge-iff, mark-iff}

-- region a is an end of a record
pub record Occurs (rs : List Record) (a : ℕ) : Type 0 where
  pub place : ℕ
  pub inside : place < length rs
  pub end : ((record_at rs place).left ≡ a) ⊎ ((record_at rs place).right ≡ a)

-- ss are the records rs under the names that g gives, and it gives no two regions that occur one name
pub record Renaming (g : ℕ → ℕ) (rs ss : List Record) : Type 0 where
  pub as_many : length ss ≡ length rs
  pub owner : (k : ℕ) → k < length rs → (record_at ss k).owner ≡ (record_at rs k).owner
  pub left : (k : ℕ) → k < length rs → (record_at ss k).left ≡ g (record_at rs k).left
  pub right : (k : ℕ) → k < length rs → (record_at ss k).right ≡ g (record_at rs k).right
  pub apart : (a b : ℕ) → Occurs rs a → Occurs rs b → g a ≡ g b → a ≡ b

module _ {g : ℕ → ℕ} {rs ss : List Record} (N : Renaming g rs ss) where
  -- a path from a under its new name ends record_at a region under its new name
  record Ends (es : List Edge) (a d : ℕ) : Type 0 where
    to : ℕ
    occurs : Occurs rs to
    named : g to ≡ d
    path : Path es a to

  -- where both lists have the same records taken away
  module _ (gone : ℕ → Record → Bool) (agrees : (k : ℕ) → k < length rs → gone k (record_at ss k) ≡ gone k (record_at rs k)) where
    -- a path under the old names is one under the new
    there : {a b : ℕ} → Path (edges (without gone rs)) a b → Path (edges (without gone ss)) (g a) (g b)
    there here = here
    there (onward {a} {b} {c} {e} m j p) = onward member (joins j) (there p)
      where
        w : (r : Record) × Remains gone rs r × (record_edge r ≡ e)
        w = edge-remains gone rs m

        i : ℕ
        i = w.1.place

        same : record_edge (record_at rs i) ≡ e
        same = ap record_edge w.1.stands ∙ w.2

        member : Memᴰ (record_edge (record_at ss i)) (edges (without gone ss))
        member = remains-edge gone ss (record {
          place = i;
          inside = omega (arith, w.1.inside, N.as_many);
          spared = agrees i w.1.inside ∙ w.1.spared;
          stands = refl;
        })

        joins : Joins e a b → Joins (record_edge (record_at ss i)) (g a) (g b)
        joins (forth p q) =
            forth (N.left i w.1.inside ∙ ap g (ap (λ (x : Edge). x.left) same ∙ p))
            (N.right i w.1.inside ∙ ap g (ap (λ (x : Edge). x.right) same ∙ q))
        joins (back p q) =
            back (N.left i w.1.inside ∙ ap g (ap (λ (x : Edge). x.left) same ∙ p))
            (N.right i w.1.inside ∙ ap g (ap (λ (x : Edge). x.right) same ∙ q))

    -- and a path under the new names is one under the old
    back-again : {c d : ℕ} → Path (edges (without gone ss)) c d → (a : ℕ) → Occurs rs a → g a ≡ c → Ends (edges (without gone rs)) a d
    back-again here a o n = record { to = a; occurs = o; named = n; path = here }
    back-again (onward {a = c} {b = b} {c = d} {e = e} m j p) a o n = step j (λ v u z. back-again p v u z)
      where
        w : (r : Record) × Remains gone ss r × (record_edge r ≡ e)
        w = edge-remains gone ss m

        i : ℕ
        i = w.1.place

        l : i < length rs
        l = omega (arith, w.1.inside, N.as_many)

        same : record_edge (record_at ss i) ≡ e
        same = ap record_edge w.1.stands ∙ w.2

        member : Memᴰ (record_edge (record_at rs i)) (edges (without gone rs))
        member = remains-edge gone rs (record { place = i; inside = l; spared = sym (agrees i l) ∙ w.1.spared; stands = refl })

        lefts : Occurs rs (record_at rs i).left
        lefts = record { place = i; inside = l; end = inl refl }

        rights : Occurs rs (record_at rs i).right
        rights = record { place = i; inside = l; end = inr refl }

        go : (v : ℕ) → Joins (record_edge (record_at rs i)) a v → Ends (edges (without gone rs)) v d → Ends (edges (without gone rs)) a d
        go v t f = record { to = f.to; occurs = f.occurs; named = f.named; path = onward member t f.path }

        step : Joins e c b → ((v : ℕ) → Occurs rs v → g v ≡ b → Ends (edges (without gone rs)) v d) → Ends (edges (without gone rs)) a d
        step (forth x y) rest =
            let is : (record_at rs i).left ≡ a = N.apart (record_at rs i).left a lefts o (sym (N.left i l) ∙ ap (λ (z : Edge). z.left) same ∙ x ∙ sym n) in
            go (record_at rs i).right (forth is refl) (rest (record_at rs i).right rights (sym (N.right i l) ∙ ap (λ (z : Edge). z.right) same ∙ y))
        step (back x y) rest =
            let is : (record_at rs i).right ≡ a =
            N.apart (record_at rs i).right a rights o (sym (N.right i l) ∙ ap (λ (z : Edge). z.right) same ∙ y ∙ sym n) in
            go (record_at rs i).left (back refl is) (rest (record_at rs i).left lefts (sym (N.left i l) ∙ ap (λ (z : Edge). z.left) same ∙ x))

    -- the two regions of a record are parted under the new names exactly if they are under the old
    parted-old : (k : ℕ) → k < length rs → (Path (edges (without gone ss)) (record_at ss k).left (record_at ss k).right → ⊥) →
        Path (edges (without gone rs)) (record_at rs k).left (record_at rs k).right → ⊥
    parted-old k l h p = h (subst₂ (Path (edges (without gone ss))) (sym (N.left k l)) (sym (N.right k l)) (there p))

    parted-new : (k : ℕ) → k < length rs → (Path (edges (without gone rs)) (record_at rs k).left (record_at rs k).right → ⊥) →
        Path (edges (without gone ss)) (record_at ss k).left (record_at ss k).right → ⊥
    parted-new k l h p =
        let f = back-again (subst₂ (Path (edges (without gone ss))) (N.left k l) (N.right k l) p) (record_at rs k).left
        (record { place = k; inside = l; end = inl refl }) refl in
        let is : f.to ≡ (record_at rs k).right =
        N.apart f.to (record_at rs k).right f.occurs (record { place = k; inside = l; end = inr refl }) f.named in
        h (subst (Path (edges (without gone rs)) (record_at rs k).left) is f.path)

  inside : {k : ℕ} → k < length ss → k < length rs
  inside l = omega (arith, N.as_many)

  -- a bridge under the new names is one under the old, and the other way
  to-old : {b : ℕ} → Bridge ss b → Bridge rs b
  to-old w = record {
    place = w.place;
    inside = inside w.inside;
    owned = sym (N.owner w.place (inside w.inside)) ∙ w.owned;
    parted = parted-old (only w.place) (λ k l. refl) w.place (inside w.inside) w.parted;
  }

  to-new : {b : ℕ} → Bridge rs b → Bridge ss b
  to-new w = record {
    place = w.place;
    inside = omega (arith, w.inside, N.as_many);
    owned = N.owner w.place w.inside ∙ w.owned;
    parted = parted-new (only w.place) (λ k l. refl) w.place w.inside w.parted;
  }

  -- so is a boundary that is closed
  owned-same : (b k : ℕ) → k < length rs → of_owner b k (record_at ss k) ≡ of_owner b k (record_at rs k)
  owned-same b k l = ap (λ (o : ℕ). eqb o b) (N.owner k l)

  closed-old : {b : ℕ} → Closed ss b → Closed rs b
  closed-old {b} w = record {
    place = w.place;
    inside = inside w.inside;
    owned = sym (N.owner w.place (inside w.inside)) ∙ w.owned;
    parted = parted-old (of_owner b) (owned-same b) w.place (inside w.inside) w.parted;
  }

  closed-new : {b : ℕ} → Closed rs b → Closed ss b
  closed-new {b} w = record {
    place = w.place;
    inside = omega (arith, w.inside, N.as_many);
    owned = N.owner w.place w.inside ∙ w.owned;
    parted = parted-new (of_owner b) (owned-same b) w.place w.inside w.parted;
  }

  -- the bridges are the same
  pub same-bridges : (b : ℕ) → is_bridge ss b ≡ is_bridge rs b
  same-bridges b =
      by-test (is_bridge rs b) (λ e. (bridge-iff ss b).1 (to-new ((bridge-iff rs b).0 e)) ∙ sym e)
      (λ e. by-test (is_bridge ss b) (λ f. clash ((bridge-iff rs b).1 (to-old ((bridge-iff ss b).0 f))) e) (λ f. f ∙ sym e))

  -- and so are the marks
  pub same-marks : (b : ℕ) → mark_of ss b ≡ mark_of rs b
  same-marks b =
      by-test (mark_of rs b) (λ e. (mark-iff ss b).1 (closed-new ((mark-iff rs b).0 e)) ∙ sym e)
      (λ e. by-test (mark_of ss b) (λ f. clash ((mark-iff rs b).1 (closed-old ((mark-iff ss b).0 f))) e) (λ f. f ∙ sym e))
