-- The edges joined cell by cell are those that the bytes name.
use mathlib.Core.Path.{◌≡◌, refl, sym, ◌∙◌, ap, subst}
use mathlib.Core.Logic.{◌⊎◌, inl, inr, ⊎_elim, by_cases}
use mathlib.Core.Bool.{Bool, true, false}
use mathlib.Core.List.Memᴰ
use mathlib.Core.List.{List, ◌++◌, Memᴰ}
use Prim.Native.Nat.{ℕ, zero, suc, ◌<◌}
use native.Mathlib.Omega.{arith}
use native.Mathlib.Decide.{ℕ_discrete}
use lib.ListN.{length, get_or}
use Rattle.order.specs.Pairs.{SameMembers}
use Rattle.graph.specs.Path.{Edge}
use Rattle.areas.specs.Open.{bit_at, named}
use Rattle.areas.proofs.Named.{Names, named-names, names-named}
use Rattle.areas_components.specs.Joining.{added, edge_at, added_from, joined_to}

added-cases : (b : Bool) (x : Edge) {e : Edge} {es : List Edge} → Memᴰ e (added b x es) → ((b ≡ true) × (x ≡ e)) ⊎ Memᴰ e es
added-cases true x (Memᴰ.head k) = inl (refl, sym k)
added-cases true x (Memᴰ.tail m) = inr m
added-cases false x m = inr m

added-old : (b : Bool) (x : Edge) {e : Edge} {es : List Edge} → Memᴰ e es → Memᴰ e (added b x es)
added-old true x m = Memᴰ.tail m
added-old false x m = m

added_new : (b : Bool) (x : Edge) (es : List Edge) → b ≡ true → Memᴰ x (added b x es)
added_new b x es h = rw h (Memᴰ.head refl)

module _ (width b i : ℕ) where
  -- the edge is the one of some bit that is set
  record Bit (e : Edge) : Type 0 where
    pub place : ℕ
    pub small : place < 4
    pub is_set : bit_at b place ≡ true
    pub edge : edge_at width i place ≡ e

  from-cases : {e : Edge} {es : List Edge} → Memᴰ e (added_from width b i es) → Bit e ⊎ Memᴰ e es
  unfolding added_from
  from-cases {e} {es} m =
      ⊎_elim (λ h. inl (bit 3 (omega arith) h)) (λ m3.
      ⊎_elim (λ h. inl (bit 2 (omega arith) h)) (λ m2.
      ⊎_elim (λ h. inl (bit 1 (omega arith) h)) (λ m1.
      ⊎_elim (λ h. inl (bit 0 (omega arith) h)) (λ m0. inr m0)
      (added-cases (bit_at b 0) (edge_at width i 0) m1))
      (added-cases (bit_at b 1) (edge_at width i 1) m2))
      (added-cases (bit_at b 2) (edge_at width i 2) m3))
      (added-cases (bit_at b 3) (edge_at width i 3) m)
    where
      bit : (k : ℕ) → k < 4 → (bit_at b k ≡ true) × (edge_at width i k ≡ e) → Bit e
      bit k l h = record { place = k; small = l; is_set = h.0; edge = h.1 }

  from_old : {e : Edge} {es : List Edge} → Memᴰ e es → Memᴰ e (added_from width b i es)
  unfolding added_from
  from_old m =
      added-old (bit_at b 3) (edge_at width i 3)
      (added-old (bit_at b 2) (edge_at width i 2) (added-old (bit_at b 1) (edge_at width i 1) (added-old (bit_at b 0) (edge_at width i 0) m)))

  from-new : (es : List Edge) (k : ℕ) → k < 4 → bit_at b k ≡ true → Memᴰ (edge_at width i k) (added_from width b i es)
  unfolding added_from
  from-new es zero l h = added-old (bit_at b 3) (edge_at width i 3)
      (added-old (bit_at b 2) (edge_at width i 2) (added-old (bit_at b 1) (edge_at width i 1) (added_new (bit_at b 0) (edge_at width i 0) es h)))
  from-new es (suc zero) l h = added-old (bit_at b 3) (edge_at width i 3)
      (added-old (bit_at b 2) (edge_at width i 2) (added_new (bit_at b 1) (edge_at width i 1) _ h))
  from-new es (suc (suc zero)) l h = added-old (bit_at b 3) (edge_at width i 3) (added_new (bit_at b 2) (edge_at width i 2) _ h)
  from-new es (suc (suc (suc zero))) l h = added_new (bit_at b 3) (edge_at width i 3) _ h
  from-new es (suc (suc (suc (suc k)))) l h = absurd (omega arith)

module _ (width : ℕ) (bytes : List ℕ) (es : List Edge) where
  one_more : {m : ℕ} {e : Edge} → Names width bytes m e → Names width bytes (suc m) e
  one_more w = record { cell = w.cell; bit = w.bit; below = omega (arith, w.below); small = w.small; is_set = w.is_set; edge = w.edge }

  joined-cases : (m : ℕ) {e : Edge} → Memᴰ e (joined_to width bytes es m) → Names width bytes m e ⊎ Memᴰ e es
  unfolding joined_to
  joined-cases zero h = inr h
  joined-cases (suc m) {e} h =
      ⊎_elim (λ (t : Bit width (get_or bytes m 0) m e).
      inl (record { cell = m; bit = t.place; below = omega arith; small = t.small; is_set = t.is_set; edge = t.edge }))
      (λ t. ⊎_elim (λ n. inl (one_more n)) (λ o. inr o) (joined-cases m t)) (from-cases width (get_or bytes m 0) m h)

  joined-old : (m : ℕ) {e : Edge} → Memᴰ e es → Memᴰ e (joined_to width bytes es m)
  unfolding joined_to
  joined-old zero h = h
  joined-old (suc m) h = from_old width (get_or bytes m 0) m (joined-old m h)

  names-joined : (m : ℕ) {e : Edge} → Names width bytes m e → Memᴰ e (joined_to width bytes es m)
  unfolding joined_to
  names-joined zero w = absurd (omega (arith, w.below))
  names-joined (suc m) {e} w =
      by_cases (ℕ_discrete w.cell m)
      (λ q. Memᴰ.cast (sym w.edge ∙ ap (λ (x : ℕ). edge_at width x w.bit) q)
      (from-new width (get_or bytes m 0) m (joined_to width bytes es m) w.bit w.small (ap (λ (x : ℕ). bit_at (get_or bytes x 0) w.bit) (sym q) ∙ w.is_set)))
      (λ q. from_old width (get_or bytes m 0) m
      (names-joined m (record { cell = w.cell; bit = w.bit; below = below q; small = w.small; is_set = w.is_set; edge = w.edge })))
    where
      below : (w.cell ≡ m → ⊥) → w.cell < m
      below q = omega (arith, w.below)

  pub joined-members : (n : ℕ) → length bytes ≡ n → SameMembers (joined_to width bytes es n) (named width bytes ++ es)
  joined-members n e x = (
    λ h. ⊎_elim (λ w. Memᴰ.append_left es (names-named width bytes x (subst (λ (k : ℕ). Names width bytes k x) (sym e) w)))
        (λ m. Memᴰ.append_right (named width bytes) m) (joined-cases n h),
    λ h. ⊎_elim (λ m. names-joined n (subst (λ (k : ℕ). Names width bytes k x) e (named-names width bytes x m)))
        (λ m. joined-old n m) (Memᴰ.append_cases (named width bytes) h),
  )
