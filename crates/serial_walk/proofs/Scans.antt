-- The last frame of a bridge walk looks at its next record, and the state is kept.
use mathlib.Core.Path.{◌≡◌, refl, sym, ◌∙◌, ap, subst}
use mathlib.Core.Logic.{◌⊎◌, inl, inr, by_cases}
use Prim.Native.Nat.{ℕ, zero, suc, ◌+◌, ◌≤◌, ◌<◌, min}
use native.Mathlib.Omega.{arith}
use native.Mathlib.Decide.{dec_lt, ℕ_discrete}
use Rattle.serial_walk.specs.Walk.{RecordJoins, RecordTouches, First, Parted, Scanned, OnStack, Lowest, Reach, Walk}
use Rattle.serial_walk.proofs.Steps.{one, moved}
use Rattle.serial_walk.proofs.Climb.{joins-sym, touching, other-end, no-bridge, place-le, low-le, fresh, climb}

module _ (K : ℕ) (lf rt : ℕ → ℕ) where
  -- the last frame looks at its next record, and moves to the one after it that touches its region
  module _ {R r : ℕ} {Told : ℕ → Type 0} {disc st pr nx lw : ℕ → ℕ} {n time : ℕ} (W : Walk K lf rt R r Told disc st pr nx lw (n + 1) time)
      (nx' lw' : ℕ → ℕ) (u : First K lf rt (nx n + 1) (st n) (nx' n)) (o : (m : ℕ) → (m ≡ n → ⊥) → nx' m ≡ nx m)
      (v : (m : ℕ) → (m ≡ n → ⊥) → lw' m ≡ lw m) where
    -- what is looked at now was before, or is the record
    unscan : {P : Type 0} (x i w : ℕ) → i < K → RecordJoins lf rt i x w → Scanned K lf rt st nx' (n + 1) x i → (st n ≡ x → i ≡ nx n → P)
        → (Scanned K lf rt st nx (n + 1) x i → P) → P
    unscan x i w b t s f g =
        by_cases (ℕ_discrete i (nx n)) (λ e. by_cases (ℕ_discrete (st n) x) (λ q. f q e) (λ q. g (λ m l z. away q m l z))) (λ e. g (λ m l z. before e m l z))
      where
        away : (st n ≡ x → ⊥) → (m : ℕ) → m < n + 1 → st m ≡ x → i < nx m
        away q m l z = by_cases (ℕ_discrete m n) (λ k. absurd (q (sym (ap st k) ∙ z))) (λ k. omega (arith, s m l z, o m k))

        before : (i ≡ nx n → ⊥) → (m : ℕ) → m < n + 1 → st m ≡ x → i < nx m
        before e m l z = by_cases (ℕ_discrete m n) (λ k. last k (sym (ap st k) ∙ z)) (λ k. omega (arith, s m l z, o m k))
          where
            last : m ≡ n → st n ≡ x → i < nx m
            last k y =
                by_cases (dec_lt i (nx n)) (λ a. omega (arith, ap nx k)) λ a.
                absurd (u.between i (omega arith) (omega (arith, s m l z, ap nx' k)) b (subst (λ (c : ℕ). RecordTouches lf rt i c) (sym y) (touching t)))

    scan : lw' n ≤ lw n → Lowest K lf rt disc st pr lw' n →
        ((w : ℕ) → RecordJoins lf rt (nx n) (st n) w →
        (0 < disc w) × ((m : ℕ) → m < n + 1 → (nx n ≡ pr m → ⊥) → Reach K lf rt disc lw' m (n + 1) w)
        × ((Parted K lf rt (nx n) → Told (nx n)) ⊎ OnStack K lf rt pr (n + 1) (nx n))) →
        Walk K lf rt R r Told disc st pr nx' lw' (n + 1) time
    scan less lowest at = record {
      timed = W.timed;
      found = W.found;
      inside = W.inside;
      rising = W.rising;
      tree = W.tree;
      root = W.root;
      low = λ m l. by_cases (ℕ_discrete m n) (λ e. subst (λ (x : ℕ). Lowest K lf rt disc st pr lw' x) (sym e) lowest) (λ e. stay m l (v m e));
      known = λ x i w p s k t. unscan x i w k t s (λ q e. (at w (here-too x i w q e t)).0) (λ z. W.known x i w p z k t);
      reach = λ m x i w l d s k o t.
          unscan x i w k t s (λ q e. (at w (here-too x i w q e t)).1 m l (λ z. o (e ∙ z))) (λ z. further m w (W.reach m x i w l d z k o t));
      old = W.old;
      settled = λ x i w p s k t. unscan x i w k t s (λ q e. told i e (at w (here-too x i w q e t)).2) (λ z. W.settled x i w p z k t);
      passed = W.passed;
      room = W.room;
      count = W.count;
    }
      where
        here-too : (x i w : ℕ) → st n ≡ x → i ≡ nx n → RecordJoins lf rt i x w → RecordJoins lf rt (nx n) (st n) w
        here-too x i w q e t = subst (λ (y : ℕ). RecordJoins lf rt (nx n) y w) (sym q) (subst (λ (y : ℕ). RecordJoins lf rt y x w) e t)

        stay : (m : ℕ) → m < n + 1 → lw' m ≡ lw m → Lowest K lf rt disc st pr lw' m
        stay m l e = let f = W.low m l in record { to = f.to; upto = f.upto; is = e ∙ f.is; path = f.path }

        further : (m w : ℕ) → Reach K lf rt disc lw m (n + 1) w → Reach K lf rt disc lw' m (n + 1) w
        further m w f = record {
          place = f.place;
          from = f.from;
          below = f.below;
          low =
              by_cases (ℕ_discrete f.place n)
              (λ e. omega (arith, ap lw' e, ap lw e, f.low))
              (λ e. omega (arith, v f.place e, f.low));
        }

        told : (i : ℕ) → i ≡ nx n → (Parted K lf rt (nx n) → Told (nx n)) ⊎ OnStack K lf rt pr (n + 1) (nx n) → (Parted K lf rt i → Told i)
            ⊎ OnStack K lf rt pr (n + 1) i
        told i e z = subst (λ (y : ℕ). (Parted K lf rt y → Told y) ⊎ OnStack K lf rt pr (n + 1) y) (sym e) z

    -- the record is the one by which the frame was entered
    pub scan-parent : lw' n ≡ lw n → nx n < K → nx n ≡ pr n → Walk K lf rt R r Told disc st pr nx' lw' (n + 1) time
    scan-parent e k q =
        scan (omega arith)
        (let f = W.low n (omega arith) in record { to = f.to; upto = f.upto; is = e ∙ f.is; path = f.path })
        (λ w t. parent n refl w t)
      where
        parent : (l : ℕ) → n ≡ l → (w : ℕ) → RecordJoins lf rt (nx n) (st n) w →
            (0 < disc w) × ((m : ℕ) → m < n + 1 → (nx n ≡ pr m → ⊥) → Reach K lf rt disc lw' m (n + 1) w)
            × ((Parted K lf rt (nx n) → Told (nx n)) ⊎ OnStack K lf rt pr (n + 1) (nx n))
        parent zero z w t = absurd (omega (arith, W.root (omega arith), ap pr z))
        parent (suc l) z w t =
            let y : n ≡ l + 1 = omega arith in
            let tr : RecordJoins lf rt (nx n) (st n) (st l) =
            subst (λ (a : ℕ). RecordJoins lf rt (nx n) (st a) (st l)) (sym y)
            (subst (λ (a : ℕ). RecordJoins lf rt a (st (l + 1)) (st l)) (sym (q ∙ ap pr y)) (joins-sym (W.tree l (omega arith)).1)) in
            let is : st l ≡ w = other-end tr t in (
              subst (λ (a : ℕ). 0 < disc a) is (W.found l (omega arith)),
              λ m b o. record {
                place = l;
                from = by_cases (ℕ_discrete m n) (λ c. absurd (o (q ∙ ap pr (sym c)))) (λ c. omega arith);
                below = omega arith;
                low = omega (arith, v l (omega arith), low-le W l (omega arith), ap disc is);
              },
              inr (record { place = n; below = omega arith; is = sym q }),
            )

    -- the record leads to a region that was found
    pub scan-seen : (w : ℕ) → nx n < K → (nx n ≡ pr n → ⊥) → RecordJoins lf rt (nx n) (st n) w → 0 < disc w → lw' n ≡ min (lw n) (disc w) →
        Walk K lf rt R r Told disc st pr nx' lw' (n + 1) time
    scan-seen w k q t p e = scan (omega arith) lowest (λ w₂ t₂. all w₂ (other-end t t₂))
      where
        clear : (i : ℕ) → i ≤ n → nx n ≡ pr i → ⊥
        clear = fresh W n (nx n) w (omega arith) k t q

        first : OnStack K lf rt st (n + 1) w ⊎ ((j y m : ℕ) → j < K → RecordJoins lf rt j w y → m < n + 1 → st m ≡ y → disc y < disc w) → disc w < lw n
            → Lowest K lf rt disc st pr lw' n
        first (inl f) l = record {
          to = f.place;
          upto = omega (arith, f.below);
          is = omega (arith, ap disc f.is);
          path = moved refl (sym f.is) (one (record { by = nx n; below = k; other = clear; joins = t }));
        }
        first (inr g) l = absurd (omega (arith, g (nx n) (st n) n k (joins-sym t) (omega arith) refl, low-le W n (omega arith)))

        lowest : Lowest K lf rt disc st pr lw' n
        lowest =
            by_cases (dec_lt (disc w) (lw n)) (λ l. first (W.old w p) l)
            (λ l. let f = W.low n (omega arith) in record { to = f.to; upto = f.upto; is = omega (arith, f.is); path = f.path })

        says : OnStack K lf rt st (n + 1) w ⊎ ((j y m : ℕ) → j < K → RecordJoins lf rt j w y → m < n + 1 → st m ≡ y → disc y < disc w)
            → (Parted K lf rt (nx n) → Told (nx n)) ⊎ OnStack K lf rt pr (n + 1) (nx n)
        says (inl f) =
            inl (λ b. absurd (no-bridge (joins-sym t)
            (moved f.is refl (climb W (nx n) f.place n (omega (arith, f.below)) (omega arith) (λ i l z. clear i l (sym z)))) b))
        says (inr g) =
            let later : disc (st n) < disc w = g (nx n) (st n) n k (joins-sym t) (omega arith) refl in
            W.settled w (nx n) (st n) p
            (λ m l z. absurd (omega (arith, ap disc z, place-le W m n (omega arith) (omega arith)))) k (joins-sym t)

        all : (w₂ : ℕ) → w ≡ w₂ →
            (0 < disc w₂) × ((m : ℕ) → m < n + 1 → (nx n ≡ pr m → ⊥) → Reach K lf rt disc lw' m (n + 1) w₂)
            × ((Parted K lf rt (nx n) → Told (nx n)) ⊎ OnStack K lf rt pr (n + 1) (nx n))
        all w₂ z = (
          omega (arith, ap disc z),
          λ m l o. record { place = n; from = omega arith; below = omega arith; low = omega (arith, ap disc z) },
          says (W.old w p),
        )
