-- A frame is entered, and the state of a bridge walk is kept.
use mathlib.Core.Path.{◌≡◌, refl, sym, ◌∙◌, ap, subst}
use mathlib.Core.Logic.{◌⊎◌, inl, inr, ⊎_elim, by_cases}
use Prim.Native.Nat.{ℕ, zero, suc, ◌+◌, ◌≤◌, ◌<◌}
use native.Mathlib.Omega.{arith}
use native.Mathlib.Decide.{ℕ_discrete}
use Rattle.serial_walk.specs.Steps.{here}
use Rattle.serial_walk.specs.Walk.{RecordJoins, RecordTouches, First, Parted, Scanned, OnStack, Lowest, Reach, Walk}
use Rattle.serial_walk.proofs.Zeros.{Upd, zeros-upd}
use Rattle.serial_walk.proofs.Climb.{touching, other-end}

module _ (K : ℕ) (lf rt : ℕ → ℕ) where
  -- the frame after the last is entered, at a region that was not found: a root, or over the record that the last frame looks at
  module _ {R r : ℕ} {Told : ℕ → Type 0} {disc st pr nx lw : ℕ → ℕ} {h time : ℕ} (W : Walk K lf rt R r Told disc st pr nx lw h time)
      (disc' nx' : ℕ → ℕ) (new : disc (st h) ≡ 0) (on : st h < R) (u : Upd disc disc' (st h) (time + 1)) (first : h ≡ 0 → K ≤ pr 0)
      (over : (m : ℕ) → m + 1 ≡ h → (pr h < K) × RecordJoins lf rt (pr h) (st m) (st h)) (start : First K lf rt 0 (st h) (nx' h)) (own : lw h ≡ time + 1)
      (adv : (m i : ℕ) → m < h → i < nx' m → i < K → RecordTouches lf rt i (st m) → (i < nx m) ⊎ ((m + 1 ≡ h) × (i ≡ pr h))) where
    keep-d : (x : ℕ) → 0 < disc x → disc' x ≡ disc x
    keep-d x p = u.off x (λ e. omega (arith, ap disc e))

    keep-f : (x : ℕ) → 0 < disc x → 0 < disc' x
    keep-f x p = omega (arith, keep-d x p)

    keep-s : (m : ℕ) → m < h → disc' (st m) ≡ disc (st m)
    keep-s m l = keep-d (st m) (W.found m l)

    -- a region is the new one, or is as it was
    which : {P : Type 0} (x : ℕ) → (x ≡ st h → disc' x ≡ time + 1 → P) → (disc' x ≡ disc x → P) → P
    which x f g = by_cases (ℕ_discrete x (st h)) (λ e. f e (ap disc' e ∙ u.at)) (λ e. g (u.off x e))

    -- a record that was looked at was so before, or is the one by which the new frame is entered
    un : {P : Type 0} (x i w : ℕ) → i < K → RecordJoins lf rt i x w → 0 < disc' x → Scanned K lf rt st nx' (h + 1) x i
        → ((m : ℕ) → m + 1 ≡ h → st m ≡ x → i ≡ pr h → P) →
        (0 < disc x → disc' x ≡ disc x → Scanned K lf rt st nx h x i → P) → P
    un {P} x i y b t p s f g =
        which x (λ e d. absurd (start.between i (omega arith) (s h (omega arith) (sym e)) b (touch (sym e)))) (λ d. look h refl d)
      where
        touch : {v : ℕ} → v ≡ x → RecordTouches lf rt i v
        touch z = subst (λ (c : ℕ). RecordTouches lf rt i c) (sym z) (touching t)

        look : (q : ℕ) → h ≡ q → disc' x ≡ disc x → P
        look zero z d = g (omega arith) d (λ m l e. absurd (omega arith))
        look (suc q) z d =
            by_cases (ℕ_discrete i (pr h)) (λ e. by_cases (ℕ_discrete (st q) x) (λ k. f q (omega arith) k e) (λ k. g (omega arith) d (λ m l w. away k m l w)))
            (λ e. g (omega arith) d (λ m l w. before e m l w))
          where
            away : (st q ≡ x → ⊥) → (m : ℕ) → m < h → st m ≡ x → i < nx m
            away k m l w = ⊎_elim (λ a. a) (λ a. absurd (k (ap st (let y : q ≡ m = omega arith in y) ∙ w))) (adv m i l (s m (omega arith) w) b (touch w))

            before : (i ≡ pr h → ⊥) → (m : ℕ) → m < h → st m ≡ x → i < nx m
            before e m l w = ⊎_elim (λ a. a) (λ a. absurd (e a.1)) (adv m i l (s m (omega arith) w) b (touch w))

    -- the record by which the new frame is entered, at its parent, leads to the new region
    entry : (m x i w : ℕ) → m + 1 ≡ h → st m ≡ x → i ≡ pr h → RecordJoins lf rt i x w → st h ≡ w
    entry m x i w a b c t =
        other-end (over m a).1 (subst (λ (y : ℕ). RecordJoins lf rt (pr h) y w) (sym b) (subst (λ (y : ℕ). RecordJoins lf rt y x w) c t))

    push-low : (m : ℕ) → m < h + 1 → Lowest K lf rt disc' st pr lw m
    push-low m l = by_cases (ℕ_discrete m h) top below
      where
        top : m ≡ h → Lowest K lf rt disc' st pr lw m
        top e = record { to = m; upto = omega arith; is = ap lw e ∙ own ∙ sym (ap (λ (x : ℕ). disc' (st x)) e ∙ u.at); path = here }

        below : (m ≡ h → ⊥) → Lowest K lf rt disc' st pr lw m
        below e = let f = W.low m (omega arith) in
            record { to = f.to; upto = f.upto; is = f.is ∙ sym (keep-s f.to (omega (arith, f.upto))); path = f.path }

    push-reach : (m x j w : ℕ) → m < h + 1 → disc' (st m) ≤ disc' x → Scanned K lf rt st nx' (h + 1) x j → j < K → (j ≡ pr m → ⊥) → RecordJoins lf rt j x w
        → Reach K lf rt disc' lw m (h + 1) w
    push-reach m x j w l d s k o t =
        un x j w k t (omega (arith, some m l)) s (λ q a b c. up q a b c) (λ p e z. old-one p e z)
      where
        some : (m : ℕ) → m < h + 1 → 0 < disc' (st m)
        some m l = by_cases (ℕ_discrete m h) (λ e. omega (arith, ap (λ (y : ℕ). disc' (st y)) e, u.at)) (λ e. keep-f (st m) (W.found m (omega arith)))

        up : (q : ℕ) → q + 1 ≡ h → st q ≡ x → j ≡ pr h → Reach K lf rt disc' lw m (h + 1) w
        up q a b c = record { place = h; from = omega arith; below = omega arith; low = omega (arith, own, u.at, ap disc' (entry q x j w a b c t)) }

        old-one : 0 < disc x → disc' x ≡ disc x → Scanned K lf rt st nx h x j → Reach K lf rt disc' lw m (h + 1) w
        old-one p e z =
            by_cases (ℕ_discrete m h)
            (λ y. absurd (omega (arith, ap (λ (a : ℕ). disc' (st a)) y, u.at, W.timed x)))
            (λ y.
            let f = W.reach m x j w (omega arith) (omega (arith, keep-s m (omega arith))) z k o t in
            record {
              place = f.place;
              from = f.from;
              below = omega (arith, f.below);
              low = omega (arith, f.low, keep-d w (W.known x j w p z k t));
            })

    push-old : (x : ℕ) → 0 < disc' x → OnStack K lf rt st (h + 1) x ⊎ ((j y m : ℕ) → j < K → RecordJoins lf rt j x y → m < h + 1 → st m ≡ y → disc' y < disc' x)
    push-old x p = which x (λ e d. inl (record { place = h; below = omega arith; is = sym e })) (λ d. on-to d (W.old x (omega arith)))
      where
        on-to : disc' x ≡ disc x → OnStack K lf rt st h x ⊎ ((j y m : ℕ) → j < K → RecordJoins lf rt j x y → m < h → st m ≡ y → disc y < disc x) →
            OnStack K lf rt st (h + 1) x ⊎ ((j y m : ℕ) → j < K → RecordJoins lf rt j x y → m < h + 1 → st m ≡ y → disc' y < disc' x)
        on-to d (inl f) = inl (record { place = f.place; below = omega (arith, f.below); is = f.is })
        on-to d (inr g) = by_cases (on-it h) (λ f. inl (record { place = f.place; below = omega (arith, f.below); is = f.is }))
            (λ off. inr (λ j y m k t l e. less off j y m k t l e))
          where
            -- whether x is on the stack
            on-it : (b : ℕ) → Dec (OnStack K lf rt st b x)
            on-it zero = no (λ f. omega (arith, f.below))
            on-it (suc b) = by_cases (ℕ_discrete (st b) x) (λ e. yes (record { place = b; below = omega arith; is = e })) (λ e. more e (on-it b))
              where
                more : (st b ≡ x → ⊥) → Dec (OnStack K lf rt st b x) → Dec (OnStack K lf rt st (suc b) x)
                more e (yes f) = yes (record { place = f.place; below = omega (arith, f.below); is = f.is })
                more e (no q) =
                    no (λ f. by_cases (ℕ_discrete f.place b) (λ k. e (sym (ap st k) ∙ f.is))
                    (λ k. q (record { place = f.place; below = omega (arith, f.below); is = f.is })))

            less : (OnStack K lf rt st h x → ⊥) → (j y m : ℕ) → j < K → RecordJoins lf rt j x y → m < h + 1 → st m ≡ y → disc' y < disc' x
            less off j y m k t l e =
                by_cases (ℕ_discrete m h)
                (λ z.
                absurd (omega (
                  arith,
                  W.known x j y (omega arith) (λ i b c. absurd (off (record { place = i; below = b; is = c }))) k t,
                  ap disc (sym (ap st z) ∙ e),
                  new,
                )))
                (λ z. omega (arith, g j y m k t (omega arith) e, keep-s m (omega arith), ap disc' e, ap disc e))

    pub push : Walk K lf rt R r Told disc' st pr nx' lw (h + 1) (time + 1)
    push = record {
      timed = λ x. which x (λ e d. omega arith) (λ d. omega (arith, W.timed x));
      found = λ m l. by_cases (ℕ_discrete m h) (λ e. omega (arith, ap (λ (x : ℕ). disc' (st x)) e, u.at)) (λ e. keep-f (st m) (W.found m (omega arith)));
      inside = λ m l. by_cases (ℕ_discrete m h) (λ e. subst (λ (x : ℕ). st x < R) (sym e) on) (λ e. W.inside m (omega arith));
      rising = λ m q l b.
          by_cases (ℕ_discrete q h)
          (λ e. omega (arith, keep-s m (omega arith), W.timed (st m), ap (λ (x : ℕ). disc' (st x)) e, u.at))
          (λ e. omega (arith, keep-s m (omega arith), keep-s q (omega arith), W.rising m q l (omega arith)));
      tree = λ m l.
          by_cases (ℕ_discrete (m + 1) h) (λ e. subst (λ (x : ℕ). (pr x < K) × RecordJoins lf rt (pr x) (st m) (st x)) (sym e) (over m e))
          (λ e. W.tree m (omega arith));
      root = λ l. by_cases (ℕ_discrete h 0) first (λ e. W.root (omega arith));
      low = push-low;
      known = λ x j w p s k t.
          un x j w k t p s (λ q a b c. omega (arith, u.at, ap disc' (entry q x j w a b c t))) (λ o d z. keep-f w (W.known x j w o z k t));
      reach = push-reach;
      old = push-old;
      settled = λ x j w p s k t.
          un x j w k t p s (λ q a b c. inr (record { place = h; below = omega arith; is = sym c })) (λ o d z. still j (W.settled x j w o z k t));
      passed = λ k l. keep-f (lf k) (W.passed k l);
      room = omega (arith, W.room, zeros-upd disc disc' (st h) (time + 1) R u on new (omega arith));
      count = omega (arith, W.count, zeros-upd disc disc' (st h) (time + 1) R u on new (omega arith));
    }
      where
        still : (j : ℕ) → (Parted K lf rt j → Told j) ⊎ OnStack K lf rt pr h j → (Parted K lf rt j → Told j) ⊎ OnStack K lf rt pr (h + 1) j
        still j (inl f) = inl f
        still j (inr f) = inr (record { place = f.place; below = omega (arith, f.below); is = f.is })
