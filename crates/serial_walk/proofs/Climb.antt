-- The ends of records, and the path that a walk's frames make.
use mathlib.Core.Path.{◌≡◌, refl, sym, ◌∙◌, ap, subst}
use mathlib.Core.Logic.{◌⊎◌, inl, inr, ⊎_elim, by_cases}
use Prim.Native.Nat.{ℕ, zero, suc, ◌+◌, ◌≤◌, ◌<◌}
use native.Mathlib.Omega.{arith}
use native.Mathlib.Decide.{dec_lt, ℕ_discrete}
use Rattle.serial_walk.specs.Steps.{Connected, here}
use Rattle.serial_walk.specs.Walk.{RecordJoins, forth, back, RecordTouches, Without, Parted, Walk}
use Rattle.serial_walk.proofs.Steps.{one, joined, turned, moved}

module _ {lf rt : ℕ → ℕ} where
  pub joins-sym : {k a b : ℕ} → RecordJoins lf rt k a b → RecordJoins lf rt k b a
  joins-sym (forth p q) = back p q
  joins-sym (back p q) = forth p q

  -- a record that joins a with another has a for an end
  pub touching : {k a b : ℕ} → RecordJoins lf rt k a b → RecordTouches lf rt k a
  touching (forth p q) = inl p
  touching (back p q) = inr q

  pub other-end : {k a b d : ℕ} → RecordJoins lf rt k a b → RecordJoins lf rt k a d → b ≡ d
  other-end (forth p q) (forth r s) = sym q ∙ s
  other-end (forth p q) (back r s) = sym q ∙ s ∙ sym p ∙ r
  other-end (back p q) (forth r s) = sym p ∙ r ∙ sym q ∙ s
  other-end (back p q) (back r s) = sym p ∙ r

  pub one_of : {k a b c d : ℕ} → RecordJoins lf rt k a b → RecordJoins lf rt k c d → (a ≡ c) ⊎ (a ≡ d)
  one_of (forth p q) (forth r s) = inl (sym p ∙ r)
  one_of (forth p q) (back r s) = inr (sym p ∙ r)
  one_of (back p q) (forth r s) = inr (sym q ∙ s)
  one_of (back p q) (back r s) = inl (sym q ∙ s)

module _ {K : ℕ} {lf rt : ℕ → ℕ} where
  step-sym : (k a b : ℕ) → Without K lf rt k a b → Without K lf rt k b a
  step-sym k a b s = record { by = s.by; below = s.below; other = s.other; joins = joins-sym s.joins }

  -- a path without k between k's ends shows that k is no bridge
  pub no-bridge : {k a b : ℕ} → RecordJoins lf rt k a b → Connected (Without K lf rt k) a b → Parted K lf rt k → ⊥
  no-bridge (forth p q) c h = h (moved (sym p) (sym q) c)
  no-bridge {k} (back p q) c h = h (moved (sym p) (sym q) (turned (step-sym k) c))

  -- and a bridge is shown from either end
  pub bridge : {k a b : ℕ} → RecordJoins lf rt k a b → (Connected (Without K lf rt k) b a → ⊥) → Parted K lf rt k
  bridge {k} (forth p q) h c = h (turned (step-sym k) (moved p q c))
  bridge (back p q) h c = h (moved p q c)

  module _ {R r : ℕ} {Told : ℕ → Type 0} {disc st pr nx lw : ℕ → ℕ} {h time : ℕ} (W : Walk K lf rt R r Told disc st pr nx lw h time) where
    pub place-le : (m l : ℕ) → m ≤ l → l < h → disc (st m) ≤ disc (st l)
    place-le m l a b =
        by_cases (ℕ_discrete m l) (λ e. omega (arith, ap (λ (x : ℕ). disc (st x)) e)) λ e. omega (arith, W.rising m l (omega arith) b)

    distinct : (m l : ℕ) → m < h → l < h → st m ≡ st l → m ≡ l
    distinct m l a b e =
        by_cases (dec_lt m l) (λ k. absurd (omega (arith, W.rising m l k b, ap disc e))) λ k.
        by_cases (dec_lt l m) (λ q. absurd (omega (arith, W.rising l m q a, ap disc e))) λ q. omega arith

    pub low-le : (m : ℕ) → m < h → lw m ≤ disc (st m)
    low-le m a = let f = W.low m a in omega (arith, f.is, place-le f.to m f.upto a)

    -- a record at frame n's region by which n was not entered is not one by which a frame up to n was
    pub fresh : (n j w : ℕ) → n < h → j < K → RecordJoins lf rt j (st n) w → (j ≡ pr n → ⊥) → (i : ℕ) → i ≤ n → j ≡ pr i → ⊥
    fresh n j w a b t q zero l e = omega (arith, W.root (omega arith))
    fresh n j w a b t q (suc i) l e =
        by_cases (ℕ_discrete (suc i) n) (λ s. q (e ∙ ap pr s)) λ s.
        let ti : RecordJoins lf rt (pr (i + 1)) (st i) (st (i + 1)) = (W.tree i (omega arith)).1 in
        let tj : RecordJoins lf rt (pr (i + 1)) (st n) w =
        subst (λ (x : ℕ). RecordJoins lf rt x (st n) w) (e ∙ ap pr (let z : suc i ≡ i + 1 = omega arith in z)) t in
        ⊎_elim (λ k. absurd (omega (arith, distinct n i a (omega arith) k))) (λ k. absurd (omega (arith, distinct n (i + 1) a (omega arith) k))) (one_of tj ti)

    -- no two frames were entered by one record
    pub entered : (n i : ℕ) → n + 1 < h → i ≤ n → pr (n + 1) ≡ pr i → ⊥
    entered n i a l e =
        fresh-tree i l e
      where
        t : RecordJoins lf rt (pr (n + 1)) (st (n + 1)) (st n)
        t = joins-sym (W.tree n a).1

        fresh-tree : (i : ℕ) → i ≤ n → pr (n + 1) ≡ pr i → ⊥
        fresh-tree zero l e = omega (arith, W.root (omega arith), (W.tree n a).0)
        fresh-tree (suc i) l e =
            let ti : RecordJoins lf rt (pr (i + 1)) (st i) (st (i + 1)) = (W.tree i (omega arith)).1 in
            let tj : RecordJoins lf rt (pr (i + 1)) (st (n + 1)) (st n) =
            subst (λ (x : ℕ). RecordJoins lf rt x (st (n + 1)) (st n)) (e ∙ ap pr (let z : suc i ≡ i + 1 = omega arith in z)) t in
            ⊎_elim (λ k. omega (arith, distinct (n + 1) i a (omega arith) k)) (λ k. omega (arith, distinct (n + 1) (i + 1) a (omega arith) k)) (one_of tj ti)

    -- the frames are a path, by the records by which they were entered
    pub climb : (k m l : ℕ) → m ≤ l → l < h → ((i : ℕ) → i ≤ l → pr i ≡ k → ⊥) → Connected (Without K lf rt k) (st m) (st l)
    climb k m zero a b c = moved refl (ap st (let z : m ≡ 0 = omega arith in z)) here
    climb k m (suc l) a b c =
        by_cases (ℕ_discrete m (suc l)) (λ e. moved refl (ap st e) here) λ e.
        let up : Connected (Without K lf rt k) (st m) (st l) = climb k m l (omega arith) (omega arith) (λ i p. c i (omega arith)) in
        let z : l + 1 ≡ suc l = omega arith in
        let t = W.tree l (omega arith) in
        moved refl (ap st z) (joined up (one (record { by = pr (l + 1); below = t.0; other = c (l + 1) (omega arith); joins = t.1 })))
