-- What the state of a bridge walk says of the last frame's entry when it is left, and that leaving it keeps the state.
use mathlib.Core.Path.{◌≡◌, sym, ◌∙◌, ap, subst}
use mathlib.Core.Logic.{◌⊎◌, inl, inr, by_cases}
use Prim.Native.Nat.{ℕ, ◌+◌, ◌≤◌, ◌<◌, min}
use native.Mathlib.Omega.{arith}
use native.Mathlib.Decide.{dec_lt, ℕ_discrete}
use Rattle.serial_walk.specs.Steps.{Connected, onward}
use Rattle.serial_walk.specs.Walk.{RecordJoins, Without, Parted, Scanned, OnStack, Lowest, Reach, Walk}
use Rattle.serial_walk.proofs.Steps.{joined, kept, wider}
use Rattle.serial_walk.proofs.Zeros.{Upd}
use Rattle.serial_walk.proofs.Climb.{joins-sym, no-bridge, bridge, place-le, low-le, entered, climb}

module _ (K : ℕ) (lf rt : ℕ → ℕ) where
  -- frame n + 1 has looked at every record, and knows nothing before its region: its entry is a bridge
  pub is-bridge : {R r : ℕ} {Told : ℕ → Type 0} {disc st pr nx lw : ℕ → ℕ} {n time : ℕ} → Walk K lf rt R r Told disc st pr nx lw (n + 2) time → K ≤ nx (n + 1) →
      disc (st n) < lw (n + 1) → Parted K lf rt (pr (n + 1))
  is-bridge {disc = disc} {st} {pr} {nx} {lw} {n} W all lt =
      bridge (W.tree n (omega arith)).1 (λ c. apart (kept After keep c (omega arith)))
    where
      -- the last frame's lowest is itself
      own : lw (n + 1) ≡ disc (st (n + 1))
      own =
          let f = W.low (n + 1) (omega arith) in
          by_cases (ℕ_discrete f.to (n + 1)) (λ e. f.is ∙ ap (λ (x : ℕ). disc (st x)) e) λ e.
          absurd (omega (arith, f.is, f.upto, place-le W f.to n (omega (arith, f.upto)) (omega arith)))

      After : ℕ → Type 0
      After x = disc (st (n + 1)) ≤ disc x

      keep : (x y : ℕ) → Without K lf rt (pr (n + 1)) x y → After x → After y
      keep x y s a =
          let scanned : Scanned K lf rt st nx (n + 2) x s.by = λ m b e. look m b e in
          let f = W.reach (n + 1) x s.by y (omega arith) a scanned s.below s.other s.joins in
          let z : f.place ≡ n + 1 = omega (arith, f.from, f.below) in
          omega (arith, f.low, ap lw z, own)
        where
          look : (m : ℕ) → m < n + 2 → st m ≡ x → s.by < nx m
          look m b e =
              by_cases (ℕ_discrete m (n + 1)) (λ z. omega (arith, ap nx z, s.below)) λ z.
              absurd (omega (arith, W.rising m (n + 1) (omega arith) (omega arith), ap disc e))

      apart : After (st n) → ⊥
      apart a = omega (arith, W.rising n (n + 1) (omega arith) (omega arith))

  -- frame n + 1 knows a region no later than its parent's: its entry is no bridge
  pub not-bridge : {R r : ℕ} {Told : ℕ → Type 0} {disc st pr nx lw : ℕ → ℕ} {n time : ℕ} → Walk K lf rt R r Told disc st pr nx lw (n + 2) time →
      lw (n + 1) ≤ disc (st n) → Parted K lf rt (pr (n + 1)) → ⊥
  not-bridge {disc = disc} {st} {pr} {nx} {lw} {n} W le =
      let f = W.low (n + 1) (omega arith) in
      let up : f.to ≤ n = by_cases (ℕ_discrete f.to (n + 1))
      (λ e. absurd (omega (arith, f.is, ap (λ (x : ℕ). disc (st x)) e, W.rising n (n + 1) (omega arith) (omega arith)))) (λ e. omega (arith, f.upto)) in
      let down : Connected (Without K lf rt (pr (n + 1))) (st (n + 1)) (st f.to) =
      wider (λ x y s. record { by = s.by; below = s.below; other = s.other (n + 1) (omega arith); joins = s.joins }) f.path in
      no-bridge (joins-sym (W.tree n (omega arith)).1)
      (joined down (climb W (pr (n + 1)) f.to n up (omega arith) (λ i l e. entered W n i (omega arith) l (sym e))))

  -- the last frame has looked at every record, and is left for its parent
  module _ {R r : ℕ} {Told Told' : ℕ → Type 0} {disc st pr nx lw : ℕ → ℕ} {n time : ℕ} (W : Walk K lf rt R r Told disc st pr nx lw (n + 2) time)
      (all : K ≤ nx (n + 1)) (lw' : ℕ → ℕ) (u : Upd lw lw' n (min (lw n) (lw (n + 1)))) (more : (j : ℕ) → Told j → Told' j)
      (tells : Parted K lf rt (pr (n + 1)) → Told' (pr (n + 1))) where
    was : (x j : ℕ) → j < K → Scanned K lf rt st nx (n + 1) x j → Scanned K lf rt st nx (n + 2) x j
    was x j k s m l e = by_cases (ℕ_discrete m (n + 1)) (λ z. omega (arith, ap nx z)) (λ z. s m (omega arith) e)

    pop-low : (m : ℕ) → m < n + 1 → Lowest K lf rt disc st pr lw' m
    pop-low m l = by_cases (ℕ_discrete m n) (λ e. subst (λ (x : ℕ). Lowest K lf rt disc st pr lw' x) (sym e) (by_cases (dec_lt (lw (n + 1)) (lw n)) child own))
        stay
      where
        stay : (m ≡ n → ⊥) → Lowest K lf rt disc st pr lw' m
        stay e = let f = W.low m (omega arith) in record { to = f.to; upto = f.upto; is = u.off m e ∙ f.is; path = f.path }

        own : (lw (n + 1) < lw n → ⊥) → Lowest K lf rt disc st pr lw' n
        own q = let f = W.low n (omega arith) in record { to = f.to; upto = f.upto; is = omega (arith, u.at, f.is); path = f.path }

        child : lw (n + 1) < lw n → Lowest K lf rt disc st pr lw' n
        child q =
            let f = W.low (n + 1) (omega arith) in
            let t = W.tree n (omega arith) in
            record {
              to = f.to;
              upto =
                  by_cases (ℕ_discrete f.to (n + 1))
                  (λ e.
                  absurd (omega (arith, f.is, ap (λ (x : ℕ). disc (st x)) e, low-le W n (omega arith), W.rising n (n + 1) (omega arith) (omega arith))))
                  (λ e. omega (arith, f.upto));
              is = omega (arith, u.at, f.is);
              path =
                  onward (record { by = pr (n + 1); below = t.0; other = λ i b e. entered W n i (omega arith) b e; joins = t.1 })
                  (wider (λ x y s. record { by = s.by; below = s.below; other = λ i b. s.other i (omega arith); joins = s.joins }) f.path);
            }

    pop-reach : (m w : ℕ) → m < n + 1 → Reach K lf rt disc lw m (n + 2) w → Reach K lf rt disc lw' m (n + 1) w
    pop-reach m w l f = by_cases (dec_lt f.place n) below top
      where
        below : f.place < n → Reach K lf rt disc lw' m (n + 1) w
        below b = record { place = f.place; from = f.from; below = omega arith; low = omega (arith, f.low, u.off f.place (λ e. omega arith)) }

        top : (f.place < n → ⊥) → Reach K lf rt disc lw' m (n + 1) w
        top b = record {
          place = n;
          from = omega arith;
          below = omega arith;
          low =
              by_cases (ℕ_discrete f.place n)
              (λ e. omega (arith, f.low, u.at, ap lw e))
              (λ e. omega (arith, f.low, u.at, ap lw (let z : f.place ≡ n + 1 = omega (arith, f.below) in z)));
        }

    pop-old : (x : ℕ) → OnStack K lf rt st (n + 2) x ⊎ ((j y m : ℕ) → j < K → RecordJoins lf rt j x y → m < n + 2 → st m ≡ y → disc y < disc x) →
        OnStack K lf rt st (n + 1) x ⊎ ((j y m : ℕ) → j < K → RecordJoins lf rt j x y → m < n + 1 → st m ≡ y → disc y < disc x)
    pop-old x (inl f) =
        by_cases (ℕ_discrete f.place (n + 1))
        (λ e.
        inr (λ j y m k t l z. omega (arith, W.rising m (n + 1) l (omega arith), ap disc z, ap disc (sym (ap st e) ∙ f.is))))
        (λ e. inl (record { place = f.place; below = omega (arith, f.below); is = f.is }))
    pop-old x (inr g) = inr (λ j y m k t l z. g j y m k t (omega arith) z)

    pop-settled : (j : ℕ) → (Parted K lf rt j → Told j) ⊎ OnStack K lf rt pr (n + 2) j → (Parted K lf rt j → Told' j) ⊎ OnStack K lf rt pr (n + 1) j
    pop-settled j (inl f) = inl (λ b. more j (f b))
    pop-settled j (inr f) =
        by_cases (ℕ_discrete f.place (n + 1)) (λ e. inl (subst (λ (x : ℕ). Parted K lf rt x → Told' x) (sym (ap pr e) ∙ f.is) tells))
        (λ e. inr (record { place = f.place; below = omega (arith, f.below); is = f.is }))

    pub pop : Walk K lf rt R r Told' disc st pr nx lw' (n + 1) time
    pop = record {
      timed = W.timed;
      found = λ m l. W.found m (omega arith);
      inside = λ m l. W.inside m (omega arith);
      rising = λ m q l b. W.rising m q l (omega arith);
      tree = λ m l. W.tree m (omega arith);
      root = λ l. W.root (omega arith);
      low = pop-low;
      known = λ x j w p s k t. W.known x j w p (was x j k s) k t;
      reach = λ m x j w l d s k o t. pop-reach m w l (W.reach m x j w (omega arith) d (was x j k s) k o t);
      old = λ x p. pop-old x (W.old x p);
      settled = λ x j w p s k t. pop-settled j (W.settled x j w p (was x j k s) k t);
      passed = W.passed;
      room = omega (arith, W.room);
      count = W.count;
    }

  -- the root's frame has looked at every record: the stack is empty, and the root is found
  pub pop-root : {R r : ℕ} {Told : ℕ → Type 0} {disc st pr nx lw : ℕ → ℕ} {time : ℕ} → Walk K lf rt R r Told disc st pr nx lw 1 time → K ≤ nx 0 →
      Walk K lf rt R r Told disc st pr nx lw 0 time
  pop-root {Told = Told} {disc} {st} {pr} {nx} W all = record {
    timed = W.timed;
    found = λ m l. absurd (omega arith);
    inside = λ m l. absurd (omega arith);
    rising = λ m q l b. absurd (omega arith);
    tree = λ m l. absurd (omega arith);
    root = λ l. absurd (omega arith);
    low = λ m l. absurd (omega arith);
    known = λ x j w p s k t. W.known x j w p (seen x j k) k t;
    reach = λ m x j w l d s k o t. absurd (omega arith);
    old = λ x p. inr (λ j y m k t l e. absurd (omega arith));
    settled = λ x j w p s k t. over j k (W.settled x j w p (seen x j k) k t);
    passed = W.passed;
    room = omega (arith, W.room);
    count = W.count;
  }
    where
      seen : (x j : ℕ) → j < K → Scanned K lf rt st nx 1 x j
      seen x j k m l e = omega (arith, ap nx (let z : m ≡ 0 = omega arith in z))

      over : (j : ℕ) → j < K → (Parted K lf rt j → Told j) ⊎ OnStack K lf rt pr 1 j → (Parted K lf rt j → Told j) ⊎ OnStack K lf rt pr 0 j
      over j k (inl f) = inl f
      over j k (inr f) = absurd (omega (arith, W.root (omega arith), ap pr (let z : f.place ≡ 0 = omega (arith, f.below) in z), f.is))
