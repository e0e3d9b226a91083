-- A walk depends on its stack's frames alone.
use Prim.Native.Nat.{ℕ, ◌+◌, ◌<◌}
use native.Mathlib.Omega.{arith}
use mathlib.Core.Path.{◌≡◌, sym, ◌∙◌, ap, subst, subst₂}
use mathlib.Core.Logic.{◌⊎◌, inl, inr}
use Rattle.serial_walk.proofs.Steps.{moved, wider}
use Rattle.serial_walk.specs.Walk.{RecordJoins, Parted, Scanned, OnStack, Lowest, Walk}

module _ {K : ℕ} {lf rt : ℕ → ℕ} {R r : ℕ} {Told : ℕ → Type 0} {disc st pr nx lw : ℕ → ℕ} {h time : ℕ} (W : Walk K lf rt R r Told disc st pr nx lw h time)
    (st' pr' nx' lw' : ℕ → ℕ) (es : (m : ℕ) → m < h → st' m ≡ st m) (ep : (m : ℕ) → m < h → pr' m ≡ pr m) (en : (m : ℕ) → m < h → nx' m ≡ nx m)
    (el : (m : ℕ) → m < h → lw' m ≡ lw m) where
  was : (x j : ℕ) → Scanned K lf rt st' nx' h x j → Scanned K lf rt st nx h x j
  was x j s m l e = omega (arith, s m l (es m l ∙ e), en m l)

  low-on : (m : ℕ) → m < h → Lowest K lf rt disc st' pr' lw' m
  low-on m l =
      let f = W.low m l in
      let t : f.to < h = omega (arith, f.upto) in
      record {
        to = f.to;
        upto = f.upto;
        is = el m l ∙ f.is ∙ sym (ap disc (es f.to t));
        path =
            moved (sym (es m l)) (sym (es f.to t))
            (wider (λ x y s. record { by = s.by; below = s.below; other = λ i b e. s.other i b (e ∙ ep i (omega arith)); joins = s.joins }) f.path);
      }

  old-on : (x : ℕ) → OnStack K lf rt st h x ⊎ ((j y m : ℕ) → j < K → RecordJoins lf rt j x y → m < h → st m ≡ y → disc y < disc x) →
      OnStack K lf rt st' h x ⊎ ((j y m : ℕ) → j < K → RecordJoins lf rt j x y → m < h → st' m ≡ y → disc y < disc x)
  old-on x (inl f) = inl (record { place = f.place; below = f.below; is = es f.place f.below ∙ f.is })
  old-on x (inr g) = inr (λ j y m k t l e. g j y m k t l (sym (es m l) ∙ e))

  settled_on : (j : ℕ) → (Parted K lf rt j → Told j) ⊎ OnStack K lf rt pr h j → (Parted K lf rt j → Told j) ⊎ OnStack K lf rt pr' h j
  settled_on j (inl f) = inl f
  settled_on j (inr f) = inr (record { place = f.place; below = f.below; is = ep f.place f.below ∙ f.is })

  pub retell : Walk K lf rt R r Told disc st' pr' nx' lw' h time
  retell = record {
    timed = W.timed;
    found = λ m l. omega (arith, W.found m l, ap disc (es m l));
    inside = λ m l. omega (arith, W.inside m l, es m l);
    rising = λ m q l b. omega (arith, W.rising m q l b, ap disc (es m (omega arith)), ap disc (es q b));
    tree = λ m l.
        let t = W.tree m l in
        let e : pr (m + 1) ≡ pr' (m + 1) = sym (ep (m + 1) l) in (
          omega (arith, t.0),
          subst (λ (x : ℕ). RecordJoins lf rt x (st' m) (st' (m + 1))) e
              (subst₂ (λ (x y : ℕ). RecordJoins lf rt (pr (m + 1)) x y) (sym (es m (omega arith))) (sym (es (m + 1) l)) t.1),
        );
    root = λ l. omega (arith, W.root l, ep 0 l);
    low = low-on;
    known = λ x j w p s k t. W.known x j w p (was x j s) k t;
    reach = λ m x j w l d s k o t.
        let f = W.reach m x j w l (omega (arith, ap disc (es m l))) (was x j s) k (λ e. o (e ∙ sym (ep m l))) t in
        record { place = f.place; from = f.from; below = f.below; low = omega (arith, f.low, el f.place f.below) };
    old = λ x p. old-on x (W.old x p);
    settled = λ x j w p s k t. settled_on j (W.settled x j w p (was x j s) k t);
    passed = W.passed;
    room = W.room;
    count = W.count;
  }
