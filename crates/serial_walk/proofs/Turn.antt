-- The walk over its lists between two turns, and the turns of its inner loop.
use Prim.Native.Nat.{ℕ, ◌+◌, ◌≤◌, ◌<◌, min}
use native.Mathlib.Omega.{arith}
use native.Mathlib.Decide.{ℕ_discrete}
use mathlib.Core.Path.{◌≡◌, refl, sym, ◌∙◌, ap, subst, subst₂}
use mathlib.Core.Logic.{by_cases}
use mathlib.Core.List.{List}
use lib.ListN.{length}
use Rattle.lists.specs.Rows.{at}
use Rattle.serial_walk.specs.Walk.{RecordJoins, forth, back, RecordTouches, First}
use Rattle.graph.specs.Slices.{Graph, Owners}
use Rattle.serial_walk.specs.Slices.{put, Sized, MarksSound, Stacked, FrameInHand}
use Rattle.serial_walk.specs.declared.frame.Frame.{Frame}
use Rattle.serial_walk.proofs.Retell.{retell}
use Rattle.serial_walk.proofs.Scans.{scan-parent, scan-seen}
use Rattle.serial_walk.proofs.Puts.{put-at, put-off, reputting}

pub record Loop (K R : ℕ) (owners lefts rights disc stack parents nexts lows marks : List ℕ) (r h time : ℕ) : Type 0 where
  pub graph : Graph K R lefts rights
  pub sized : Sized R disc stack parents nexts lows
  pub owners-are : K ≤ length owners
  pub marks-are : length marks ≡ 256
  pub marked : Owners K owners
  pub walk : Stacked K owners lefts rights r disc stack parents nexts lows marks h time
  pub sound : MarksSound K owners lefts rights marks
  pub begun : 0 < at disc (at lefts r)
  -- each frame's next record touches its region
  pub touching : (m : ℕ) → m < h → at nexts m < K → RecordTouches (at lefts) (at rights) (at nexts m) (at stack m)

-- the last frame in hand is that of the stack, with its own next record and low
pub record Hand (K : ℕ) (owners lefts rights disc stack parents nexts lows marks : List ℕ) (r top time : ℕ) (f : Frame) : Type 0 where
  pub walk : FrameInHand K owners lefts rights r disc stack parents nexts lows marks top time f
  pub region : f.region ≡ at stack top
  pub parent : f.parent ≡ at parents top
  pub touching : f.next < K → RecordTouches (at lefts) (at rights) f.next f.region

-- how the inner loop stopped
pub record Stop (K R : ℕ) (lefts rights disc : List ℕ) (f : Frame) (w j : ℕ) : Type 0 where
  pub is : j < K → j ≡ f.next
  pub joins : j < K → RecordJoins (at lefts) (at rights) f.next f.region w
  pub within : j < K → w < R
  pub new : j < K → at disc w ≡ 0
  pub all : K ≤ j → K ≤ f.next

-- the region that a record leads to is in range
pub end-in : {K R : ℕ} {lefts rights : List ℕ} {j x w : ℕ} → Graph K R lefts rights → j < K → RecordJoins (at lefts) (at rights) j x w → w < R
end-in {j = j} G l (forth p q) = omega (arith, q, G.right-in j l)
end-in {j = j} G l (back p q) = omega (arith, p, G.left_in j l)

-- a frame has its places
pub slots : {R : ℕ} {disc stack parents nexts lows : List ℕ} → Sized R disc stack parents nexts lows → (m : ℕ) → m < R →
    (m < length stack) × (m < length parents) × (m < length nexts) × (m < length lows)
slots Z m l = (omega (arith, Z.stack-are), omega (arith, Z.parents-are), omega (arith, Z.nexts-are), omega (arith, Z.lows-are))

pub resized : (d s p n l d' s' p' n' l' : List ℕ) {R : ℕ} → Sized R d s p n l → length d' ≡ length d → length s' ≡ length s → length p' ≡ length p
    → length n' ≡ length n →
    length l' ≡ length l → Sized R d' s' p' n' l'
resized d s p n l d' s' p' n' l' Z a b c e f = record {
  disc-are = a ∙ Z.disc-are;
  stack-are = b ∙ Z.stack-are;
  parents-are = c ∙ Z.parents-are;
  nexts-are = e ∙ Z.nexts-are;
  lows-are = f ∙ Z.lows-are;
}

-- the same at numbers that are equal
pub sized-as : {R R' : ℕ} {disc stack parents nexts lows : List ℕ} → R' ≡ R → Sized R disc stack parents nexts lows → Sized R' disc stack parents nexts lows
sized-as e Z = rw e Z

-- the same walk at lists that are equal
pub recast : {K R : ℕ} {owners lefts rights disc stack parents nexts lows marks : List ℕ} {r h time : ℕ} (disc' stack' parents' nexts' lows' marks' : List ℕ)
    (h' time' : ℕ) →
    disc' ≡ disc → stack' ≡ stack → parents' ≡ parents → nexts' ≡ nexts → lows' ≡ lows → marks' ≡ marks → h' ≡ h → time' ≡ time →
    Loop K R owners lefts rights disc stack parents nexts lows marks r h time
    → Loop K R owners lefts rights disc' stack' parents' nexts' lows' marks' r h' time'
recast d s p n l m h t a b c e f g i j L = rw (a, b, c, e, f, g, i, j) L

module _ {K : ℕ} {owners lefts rights disc stack parents nexts lows marks : List ℕ} {r : ℕ} where
  pub take : {R top time : ℕ} (f : Frame) → Loop K R owners lefts rights disc stack parents nexts lows marks r (top + 1) time → f.region ≡ at stack top
      → f.parent ≡ at parents top →
      f.next ≡ at nexts top → f.low ≡ at lows top → Hand K owners lefts rights disc stack parents nexts lows marks r top time f
  take {top = top} f L a b c d = record {
    walk =
        retell L.walk (at stack) (at parents) (put (at nexts) top f.next) (put (at lows) top f.low) (λ m l. refl) (λ m l. refl)
        (λ m l. same (at nexts) f.next c m) (λ m l. same (at lows) f.low d m);
    region = a;
    parent = b;
    touching = λ l. subst₂ (λ (x y : ℕ). RecordTouches (at lefts) (at rights) x y) (sym c) (sym a) (L.touching top (omega arith) (omega arith));
  }
    where
      same : (g : ℕ → ℕ) (v : ℕ) → v ≡ g top → (m : ℕ) → put g top v m ≡ g m
      same g v e m =
          by_cases (ℕ_discrete m top) (λ z. ap (λ (x : ℕ). put g top v x) z ∙ put-at g top v ∙ e ∙ sym (ap g z)) (λ z. put-off g top v m z)

  module _ {top time : ℕ} {f : Frame} (H : Hand K owners lefts rights disc stack parents nexts lows marks r top time f) where
    abbrev nx : ℕ → ℕ
    nx = put (at nexts) top f.next

    there : {w : ℕ} → RecordJoins (at lefts) (at rights) f.next f.region w → RecordJoins (at lefts) (at rights) (nx top) (at stack top) w
    there {w} t = subst₂ (λ (x y : ℕ). RecordJoins (at lefts) (at rights) x y w) (sym (put-at (at nexts) top f.next)) H.region t

    there-to : (v : ℕ) → First K (at lefts) (at rights) (f.next + 1) f.region v
        → First K (at lefts) (at rights) (nx top + 1) (at stack top) (put (at nexts) top v top)
    there-to v n =
        subst (λ (x : ℕ). First K (at lefts) (at rights) (nx top + 1) (at stack top) x) (sym (put-at (at nexts) top v))
        (subst₂ (λ (x y : ℕ). First K (at lefts) (at rights) (x + 1) y v) (sym (put-at (at nexts) top f.next)) H.region n)

    -- the record is the frame's entry
    pub skipped : (g : Frame) → g.region ≡ f.region → g.parent ≡ f.parent → First K (at lefts) (at rights) (f.next + 1) f.region g.next
        → g.low ≡ f.low →
        f.next < K → f.next ≡ f.parent → Hand K owners lefts rights disc stack parents nexts lows marks r top time g
    skipped g a b c d k e = record {
      walk =
          scan-parent K (at lefts) (at rights) H.walk (put (at nexts) top g.next) (put (at lows) top g.low) (there-to g.next c)
          (λ m h. reputting (at nexts) top f.next g.next m h) (λ m h. reputting (at lows) top f.low g.low m h)
          (put-at (at lows) top g.low ∙ d ∙ sym (put-at (at lows) top f.low))
          (omega (arith, put-at (at nexts) top f.next)) (put-at (at nexts) top f.next ∙ e ∙ H.parent);
      region = a ∙ H.region;
      parent = b ∙ H.parent;
      touching = λ l. subst (λ (x : ℕ). RecordTouches (at lefts) (at rights) g.next x) (sym a) (c.touches l);
    }

    -- the record leads to a region that was found
    pub seen : (g : Frame) (w : ℕ) → g.region ≡ f.region → g.parent ≡ f.parent → First K (at lefts) (at rights) (f.next + 1) f.region g.next
        → g.low ≡ min f.low (at disc w) →
        f.next < K → RecordJoins (at lefts) (at rights) f.next f.region w → (f.next ≡ f.parent → ⊥) → (at disc w ≡ 0 → ⊥) →
        Hand K owners lefts rights disc stack parents nexts lows marks r top time g
    seen g w a b c d k t o p = record {
      walk =
          scan-seen K (at lefts) (at rights) H.walk (put (at nexts) top g.next) (put (at lows) top g.low) (there-to g.next c)
          (λ m h. reputting (at nexts) top f.next g.next m h) (λ m h. reputting (at lows) top f.low g.low m h) w
          (omega (arith, put-at (at nexts) top f.next))
          (λ e. o (sym (put-at (at nexts) top f.next) ∙ e ∙ sym H.parent)) (there t) (omega arith)
          (put-at (at lows) top g.low ∙ d ∙ ap (λ (x : ℕ). min x (at disc w)) (sym (put-at (at lows) top f.low)));
      region = a ∙ H.region;
      parent = b ∙ H.parent;
      touching = λ l. subst (λ (x : ℕ). RecordTouches (at lefts) (at rights) g.next x) (sym a) (c.touches l);
    }
