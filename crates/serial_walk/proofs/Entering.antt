-- A frame is entered: the first one, and one at a region that the last frame found.
use Prim.Native.Nat.{ℕ, ◌+◌, ◌≤◌, ◌<◌}
use native.Mathlib.Omega.{arith}
use native.Mathlib.Decide.{dec_lt, ℕ_discrete}
use mathlib.Core.Path.{◌≡◌, refl, sym, ◌∙◌, ap, subst, subst₂}
use mathlib.Core.Logic.{◌⊎◌, inl, inr, ⊎_elim, by_cases}
use mathlib.Core.List.{List}
use lib.ListN.{length, set, length-set}
use lib.Seq.{get_or-set_same, get_or-set_other}
use Rattle.lists.specs.Rows.{at}
use Rattle.serial_walk.proofs.Zeros.{Upd, zeros-pos}
use Rattle.serial_walk.specs.Walk.{RecordJoins, RecordTouches, First, Walk}
use Rattle.serial_walk.specs.Slices.{put, Sized, OwnerMarked, Between}
use Rattle.serial_walk.specs.declared.frame.Frame.{Frame}
use Rattle.serial_walk.proofs.Retell.{retell}
use Rattle.serial_walk.proofs.Pushes.{push}
use Rattle.serial_walk.proofs.Puts.{put-at, put-off, set-put}
use Rattle.serial_walk.proofs.Turn.{Loop, Hand, resized}

-- a frame at region w, entered over record j, goes on the stack; v is the first record that touches w
module _ (K : ℕ) {R : ℕ} (owners lefts rights disc stack parents marks : List ℕ) {nx lw : ℕ → ℕ} {r h time : ℕ}
    (W : Walk K (at lefts) (at rights) (length disc) r (OwnerMarked owners marks) (at disc) (at stack) (at parents) nx lw h time)
    (nexts lows : List ℕ) (Z : Sized R disc stack parents nexts lows) (hs : h < length disc) (el : (m : ℕ) → m < h → at lows m ≡ lw m) (w j v : ℕ)
    (fv : First K (at lefts) (at rights) 0 w v)
    (new : at disc w ≡ 0) (on : w < length disc) (first : h ≡ 0 → K ≤ j)
    (over : (m : ℕ) → m + 1 ≡ h → (j < K) × RecordJoins (at lefts) (at rights) j (at stack m) w)
    (adv : (m i : ℕ) → m < h → i < at nexts m → i < K → RecordTouches (at lefts) (at rights) i (at stack m) → (i < nx m) ⊎ ((m + 1 ≡ h) × (i ≡ j))) where
  abbrev st' : ℕ → ℕ
  st' = at (set stack h w)

  abbrev pr' : ℕ → ℕ
  pr' = at (set parents h j)

  sh : st' h ≡ w
  sh = get_or-set_same stack h w 0 (omega (arith, Z.stack-are, Z.disc-are))

  ph : pr' h ≡ j
  ph = get_or-set_same parents h j 0 (omega (arith, Z.parents-are, Z.disc-are))

  below : (l : List ℕ) (v m : ℕ) → m < h → at (set l h v) m ≡ at l m
  below l v m b = get_or-set_other l h m v 0 (λ e. omega arith)

  first' : h ≡ 0 → K ≤ pr' 0
  first' e = omega (arith, first e, ph, ap pr' (sym e))

  over' : (m : ℕ) → m + 1 ≡ h → (pr' h < K) × RecordJoins (at lefts) (at rights) (pr' h) (st' m) (st' h)
  over' m e =
      let t = over m e in (
        omega (arith, t.0, ph),
        subst (λ (x : ℕ). RecordJoins (at lefts) (at rights) x (st' m) (st' h)) (sym ph)
            (subst₂ (λ (x y : ℕ). RecordJoins (at lefts) (at rights) j x y) (sym (below stack w m (omega arith))) (sym sh) t.1),
      )

  adv' : (m i : ℕ) → m < h → i < at (set nexts h v) m → i < K → RecordTouches (at lefts) (at rights) i (st' m) → (i < nx m) ⊎ ((m + 1 ≡ h) × (i ≡ pr' h))
  adv' m i l q k t =
      ⊎_elim (λ a. inl a) (λ a. inr (a.0, a.1 ∙ sym ph))
      (adv m i l (omega (arith, below nexts v m l)) k (subst (λ (x : ℕ). RecordTouches (at lefts) (at rights) i x) (below stack w m l) t))

  nh : at (set nexts h v) h ≡ v
  nh = get_or-set_same nexts h v 0 (omega (arith, Z.nexts-are, Z.disc-are))

  start : First K (at lefts) (at rights) 0 (st' h) (at (set nexts h v) h)
  start = subst₂ (λ (x y : ℕ). First K (at lefts) (at rights) 0 x y) (sym sh) (sym nh) fv

  upd : Upd (at disc) (at (set disc w (time + 1))) (st' h) (time + 1)
  upd = subst (λ (x : ℕ). Upd (at disc) (at (set disc w (time + 1))) x (time + 1)) (sym sh)
      (record { at = get_or-set_same disc w (time + 1) 0 on; off = λ k e. get_or-set_other disc w k (time + 1) 0 e })

  pub entered : Walk K (at lefts) (at rights) (length (set disc w (time + 1))) r (OwnerMarked owners marks) (at (set disc w (time + 1))) (at (set stack h w))
      (at (set parents h j)) (at (set nexts h v)) (at (set lows h (time + 1))) (h + 1) (time + 1)
  entered =
      subst
      (λ (x : ℕ). Walk K (at lefts) (at rights) x r (OwnerMarked owners marks) (at (set disc w (time + 1))) (at (set stack h w)) (at (set parents h j))
      (at (set nexts h v)) (at (set lows h (time + 1))) (h + 1) (time + 1))
      (sym (length-set disc w (time + 1)))
      (push K (at lefts) (at rights)
      (retell W st' pr' nx (at (set lows h (time + 1))) (λ m l. below stack w m l) (λ m l. below parents j m l) (λ m l. refl)
      (λ m l. below lows (time + 1) m l ∙ el m l))
      (at (set disc w (time + 1))) (at (set nexts h v)) (ap (at disc) sh ∙ new) (omega (arith, sh)) upd first' over'
      start (get_or-set_same lows h (time + 1) 0 (omega (arith, Z.lows-are, Z.disc-are))) adv')

  -- the frames' next records touch their regions
  pub touched : ((m : ℕ) → m < h → at nexts m < K → RecordTouches (at lefts) (at rights) (at nexts m) (at stack m)) → (m : ℕ) → m < h + 1
      → at (set nexts h v) m < K →
      RecordTouches (at lefts) (at rights) (at (set nexts h v) m) (at (set stack h w) m)
  touched old m l k =
      by_cases (ℕ_discrete m h)
      (λ e.
      subst₂ (λ (x y : ℕ). RecordTouches (at lefts) (at rights) x y) (sym (ap (at (set nexts h v)) e ∙ nh)) (sym (ap st' e ∙ sh))
      (fv.touches (omega (arith, ap (at (set nexts h v)) e ∙ nh))))
      (λ e.
      subst₂ (λ (x y : ℕ). RecordTouches (at lefts) (at rights) x y) (sym (below nexts v m (omega arith))) (sym (below stack w m (omega arith)))
      (old m (omega arith) (omega (arith, below nexts v m (omega arith)))))

-- the first frame
pub rooted : {K R : ℕ} {owners lefts rights disc stack parents nexts lows marks : List ℕ} {r time : ℕ}
    → Between K R owners lefts rights disc stack parents nexts lows marks r time →
    (root v : ℕ) → root < length disc → at disc root ≡ 0 → root ≡ at lefts r → First K (at lefts) (at rights) 0 root v →
    Loop K R owners lefts rights (set disc root (time + 1)) (set stack 0 root) (set parents 0 K) (set nexts 0 v) (set lows 0 (time + 1)) marks r 1 (time + 1)
rooted {K} {R} {owners} {lefts} {rights} {disc} {stack} {parents} {nexts} {lows} {marks} {r} {time} B root v on new is fv = record {
  graph = B.graph;
  sized = resized _ _ _ _ _ _ _ _ _ _ B.sized (simp length-set) (simp length-set) (simp length-set) (simp length-set) (simp length-set);
  owners-are = B.owners-are;
  marks-are = B.marks-are;
  marked = B.marked;
  walk =
      entered K owners lefts rights disc stack parents marks B.walk nexts lows B.sized (omega arith) (λ m l. refl) root K v fv new on (λ e. omega arith)
      (λ m e. absurd (omega arith))
      (λ m i l q k t. absurd (omega arith));
  sound = B.sound;
  begun = omega (arith, ap (at (set disc root (time + 1))) is, get_or-set_same disc root (time + 1) 0 on);
  touching =
      touched K owners lefts rights disc stack parents marks B.walk nexts lows B.sized (omega arith) (λ m l. refl) root K v fv new on (λ e. omega arith)
      (λ m e. absurd (omega arith))
      (λ m i l q k t. absurd (omega arith)) (λ m l. absurd (omega arith));
}

-- the last frame finds a region, and another frame is entered there
pub found : {K R : ℕ} {owners lefts rights disc stack parents nexts lows marks : List ℕ} {r top time : ℕ} (f g : Frame) (w v : ℕ) →
    Loop K R owners lefts rights disc stack parents nexts lows marks r (top + 1) time
    → Hand K owners lefts rights disc stack parents nexts lows marks r top time f →
    f.next < K → RecordJoins (at lefts) (at rights) f.next f.region w → w < length disc → at disc w ≡ 0 →
    First K (at lefts) (at rights) (f.next + 1) f.region g.next → g.low ≡ f.low → First K (at lefts) (at rights) 0 w v →
    Loop K R owners lefts rights (set disc w (time + 1)) (set stack (top + 1) w) (set parents (top + 1) f.next) (set (set nexts top g.next) (top + 1) v)
    (set (set lows top g.low) (top + 1) (time + 1)) marks r (top + 1 + 1) (time + 1)
found {K} {R} {owners} {lefts} {rights} {disc} {stack} {parents} {nexts} {lows} {marks} {r} {top} {time} f g w v L H k t on new gn gl fv = record {
  graph = L.graph;
  sized = resized _ _ _ _ _ _ _ _ _ _ L.sized (simp length-set) (simp length-set) (simp length-set) (simp length-set) (simp length-set);
  owners-are = L.owners-are;
  marks-are = L.marks-are;
  marked = L.marked;
  walk =
      entered K owners lefts rights disc stack parents marks H.walk (set nexts top g.next) (set lows top g.low) Z roomy
      lows-agree w f.next v fv new on (λ e. absurd (omega arith)) over adv;
  sound = L.sound;
  begun = still;
  touching =
      touched K owners lefts rights disc stack parents marks H.walk (set nexts top g.next) (set lows top g.low) Z roomy
      lows-agree w f.next v fv new on (λ e. absurd (omega arith)) over adv touch;
}
  where
    Z : Sized R disc stack parents (set nexts top g.next) (set lows top g.low)
    Z = resized _ _ _ _ _ _ _ _ _ _ L.sized refl refl refl (simp length-set) (simp length-set)

    -- a frame for each region found, and w is not
    roomy : top + 1 < length disc
    roomy = omega (arith, H.walk.room, zeros-pos (at disc) w (length disc) on new)

    lin : top < length lows
    lin = omega (arith, L.sized.lows-are, L.sized.disc-are, roomy)

    lows-agree : (m : ℕ) → m < top + 1 → at (set lows top g.low) m ≡ put (at lows) top f.low m
    lows-agree m l = set-put lows top g.low lin m ∙ ap (λ (v : ℕ). put (at lows) top v m) gl

    nt : at (set nexts top g.next) top ≡ g.next
    nt = get_or-set_same nexts top g.next 0 (omega (arith, L.sized.nexts-are, L.sized.disc-are, roomy))

    over : (m : ℕ) → m + 1 ≡ top + 1 → (f.next < K) × RecordJoins (at lefts) (at rights) f.next (at stack m) w
    over m e =
        (k, subst (λ (x : ℕ). RecordJoins (at lefts) (at rights) f.next x w) (H.region ∙ ap (at stack) (let z : top ≡ m = omega arith in z)) t)

    adv : (m i : ℕ) → m < top + 1 → i < at (set nexts top g.next) m → i < K → RecordTouches (at lefts) (at rights) i (at stack m) →
        (i < put (at nexts) top f.next m) ⊎ ((m + 1 ≡ top + 1) × (i ≡ f.next))
    adv m i l q b z =
        by_cases (ℕ_discrete m top) (λ e. last e) (λ e. inl (omega (arith, get_or-set_other nexts top m g.next 0 e, put-off (at nexts) top f.next m e)))
      where
        last : m ≡ top → (i < put (at nexts) top f.next m) ⊎ ((m + 1 ≡ top + 1) × (i ≡ f.next))
        last e =
            let a : at (set nexts top g.next) m ≡ g.next = ap (at (set nexts top g.next)) e ∙ nt in
            let c : put (at nexts) top f.next m ≡ f.next = ap (put (at nexts) top f.next) e ∙ put-at (at nexts) top f.next in
            by_cases (ℕ_discrete i f.next) (λ y. inr (omega arith, y)) λ y.
            by_cases (dec_lt i f.next) (λ x. inl (omega arith)) λ x.
            absurd (gn.between i (omega arith) (omega arith) b
            (subst (λ (x : ℕ). RecordTouches (at lefts) (at rights) i x) (ap (at stack) e ∙ sym H.region) z))

    touch : (m : ℕ) → m < top + 1 → at (set nexts top g.next) m < K → RecordTouches (at lefts) (at rights) (at (set nexts top g.next) m) (at stack m)
    touch m l b =
        by_cases (ℕ_discrete m top)
        (λ e.
        let a : at (set nexts top g.next) m ≡ g.next = ap (at (set nexts top g.next)) e ∙ nt in
        subst₂ (λ (x y : ℕ). RecordTouches (at lefts) (at rights) x y) (sym a) (H.region ∙ sym (ap (at stack) e)) (gn.touches (omega arith)))
        (λ e.
        let a : at (set nexts top g.next) m ≡ at nexts m = get_or-set_other nexts top m g.next 0 e in
        subst (λ (x : ℕ). RecordTouches (at lefts) (at rights) x (at stack m)) (sym a) (L.touching m l (omega arith)))

    still : 0 < at (set disc w (time + 1)) (at lefts r)
    still =
        by_cases (ℕ_discrete (at lefts r) w) (λ e. absurd (omega (arith, L.begun, ap (at disc) e)))
        (λ e. omega (arith, L.begun, get_or-set_other disc w (at lefts r) (time + 1) 0 e))
