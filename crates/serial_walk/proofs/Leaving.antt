-- The last frame is left: the mark of its entry, and the walk without it.
use Prim.Native.Nat.{ℕ, ◌+◌, ◌≤◌, ◌<◌, min}
use native.Mathlib.Omega.{arith}
use native.Mathlib.Decide.{dec_lt, ℕ_discrete}
use mathlib.Core.Path.{◌≡◌, refl, sym, ◌∙◌, ap, subst}
use mathlib.Core.Logic.{inl, inr, ⊎_elim, by_cases}
use mathlib.Core.Bool.{Bool, cond}
use mathlib.Core.List.{List}
use lib.ListN.{length, set, length-set}
use lib.Seq.{get_or-set_same, get_or-set_other}
use borrow.Author.Tests.{lt-ltb, le-ltb}
use Rattle.lists.specs.Rows.{at}
use Rattle.serial_walk.specs.Walk.{Parted, Walk}
use Rattle.serial_walk.specs.Slices.{put, MarksSound, OwnerMarked, Stacked, marking}
use Rattle.serial_walk.specs.declared.frame.Frame.{Frame}
use Rattle.serial_walk.proofs.Retell.{retell}
use Rattle.serial_walk.proofs.Pops.{is-bridge, not-bridge, pop, pop-root}
use Rattle.serial_walk.proofs.Puts.{put-at, put-off, putting}
use Rattle.serial_walk.proofs.Turn.{Loop, Hand, resized}

-- the mark that a frame's end leaves
pub mark_set : (d low : ℕ) (marks : List ℕ) (b : ℕ) → d < low → set marks b 1 ≡ marking d low marks b
mark_set d low marks b l = sym (ap (λ (t : Bool). cond t (set marks b 1) marks) (lt-ltb d low l))

pub mark-kept : (d low : ℕ) (marks : List ℕ) (b : ℕ) → low ≤ d → marks ≡ marking d low marks b
mark-kept d low marks b l = sym (ap (λ (t : Bool). cond t (set marks b 1) marks) (le-ltb d low l))

-- marks grow, and the mark that is set is right
module _ (owners marks : List ℕ) (k d low : ℕ) (on : at owners k < length marks) where
  yes-case : d < low → marking d low marks (at owners k) ≡ set marks (at owners k) 1
  yes-case l = sym (mark_set d low marks (at owners k) l)

  no-case : (d < low → ⊥) → marking d low marks (at owners k) ≡ marks
  no-case l = sym (mark-kept d low marks (at owners k) (omega arith))

  set_more : (j : ℕ) → OwnerMarked owners marks j → OwnerMarked owners (set marks (at owners k) 1) j
  set_more j t =
      by_cases (ℕ_discrete (at owners j) (at owners k))
      (λ e. ap (at (set marks (at owners k) 1)) e ∙ get_or-set_same marks (at owners k) 1 0 on)
      (λ e. get_or-set_other marks (at owners k) (at owners j) 1 0 e ∙ t)

  pub marks-more : (j : ℕ) → OwnerMarked owners marks j → OwnerMarked owners (marking d low marks (at owners k)) j
  marks-more j t =
      by_cases (dec_lt d low) (λ l. subst (λ (x : List ℕ). OwnerMarked owners x j) (sym (yes-case l)) (set_more j t))
      (λ l. subst (λ (x : List ℕ). OwnerMarked owners x j) (sym (no-case l)) t)

  pub marks-told : (P : Type 0) → (low ≤ d → P → ⊥) → P → OwnerMarked owners (marking d low marks (at owners k)) k
  marks-told P h p =
      by_cases (dec_lt d low) (λ l. subst (λ (x : List ℕ). OwnerMarked owners x k) (sym (yes-case l)) (get_or-set_same marks (at owners k) 1 0 on))
      (λ l. absurd (h (omega arith) p))

  pub marks-sound : (K : ℕ) (lefts rights : List ℕ) → MarksSound K owners lefts rights marks → k < K →
      (d < low → Parted K (at lefts) (at rights) k) → MarksSound K owners lefts rights (marking d low marks (at owners k))
  marks-sound K lefts rights S i p =
      by_cases (dec_lt d low) (λ l. subst (λ (x : List ℕ). MarksSound K owners lefts rights x) (sym (yes-case l)) (one_more l))
      (λ l. subst (λ (x : List ℕ). MarksSound K owners lefts rights x) (sym (no-case l)) S)
    where
      one_more : d < low → MarksSound K owners lefts rights (set marks (at owners k) 1)
      one_more l b a =
          by_cases (ℕ_discrete b (at owners k))
          (λ e.
          inr (
            ap (at (set marks (at owners k) 1)) e ∙ get_or-set_same marks (at owners k) 1 0 on,
            record { place = k; inside = i; owned = sym e; parted = p l },
          ))
          (λ e.
          ⊎_elim (λ z. inl (get_or-set_other marks (at owners k) b 1 0 e ∙ z)) (λ z. inr (get_or-set_other marks (at owners k) b 1 0 e ∙ z.0, z.1))
          (S b (omega (arith, length-set marks (at owners k) 1))))

  pub marks-length : length (marking d low marks (at owners k)) ≡ length marks
  marks-length = by_cases (dec_lt d low) (λ l. ap length (yes-case l) ∙ length-set marks (at owners k) 1) (λ l. ap length (no-case l))

-- the last frame is done, and is left for the one below it
pub left : {K R : ℕ} {owners lefts rights disc stack parents nexts lows marks : List ℕ} {r top time : ℕ} (f : Frame) (up : ℕ) →
    Loop K R owners lefts rights disc stack parents nexts lows marks r (top + 1) time
    → Hand K owners lefts rights disc stack parents nexts lows marks r top time f →
    K ≤ f.next → top ≡ up + 1 →
    Loop K R owners lefts rights disc stack parents nexts (set lows up (min (at lows up) f.low))
    (marking (at disc (at stack up)) f.low marks (at owners f.parent)) r top time
left {K} {R} {owners} {lefts} {rights} {disc} {stack} {parents} {nexts} {lows} {marks} {r} {top} {time} f up L H all e = record {
  graph = L.graph;
  sized = resized _ _ _ _ _ _ _ _ _ _ L.sized refl refl refl refl (simp length-set);
  owners-are = L.owners-are;
  marks-are = marks-length owners marks f.parent (at disc (at stack up)) f.low pin ∙ L.marks-are;
  marked = L.marked;
  walk = subst (λ (x : ℕ). Stacked K owners lefts rights r disc stack parents nexts lows' marks' x time) (sym e) done;
  sound = marks-sound owners marks f.parent (at disc (at stack up)) f.low pin K lefts rights L.sound pk
      (λ l. subst B (sym pe) (is-bridge K lf rt W alln (omega (arith, lt))));
  begun = L.begun;
  touching = λ m l. L.touching m (omega arith);
}
  where
    lf : ℕ → ℕ
    lf = at lefts

    rt : ℕ → ℕ
    rt = at rights

    B : ℕ → Type 0
    B = Parted K lf rt

    lows' : List ℕ
    lows' = set lows up (min (at lows up) f.low)

    marks' : List ℕ
    marks' = marking (at disc (at stack up)) f.low marks (at owners f.parent)

    nx : ℕ → ℕ
    nx = put (at nexts) top f.next

    lw : ℕ → ℕ
    lw = put (at lows) top f.low

    h : top + 1 ≡ up + 2
    h = omega arith

    W : Walk K lf rt (length disc) r (OwnerMarked owners marks) (at disc) (at stack) (at parents) nx lw (up + 2) time
    W = subst (λ (x : ℕ). Walk K lf rt (length disc) r (OwnerMarked owners marks) (at disc) (at stack) (at parents) nx lw x time) h H.walk

    pe : f.parent ≡ at parents (up + 1)
    pe = H.parent ∙ ap (at parents) e

    pk : f.parent < K
    pk = omega (arith, pe, (W.tree up (omega arith)).0)

    pin : at owners f.parent < length marks
    pin = omega (arith, L.marked f.parent pk, L.marks-are)

    nt : nx (up + 1) ≡ f.next
    nt = ap nx (sym e) ∙ put-at (at nexts) top f.next

    alln : K ≤ nx (up + 1)
    alln = omega (arith, nt)

    lt : lw (up + 1) ≡ f.low
    lt = ap lw (sym e) ∙ put-at (at lows) top f.low

    lu : lw up ≡ at lows up
    lu = put-off (at lows) top f.low up (λ z. omega arith)

    lw' : ℕ → ℕ
    lw' = put lw up (min (lw up) (lw (up + 1)))

    tells : B (at parents (up + 1)) → OwnerMarked owners marks' (at parents (up + 1))
    tells b =
        subst (λ (x : ℕ). OwnerMarked owners marks' x) pe
        (marks-told owners marks f.parent (at disc (at stack up)) f.low pin (B (at parents (up + 1))) (λ l. not-bridge K lf rt W (omega (arith, lt))) b)

    popped : Walk K lf rt (length disc) r (OwnerMarked owners marks') (at disc) (at stack) (at parents) nx lw' (up + 1) time
    popped =
        pop K lf rt W alln lw' (putting lw up (min (lw up) (lw (up + 1)))) (λ j t. marks-more owners marks f.parent (at disc (at stack up)) f.low pin j t)
        tells

    lin : up < length lows
    lin = omega (arith, L.sized.lows-are, L.sized.disc-are, W.room)

    done : Stacked K owners lefts rights r disc stack parents nexts lows' marks' (up + 1) time
    done =
        retell popped (at stack) (at parents) (at nexts) (at lows') (λ m l. refl) (λ m l. refl)
        (λ m l. sym (put-off (at nexts) top f.next m (λ z. omega arith))) (λ m l. agree m l)
      where
        agree : (m : ℕ) → m < up + 1 → at lows' m ≡ lw' m
        agree m l =
            by_cases (ℕ_discrete m up)
            (λ z.
            ap (at lows') z ∙ get_or-set_same lows up (min (at lows up) f.low) 0 lin ∙ omega (arith, lt, lu)
            ∙ sym (ap lw' z ∙ put-at lw up (min (lw up) (lw (up + 1)))))
            (λ z.
            get_or-set_other lows up m (min (at lows up) f.low) 0 z ∙ sym (put-off (at lows) top f.low m (λ q. omega arith)) ∙
            sym (put-off lw up (min (lw up) (lw (up + 1))) m z))

-- the first frame is done
pub emptied : {K R : ℕ} {owners lefts rights disc stack parents nexts lows marks : List ℕ} {r top time : ℕ} (f : Frame) →
    Loop K R owners lefts rights disc stack parents nexts lows marks r (top + 1) time
    → Hand K owners lefts rights disc stack parents nexts lows marks r top time f →
    K ≤ f.next → top ≡ 0 → Loop K R owners lefts rights disc stack parents nexts lows marks r 0 time
emptied {K} {R} {owners} {lefts} {rights} {disc} {stack} {parents} {nexts} {lows} {marks} {r} {top} {time} f L H all e = record {
  graph = L.graph;
  sized = L.sized;
  owners-are = L.owners-are;
  marks-are = L.marks-are;
  marked = L.marked;
  walk =
      retell (pop-root K (at lefts) (at rights) W (omega (arith, ap nx (sym e) ∙ put-at (at nexts) top f.next))) (at stack) (at parents) (at nexts) (at lows)
      (λ m l. absurd (omega arith)) (λ m l. absurd (omega arith)) (λ m l. absurd (omega arith)) (λ m l. absurd (omega arith));
  sound = L.sound;
  begun = L.begun;
  touching = λ m l. absurd (omega arith);
}
  where
    nx : ℕ → ℕ
    nx = put (at nexts) top f.next

    W : Walk K (at lefts) (at rights) (length disc) r (OwnerMarked owners marks) (at disc) (at stack) (at parents) nx (put (at lows) top f.low) 1 time
    W =
        subst (λ (x : ℕ). Walk K (at lefts) (at rights) (length disc) r (OwnerMarked owners marks) (at disc) (at stack) (at parents) nx
        (put (at lows) top f.low) x
        time)
        (let z : top + 1 ≡ 1 = omega arith in z) H.walk
