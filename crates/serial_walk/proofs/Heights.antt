-- The turns by the stack's height, and the room that it leaves.
use Prim.Native.Nat.{ℕ, ◌+◌, ◌-◌, ◌≤◌, ◌<◌, min}
use native.Mathlib.Omega.{arith}
use mathlib.Core.Path.{◌≡◌, sym, ◌∙◌, ap, subst, subst₂}
use mathlib.Core.List.{List}
use lib.ListN.{length, set, length-set}
use lib.Seq.{get_or-set_same, get_or-set_other}
use Rattle.lists.specs.Rows.{at}
use Rattle.serial_walk.proofs.Zeros.{zeros-pos, zeros-upd}
use Rattle.serial_walk.specs.Walk.{zero_count, First}
use Rattle.serial_walk.specs.Slices.{marking}
use Rattle.serial_walk.specs.declared.frame.Frame.{Frame}
use Rattle.serial_walk.proofs.Turn.{Loop, Hand, Stop}
use Rattle.serial_walk.proofs.Entering.{found}
use Rattle.serial_walk.proofs.Leaving.{left, emptied}

module _ {K R : ℕ} {owners lefts rights disc stack parents nexts lows marks : List ℕ} {r h time : ℕ}
    (L : Loop K R owners lefts rights disc stack parents nexts lows marks r h time) where
  pub high : h ≤ R
  high = omega (arith, L.walk.room, L.sized.disc-are)

  pub unrolled : 0 < h → Loop K R owners lefts rights disc stack parents nexts lows marks r (h - 1 + 1) time
  unrolled l = subst (λ (x : ℕ). Loop K R owners lefts rights disc stack parents nexts lows marks r x time) (let z : h ≡ h - 1 + 1 = omega arith in z) L

  pub roomy : (w : ℕ) → w < R → at disc w ≡ 0 → h < R
  roomy w on new = omega (arith, L.walk.room, L.sized.disc-are, zeros-pos (at disc) w (length disc) (omega (arith, L.sized.disc-are)) new)

  pub timely : time ≤ 8192
  timely = omega (arith, L.walk.count, L.sized.disc-are, L.graph.near)

  pub falls : (w v : ℕ) → w < R → at disc w ≡ 0 → 0 < v → zero_count (at (set disc w v)) (length (set disc w v)) + 1 ≡ zero_count (at disc) (length disc)
  falls w v in-range new p =
      let on : w < length disc = omega (arith, L.sized.disc-are) in
      ap (λ (x : ℕ). zero_count (at (set disc w v)) x + 1) (length-set disc w v) ∙
      zeros-upd (at disc) (at (set disc w v)) w v (length disc)
      (record { at = get_or-set_same disc w v 0 on; off = λ k e. get_or-set_other disc w k v 0 e }) on new p

  -- the frame in hand finds a region
  pub found_at : (f g : Frame) (w j v : ℕ) → 0 < h → Hand K owners lefts rights disc stack parents nexts lows marks r (h - 1) time f
      → Stop K R lefts rights disc f w j → j < K →
      First K (at lefts) (at rights) (f.next + 1) f.region g.next → g.low ≡ f.low → First K (at lefts) (at rights) 0 w v →
      Loop K R owners lefts rights (set disc w (time + 1)) (set stack h w) (set parents h j) (set (set nexts (h - 1) g.next) h v)
      (set (set lows (h - 1) g.low) h (time + 1)) marks
      r (h + 1) (time + 1)
  found_at f g w j v l H S k gn gl fv =
      subst₂
      (λ (x y : ℕ). Loop K R owners lefts rights (set disc w (time + 1)) (set stack x w) (set parents x y) (set (set nexts (h - 1) g.next) x v)
      (set (set lows (h - 1) g.low) x (time + 1)) marks r (x + 1) (time + 1))
      (let z : h - 1 + 1 ≡ h = omega arith in z)
      (sym (S.is k))
      (found f g w v (unrolled l) H (omega (arith, S.is k)) (S.joins k) (omega (arith, S.within k, L.sized.disc-are)) (S.new k) gn gl fv)

  pub leaving : (f : Frame) → 0 < h → (h - 1 ≡ 0 → ⊥) → Hand K owners lefts rights disc stack parents nexts lows marks r (h - 1) time f →
      (h - 1 - 1 < length stack) × (at stack (h - 1 - 1) < length disc) × (h - 1 - 1 < length lows) × (f.parent < length owners)
      × (at owners f.parent < 256)
  leaving f l t H =
      let e : h - 1 - 1 + 1 ≡ h - 1 = omega arith in
      let p : f.parent < K = omega (arith, H.parent, ap (at parents) e, (L.walk.tree (h - 1 - 1) (omega arith)).0) in (
        omega (arith, high, L.sized.stack-are),
        L.walk.inside (h - 1 - 1) (omega arith),
        omega (arith, high, L.sized.lows-are),
        omega (arith, L.owners-are),
        L.marked f.parent p,
      )

  pub left_at : (f : Frame) → 0 < h → (h - 1 ≡ 0 → ⊥) → Hand K owners lefts rights disc stack parents nexts lows marks r (h - 1) time f → K ≤ f.next →
      Loop K R owners lefts rights disc stack parents nexts (set lows (h - 1 - 1) (min (at lows (h - 1 - 1)) f.low))
      (marking (at disc (at stack (h - 1 - 1))) f.low marks (at owners f.parent)) r (h - 1) time
  left_at f l t H a = left f (h - 1 - 1) (unrolled l) H a (omega arith)

  pub emptied-at : (f : Frame) → 0 < h → h - 1 ≡ 0 → Hand K owners lefts rights disc stack parents nexts lows marks r (h - 1) time f → K ≤ f.next →
      Loop K R owners lefts rights disc stack parents nexts lows marks r 0 time
  emptied-at f l t H a = emptied f (unrolled l) H a t
