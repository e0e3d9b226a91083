-- Joining the edges of one byte, and of the bytes one after another.
use mathlib.Core.Path.{◌≡◌, refl, sym, ◌∙◌, ap, subst}
use mathlib.Core.Logic.{by_cases}
use mathlib.Core.Bool.{Bool, true, false}
use mathlib.Core.List.{List}
use Prim.Native.Nat.{ℕ, zero, suc, ◌+◌, ◌*◌, ◌-◌, ◌/◌, ◌%◌, ◌≤◌, ◌<◌}
use native.Mathlib.Omega.{arith}
use native.Mathlib.Numerals.{add-one}
use native.Mathlib.Decide.{ℕ_discrete}
use lib.Dec.{eqb}
use lib.ListN.{length, get_or}
use lib.Seq.{get_or-drop}
use Rattle.wire.specs.Bytes.{part}
use Rattle.wire.proofs.Parts.{part_at, length_part}
use Rattle.areas.specs.Open.{later, bit_at}
use Rattle.areas.specs.Words.{word}
use Rattle.areas_components.specs.Forests.{Usable, Forest, Kept}
use Rattle.areas_components.specs.Joining.{added_from, joined_to, Joined, StepsWithin, WordsReady, JoinedFrom, Joining, Joinable, JoinedAll}
use Rattle.areas_components.proofs.WordLaws.{kept-none, kept_trans}
use Rattle.areas_components.proofs.ForestLaws.{forest-same}
use Rattle.areas_components.proofs.EdgeLaws.{joined-members}

pub joined-on : {on : Bool} {i j : ℕ} {s w : List ℕ} → on ≡ true → Joined true i j s w → Joined on i j s w
joined-on {i = i} {j = j} {s = s} {w = w} e h = subst (λ (b : Bool). Joined b i j s w) (sym e) h

pub joined-off : {on : Bool} {i j : ℕ} {s w : List ℕ} → on ≡ false → Joined false i j s w → Joined on i j s w
joined-off {i = i} {j = j} {s = s} {w = w} e h = subst (λ (b : Bool). Joined b i j s w) (sym e) h

-- the bits and the cells as the code has them
pub first_bit : (b : ℕ) → eqb (b % 2) 1 ≡ bit_at b 0
first_bit b = ap (λ (x : ℕ). eqb (x % 2) 1) (let z : b ≡ b / 1 = omega arith in z)

pub to-right : (width i : ℕ) → i + 1 ≡ i + later width 0
unfolding later
to-right width i = refl

pub to-left : (width i : ℕ) → 0 < width → i + width - 1 ≡ i + later width 1
unfolding later
to-left width i l = omega arith

pub to_below : (width i : ℕ) → i + width ≡ i + later width 2
unfolding later
to_below width i = omega arith

pub to_last : (width i : ℕ) → i + width + 1 ≡ i + later width 3
unfolding later
to_last width i = omega arith

module _ (width b i : ℕ) where
  -- what a join asks
  pub asked : {s w : List ℕ} → WordsReady width b i s → ((m : ℕ) → Usable m s → Usable m w) → (k : ℕ) → k < 4 → {on : Bool} {j : ℕ} → on ≡ bit_at b k
      → j ≡ i + later width k →
      Usable i w × (on ≡ true → Usable j w)
  asked {w = w} r u k l e f = (u i r.here, λ h. subst (λ (x : ℕ). Usable x w) (sym f) (u (i + later width k) (r.there k l (sym e ∙ h))))

  -- and what it gives
  pub as-bit : {s w : List ℕ} (k : ℕ) {on : Bool} {j : ℕ} → on ≡ bit_at b k → j ≡ i + later width k → Joined on i j s w
      → Joined (bit_at b k) i (i + later width k) s w
  as-bit {s} {w} k {j = j} e f h = subst (λ (x : ℕ). Joined (bit_at b k) i x s w) f (subst (λ (x : Bool). Joined x i j s w) e h)

  pub joined-from : {s t u v w : List ℕ} → Joined (bit_at b 0) i (i + later width 0) s t → Joined (bit_at b 1) i (i + later width 1) t u →
      Joined (bit_at b 2) i (i + later width 2) u v → Joined (bit_at b 3) i (i + later width 3) v w → JoinedFrom width b i s w
  unfolding added_from
  joined-from j0 j1 j2 j3 = record {
    usable = λ m h. j3.usable m (j2.usable m (j1.usable m (j0.usable m h)));
    kept = λ n h.
        kept_trans n (j0.kept n h.here (h.there 0 (omega arith))) (kept_trans n (j1.kept n h.here (h.there 1 (omega arith)))
        (kept_trans n (j2.kept n h.here (h.there 2 (omega arith))) (j3.kept n h.here (h.there 3 (omega arith)))));
    forest = λ n es h f.
        j3.forest n _ h.here (h.there 3 (omega arith)) (j2.forest n _ h.here (h.there 2 (omega arith))
        (j1.forest n _ h.here (h.there 1 (omega arith)) (j0.forest n es h.here (h.there 0 (omega arith)) f)));
  }

-- a byte without bits names nothing
pub joined-zero : (width b i : ℕ) (s : List ℕ) → b ≡ 0 → JoinedFrom width b i s s
unfolding added_from
joined-zero width b i s e = subst (λ (x : ℕ). JoinedFrom width x i s s) (sym e)
    (record { usable = λ m u. u; kept = λ n h. kept-none n s; forest = λ n es h f. f })

-- what stands past the words is as it was
pub kept_at : {n : ℕ} {s w : List ℕ} → Kept n s w → (k : ℕ) → 4 * n ≤ k → get_or w k 0 ≡ get_or s k 0
kept_at {n} {s} {w} h k l =
    let e : 4 * n + (k - 4 * n) ≡ k = omega arith in
    ap (λ (x : ℕ). get_or w x 0) (sym e) ∙ (sym (get_or-drop (4 * n) w (k - 4 * n) 0) ∙ (ap (λ (x : List ℕ). get_or x (k - 4 * n) 0) h.rest
    ∙ (get_or-drop (4 * n) s (k - 4 * n) 0 ∙ ap (λ (x : ℕ). get_or s x 0) e)))

-- nothing is joined yet
pub joining-start : {n width base : ℕ} {s : List ℕ} → Joinable n width base s → Joining n width base 0 s s
unfolding joined_to
joining-start {n} {s = s} g = record { below = omega arith; kept = kept-none n s; usable = g.usable; forest = λ es f. f }

-- what can be joined can be after some joins
pub joinable-kept : {n width base : ℕ} {s w : List ℕ} → Joinable n width base s → Kept n s w → ((m : ℕ) → m < n → Usable m w) → Joinable n width base w
joinable-kept {n} {width} {base} {s} {w} g k u = record {
  some = g.some;
  narrow = g.narrow;
  few = g.few;
  apart = g.apart;
  room = omega (arith, g.room, k.size);
  usable = u;
  within = λ i l. subst (λ (x : ℕ). StepsWithin n width x i) (sym (kept_at k (base + i) (omega (arith, g.apart)))) (g.within i l);
}

module _ {n width base i : ℕ} {w : List ℕ} (g : Joinable n width base w) (l : i < n) where
  pub joinable-ready : WordsReady width (get_or w (base + i) 0) i w
  joinable-ready = record { here = g.usable i l; there = λ k m e. g.usable (i + later width k) ((g.within i l).there k m e) }

  -- one more byte
  pub joining-next : {s v : List ℕ} → JoinedFrom width (get_or w (base + i) 0) i w v → Joining n width base i s w → Joining n width base (i + 1) s v
  unfolding joined_to
  joining-next {s} {v} j h = record {
    below = omega arith;
    kept = kept_trans n h.kept (j.kept n (g.within i l));
    usable = λ m k. j.usable m (g.usable m k);
    forest = λ es f.
        rw add-one (subst (λ (x : ℕ). Forest (added_from width x i (joined_to width (part s base n) es i)) n (word v)) byte
        (j.forest n (joined_to width (part s base n) es i) (g.within i l) (h.forest es f)));
  }
    where
      byte : get_or w (base + i) 0 ≡ get_or (part s base n) i 0
      byte = kept_at h.kept (base + i) (omega (arith, g.apart)) ∙ sym (part_at s base n i l)

-- bytes without bits
pub joining-skip : {n width base i : ℕ} {s w : List ℕ} (m : ℕ) → Joinable n width base w → i + m ≤ n → ((k : ℕ) → k < m → get_or w (base + i + k) 0 ≡ 0) →
    Joining n width base i s w → Joining n width base (i + m) s w
joining-skip {n} {width} {base} {i} {s} {w} zero g l z h = subst (λ (x : ℕ). Joining n width base x s w) (let e : i ≡ i + 0 = omega arith in e) h
joining-skip {n} {width} {base} {i} {s} {w} (suc m) g l z h =
    let before = joining-skip m g (omega arith) (λ k q. z k (omega arith)) h in
    let here : i + m < n = omega arith in
    let none : get_or w (base + (i + m)) 0 ≡ 0 = ap (λ (x : ℕ). get_or w x 0) (let e : base + (i + m) ≡ base + i + m = omega arith in e) ∙ z m (omega arith) in
    subst (λ (x : ℕ). Joining n width base x s w) (let e : i + m + 1 ≡ i + suc m = omega arith in e)
    (joining-next g here (joined-zero width (get_or w (base + (i + m)) 0) (i + m) w none) before)

pub joining-end : {n width base i : ℕ} {s w : List ℕ} → base + n ≤ length s → Joining n width base i s w → (i < n → ⊥) → JoinedAll n width (part s base n) s w
joining-end {n} {width} {base} {i} {s} {w} room h q = record {
  kept = h.kept;
  forest = λ es f.
      let e : i ≡ n = omega (arith, h.below) in
      forest-same (joined-members width (part s base n) es n (length_part s base n room))
      (subst (λ (x : ℕ). Forest (joined_to width (part s base n) es x) n (word w)) e (h.forest es f));
}

-- the bytes from `from` up to i are joined, of those up to `to`
pub record Partly (n width base from to i : ℕ) (s w : List ℕ) : Type 0 where
  pub below : i ≤ to
  pub kept : Kept n s w
  pub able : Joinable n width base w
  pub more : (r : List ℕ) → Joining n width base from r s → Joining n width base i r w

pub partly-start : {n width base from to : ℕ} {s : List ℕ} → Joinable n width base s → from ≤ to → Partly n width base from to from s s
partly-start {n} {s = s} g l = record { below = l; kept = kept-none n s; able = g; more = λ r h. h }

pub partly-next : {n width base from to i : ℕ} {s w v : List ℕ} → Partly n width base from to i s w → i < to → to ≤ n →
    JoinedFrom width (get_or w (base + i) 0) i w v → Partly n width base from to (i + 1) s v
partly-next {n} {i = i} h l m j =
    let g = h.able in
    let on : i < n = omega arith in
    let keeps = j.kept n (g.within i on) in
    record {
      below = omega arith;
      kept = kept_trans n h.kept keeps;
      able = joinable-kept g keeps (λ k q. j.usable k (g.usable k q));
      more = λ r k. joining-next g on j (h.more r k);
    }

pub partly-end : {n width base from to i : ℕ} {s w : List ℕ} → Partly n width base from to i s w → (i < to → ⊥) → (r : List ℕ) →
    Joining n width base from r s → Joining n width base to r w
partly-end {n} {width} {base} {to = to} {i = i} {w = w} h q r k =
    let e : i ≡ to = omega (arith, h.below) in subst (λ (x : ℕ). Joining n width base x r w) e (h.more r k)

-- the greatest of bytes is 0
pub most-next : (f : ℕ → ℕ) (k most r : ℕ) → ((j : ℕ) → j < k → f j ≤ most) → most ≤ r → f k ≤ r → (j : ℕ) → j < k + 1 → f j ≤ r
most-next f k most r h a b j l = by_cases (ℕ_discrete j k) (λ e. omega (arith, ap f e)) (λ d. omega (arith, h j (omega arith)))
