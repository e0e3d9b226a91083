-- Bytes written one after another, and the list that they make.
use mathlib.Core.Path.{◌≡◌, refl, sym, ◌∙◌, ap}
use mathlib.Core.Logic.{by_cases}
use mathlib.Core.List.{List, ◌++◌}
use Prim.Native.Nat.{ℕ, ◌+◌, ◌-◌, ◌≤◌, ◌<◌}
use native.Mathlib.Omega.{arith}
use native.Mathlib.Decide.{ℕ_discrete, dec_lt, dec_le}
use lib.ListN.{length, get_or, set, take, drop, length-set, get_or-append}
use lib.Seq.{get_or-set_same, get_or-set_other, ext_get_or, get_or-append-add, get_or-take, get_or-drop, length-take-le}
use Rattle.lists.specs.Rows.{rows}
use Rattle.lists.proofs.Rows.{length-rows, rows_at}
use Rattle.wire.specs.Bytes.{splice}
use Rattle.wire.proofs.Parts.{length-splice}
use Rattle.areas_steps.specs.Marks.{WorkHolds}

pub held_none : (base : ℕ) (f : ℕ → ℕ) (s : List ℕ) → WorkHolds base 0 f s s
held_none base f s = record { long = refl; here = λ i l. absurd (omega arith); rest = λ j off. refl }

pub held_next : {base n : ℕ} {f : ℕ → ℕ} {before work : List ℕ} (v : ℕ) → base + n < length work → v ≡ f n → WorkHolds base n f before work
    → WorkHolds base (n + 1) f before (set work (base + n) v)
held_next {base} {n} {f} {before} {work} v room e h = record {
  long = length-set work (base + n) v ∙ h.long;
  here = λ i l.
      by_cases (ℕ_discrete i n)
      (λ q. ap (λ (x : ℕ). get_or (set work (base + n) v) (base + x) 0) q ∙ get_or-set_same work (base + n) v 0 room ∙ e ∙ ap f (sym q))
      (λ q. get_or-set_other work (base + n) (base + i) v 0 (λ z. q (omega arith)) ∙ h.here i (omega arith));
  rest = λ j off. get_or-set_other work (base + n) j v 0 (λ z. off (omega arith) (omega arith)) ∙ h.rest j (λ a b. off a (omega arith));
}

-- as many as another number says
pub held-count : {base n : ℕ} {f : ℕ → ℕ} {before work : List ℕ} (m : ℕ) → n ≡ m → WorkHolds base n f before work → WorkHolds base m f before work
held-count m e h = rw (← e) h

-- what a splice has at each place
module _ (s : List ℕ) (base n : ℕ) (f : ℕ → ℕ) (fits : base + n ≤ length s) where
  front : length (take base s) ≡ base
  front = length-take-le base s (omega arith)

  pub splice-here : (i : ℕ) → i < n → get_or (splice s base (rows n f)) (base + i) 0 ≡ f i
  unfolding splice
  splice-here i l =
      ap (λ (k : ℕ). get_or (take base s ++ (rows n f ++ drop (base + length (rows n f)) s)) (k + i) 0) (sym front)
      ∙ get_or-append-add (take base s) (rows n f ++ drop (base + length (rows n f)) s) i 0
      ∙ get_or-append (rows n f) (drop (base + length (rows n f)) s) 0 i (rw (length-rows n f) l)
      ∙ rows_at n f i 0 l

  pub splice-rest : (j : ℕ) → (base ≤ j → j < base + n → ⊥) → get_or (splice s base (rows n f)) j 0 ≡ get_or s j 0
  unfolding splice
  splice-rest j off = by_cases (dec_lt j base) early late
    where
      early : j < base → get_or (take base s ++ (rows n f ++ drop (base + length (rows n f)) s)) j 0 ≡ get_or s j 0
      early l = get_or-append (take base s) (rows n f ++ drop (base + length (rows n f)) s) 0 j (rw front l) ∙ get_or-take base s j 0 l

      late : (j < base → ⊥) → get_or (take base s ++ (rows n f ++ drop (base + length (rows n f)) s)) j 0 ≡ get_or s j 0
      late l =
          let past : base + n ≤ j = by_cases (dec_lt j (base + n)) (λ q. absurd (off (omega arith) q)) (λ q. omega arith) in
          let a : j ≡ length (take base s) + (j - base) = omega (arith, front) in
          let b : j - base ≡ length (rows n f) + (j - base - n) = omega (arith, length-rows n f) in
          let c : base + length (rows n f) + (j - base - n) ≡ j = omega (arith, length-rows n f) in
          ap (λ (k : ℕ). get_or (take base s ++ (rows n f ++ drop (base + length (rows n f)) s)) k 0) a
          ∙ get_or-append-add (take base s) (rows n f ++ drop (base + length (rows n f)) s) (j - base) 0
          ∙ ap (λ (k : ℕ). get_or (rows n f ++ drop (base + length (rows n f)) s) k 0) b
          ∙ get_or-append-add (rows n f) (drop (base + length (rows n f)) s) (j - base - n) 0
          ∙ get_or-drop (base + length (rows n f)) s (j - base - n) 0
          ∙ ap (λ (k : ℕ). get_or s k 0) c

  splice-long : length (splice s base (rows n f)) ≡ length s
  splice-long = length-splice s base (rows n f) (omega (arith, length-rows n f))

  pub splice-held : WorkHolds base n f s (splice s base (rows n f))
  splice-held = record { long = splice-long; here = splice-here; rest = splice-rest }

  pub held-splice : {work : List ℕ} → WorkHolds base n f s work → work ≡ splice s base (rows n f)
  held-splice {work} h = ext_get_or 0 work (splice s base (rows n f)) (h.long ∙ sym splice-long) (λ j l. at j)
    where
      at : (j : ℕ) → get_or work j 0 ≡ get_or (splice s base (rows n f)) j 0
      at j =
          by_cases (dec_le base j)
          (λ a. by_cases (dec_lt j (base + n))
          (λ b. let e : base + (j - base) ≡ j = omega arith in
          let k : j - base < n = omega arith in
          let z : get_or work (base + (j - base)) 0 ≡ get_or (splice s base (rows n f)) (base + (j - base)) 0 = h.here (j - base) k
          ∙ sym (splice-here (j - base) k) in
          rw e at z)
          (λ b. let o : base ≤ j → j < base + n → ⊥ = λ p q. b q in h.rest j o ∙ sym (splice-rest j o)))
          (λ a. let o : base ≤ j → j < base + n → ⊥ = λ p q. a p in h.rest j o ∙ sym (splice-rest j o))
