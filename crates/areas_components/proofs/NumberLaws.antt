-- Labels in row order from parents.
use mathlib.Core.Path.{◌≡◌, refl, sym, ◌∙◌, ap, subst}
use mathlib.Core.Logic.{by_cases}
use mathlib.Core.Bool.{Bool, true, false, cond}
use mathlib.Core.List.{List, flat_map}
use Prim.Native.Nat.{ℕ, suc, ◌+◌, ◌*◌, ◌%◌, ◌≤◌, ◌<◌, max}
use native.Mathlib.Omega.{arith}
use native.Mathlib.Numerals.{add-one}
use native.Mathlib.Decide.{ℕ_discrete}
use borrow.Author.Tests.{eq-eqb, ne_eqb, eqb-true}
use lib.Dec.{eqb}
use lib.ListN.{length, take}
use Rattle.areas.specs.Words.{word}
use Rattle.order.specs.Lists.{up_from}
use Rattle.order.proofs.Bools.{by-test, and_parts, and_both, is_false}
use Rattle.wire.specs.Bytes.{splice, number, part, number_at, u32_bytes}
use Rattle.graph.specs.Path.{Edge}
use Rattle.graph.specs.Parts as parts
use Rattle.graph.specs.Labelling.{Among}
use Rattle.graph.specs.Labels.{count, begins, label, labels, label_count}
use Rattle.graph.proofs.Paths.{path-kept}
use Rattle.graph.proofs.Parts.{part-iff, part-le}
use Rattle.graph.proofs.Labels.{label-max}
use Rattle.graph.proofs.Count.{count_yes}
use Rattle.areas_components.specs.Forests.{Forest, Kept}
use Rattle.areas_components.specs.Numbered.{next_label, NextNumbered, ComponentLabels}
use Rattle.areas_components.proofs.WordLaws.{kept-none, kept_trans, kept_more, put-kept, put-upd, put_other, put-again}
use Rattle.areas_components.proofs.LabelWords.{bytes-last}

count-skip : (t : ℕ → Bool) (n : ℕ) → t n ≡ false → count t (n + 1) ≡ count t n
unfolding count
count-skip t n e = rw add-one (rw e (omega arith))

count-step : (t : ℕ → Bool) (n : ℕ) → t n ≡ true → count t (n + 1) ≡ count t n + 1
count-step t n e = ap (count t) (add-one n) ∙ (count_yes t n e ∙ sym (add-one (count t n)))

module _ (on : ℕ → Bool) (es : List Edge) (among : Among on es) {n : ℕ} {p : ℕ → ℕ} (f : Forest es n p) (i : ℕ) (l : i < n) where
  first-begins : on i ≡ true → p i ≡ i → begins on es i ≡ true
  unfolding begins
  first-begins h e = and_both h (eq-eqb (parts.component_of es i) i (f.top i l e))

  other-begins : p i < i → begins on es i ≡ false
  unfolding begins
  other-begins q =
      is_false (begins on es i)
      (λ h. omega (arith, eqb-true (parts.component_of es i) i (and_parts (on i) (eqb (parts.component_of es i) i) h).1, f.along i l, part-le es (p i)))

  blocked-begins : on i ≡ false → begins on es i ≡ false
  unfolding begins
  blocked-begins h = rw h

  label-blocked : on i ≡ false → label on es i ≡ 0
  unfolding label
  label-blocked h = rw h

  label-first : on i ≡ true → p i ≡ i → label on es i ≡ label_count i on es + 1
  unfolding label label_count
  label-first h e = rw (h, f.top i l e) (omega (arith, count_yes (begins on es) i (first-begins h e)))

  parent-on : on i ≡ true → on (p i) ≡ true
  parent-on h = path-kept (λ x. on x ≡ true) (λ e m. (λ k. (among e m).1, λ k. (among e m).0)) ((part-iff es i (p i)).0 (sym (f.along i l))) h

  label-other : on i ≡ true → label on es i ≡ label on es (p i)
  unfolding label
  label-other h = rw (h, parent-on h) (ap (λ (x : ℕ). count (begins on es) (suc x)) (sym (f.along i l)))

  less : (p i ≡ i → ⊥) → p i < i
  less q = omega (arith, f.falls i l)

  pub next-label : (q : ℕ → ℕ) (c : ℕ) → q i ≡ p i → ((j : ℕ) → j < i → q j ≡ label on es j) → c ≡ label_count i on es → next_label (on i) q i c ≡ label on es i
  next-label q c own before total =
      by-test (on i)
      (λ h. by_cases (ℕ_discrete (p i) i)
      (λ e. rw (h, eq-eqb (q i) i (own ∙ e)) (ap (λ (x : ℕ). x + 1) total ∙ sym (label-first h e)))
      (λ d. rw (h, ne_eqb (q i) i (λ e. d (sym own ∙ e))) (ap q own ∙ (before (p i) (less d) ∙ sym (label-other h)))))
      (λ h. rw h (sym (label-blocked h)))

  pub next-count : label_count (i + 1) on es ≡ max (label_count i on es) (label on es i)
  unfolding label_count
  next-count =
      by-test (on i)
      (λ h. by_cases (ℕ_discrete (p i) i)
      (λ e. omega (arith, count-step (begins on es) i (first-begins h e), label-first h e))
      (λ d. omega (arith, count-skip (begins on es) i (other-begins (less d)), label-other h, label-max on es among i (p i) (less d))))
      (λ h. omega (arith, count-skip (begins on es) i (blocked-begins h), label-blocked h))

-- the next label is at most one more than there are
next_small : (b : Bool) (q : ℕ → ℕ) (i c : ℕ) → q i ≤ i → ((j : ℕ) → j < i → q j ≤ c) → next_label b q i c ≤ c + 1
next_small b q i c k m =
    by-test b (λ e. rw e (by_cases (ℕ_discrete (q i) i) (λ d. rw (eq-eqb (q i) i d) (omega arith))
    (λ d. rw (ne_eqb (q i) i d) (omega (arith, m (q i) (omega arith))))))
    (λ e. rw e (omega arith))

-- the word at the start of what is kept
kept_word : {i : ℕ} {s w : List ℕ} → Kept i s w → word w i ≡ word s i
unfolding number_at part
kept_word h = ap (λ (x : List ℕ). number (take 4 x)) h.rest

-- the first i cells have their labels
pub record Numbering (n i c : ℕ) (on : ℕ → Bool) (s w : List ℕ) : Type 0 where
  pub below : i ≤ n
  pub few : c ≤ i
  pub small : (j : ℕ) → j < i → word w j ≤ c
  pub kept : Kept i s w
  pub done : (es : List Edge) → Forest es n (word s) → Among on es → ComponentLabels i on es s w c
  pub at : (es : List Edge) → Forest es n (word s) → Among on es → (j : ℕ) → j < i → word w j ≡ label on es j

pub numbering_start : (n : ℕ) (on : ℕ → Bool) (s : List ℕ) → Numbering n 0 0 on s s
unfolding labels label_count splice flat_map up_from count
numbering_start n on s = record {
  below = omega arith;
  few = omega arith;
  small = λ j l. absurd (omega arith);
  kept = kept-none 0 s;
  done = λ es f a. record { same = refl; total = refl };
  at = λ es f a j l. absurd (omega arith);
}

module _ {n i c : ℕ} {on : ℕ → Bool} {s w : List ℕ} (h : Numbering n i c on s w) (few : n ≤ 1048576) (room : 4 * n ≤ length s)
    (falls : (j : ℕ) → j < n → word s j ≤ j) (l : i < n) where
  pub numbering-room : 4 * i + 4 ≤ length w
  numbering-room = omega (arith, h.kept.size)

  pub numbering-falls : word w i ≤ i
  numbering-falls = omega (arith, kept_word h.kept, falls i l)

  module _ (r : ℕ) (er : r ≡ next_label (on i) (word w) i c) where
    r_small : r ≤ c + 1
    r_small = omega (arith, er, next_small (on i) (word w) i c numbering-falls h.small)

    right-label : (es : List Edge) → Forest es n (word s) → Among on es → r ≡ label on es i
    right-label es f a = er ∙ next-label on es a f i l (word w) c (kept_word h.kept) (h.at es f a) (h.done es f a).total

    numbering-put : (m : ℕ) → m ≡ max c r → Numbering n (i + 1) m on s (splice w (4 * i) (u32_bytes r))
    numbering-put m em = record {
      below = omega arith;
      few = omega (arith, h.few, r_small);
      small = λ j k.
          by_cases (ℕ_discrete j i) (λ e. omega (arith, em, ap (word (splice w (4 * i) (u32_bytes r))) e, here))
          (λ d. omega (arith, em, put_other w i r numbering-room j d, h.small j (let z : j < i = omega arith in z)));
      kept = kept_trans (i + 1) (kept_more i (i + 1) (omega arith) h.kept) (put-kept w i r numbering-room (i + 1) (omega arith));
      done = λ es f a. record {
        same = ap (λ (x : List ℕ). splice x (4 * i) (u32_bytes r)) (h.done es f a).same
            ∙ (ap (λ (x : ℕ). splice (splice s 0 (flat_map u32_bytes (labels i on es))) (4 * i) (u32_bytes x)) (right-label es f a)
            ∙ bytes-last s on es i (omega arith));
        total = em ∙ (ap (λ (x : ℕ). max x r) (h.done es f a).total ∙ (ap (max (label_count i on es)) (right-label es f a) ∙ sym (next-count on es a f i l)));
      };
      at = λ es f a j k.
          by_cases (ℕ_discrete j i) (λ e. ap (word (splice w (4 * i) (u32_bytes r))) e ∙ (here ∙ (right-label es f a ∙ ap (label on es) (sym e))))
          (λ d. put_other w i r numbering-room j d ∙ h.at es f a j (let z : j < i = omega arith in z));
    }
      where
        here : word (splice w (4 * i) (u32_bytes r)) i ≡ r
        here = (put-upd w i r numbering-room (omega (arith, h.few, r_small))).at

  pub numbering-next : (v : List ℕ) (m : ℕ) → NextNumbered (on i) i c w v m → Numbering n (i + 1) m on s v
  numbering-next v m k = subst (λ (x : List ℕ). Numbering n (i + 1) m on s x) (sym k.same) (numbering-put (next_label (on i) (word w) i c) refl m k.most)

pub numbering-end : {n i c : ℕ} {on : ℕ → Bool} {s w : List ℕ} → Numbering n i c on s w → (i < n → ⊥) → (es : List Edge) → Forest es n (word s) → Among on es
    → ComponentLabels n on es s w c
numbering-end {n} {i} {c} {on} {s} {w} h q es f a =
    subst (λ (x : ℕ). ComponentLabels x on es s w c) (let z : i ≡ n = omega (arith, h.below) in z) (h.done es f a)

-- a number times 0 or 1
pub only-is : (b x : ℕ) → b ≤ 1 → x * b ≡ cond (eqb b 1) x 0
only-is b x small =
    by_cases (ℕ_discrete b 1) (λ h. rw (eq-eqb b 1 h, h) (omega arith)) (λ h. let z : b ≡ 0 = omega arith in rw (ne_eqb b 1 h, z) (omega arith))

-- the label of cell i, of byte x, is read at its parent p while the next label stands at i
module _ (s : List ℕ) (i c p b x r l : ℕ) (t v : List ℕ) (room : 4 * i + 4 ≤ length s) (few : c < 4294967295) (own : p ≡ word s i)
    (bit : b ≡ x % 2) (et : t ≡ splice s (4 * i) (u32_bytes (c + 1))) (er : r ≡ word t p) (el : l ≡ cond (eqb b 1) r 0)
    (ev : v ≡ splice t (4 * i) (u32_bytes l)) where
  parent-read : word (splice s (4 * i) (u32_bytes (c + 1))) p ≡ cond (eqb (word s i) i) (c + 1) (word s (word s i))
  parent-read =
      by_cases (ℕ_discrete p i)
      (λ e. rw (eq-eqb (word s i) i (sym own ∙ e), e) (put-upd s i (c + 1) room (omega arith)).at)
      (λ d. rw (ne_eqb (word s i) i (λ e. d (own ∙ e))) (put_other s i (c + 1) room p d ∙ ap (word s) own))

  label-read : l ≡ next_label (eqb (x % 2) 1) (word s) i c
  label-read = el ∙ (ap (λ (z : ℕ). cond (eqb z 1) r 0) bit ∙ ap (λ (z : ℕ). cond (eqb (x % 2) 1) z 0) (er ∙ (ap (λ (z : List ℕ). word z p) et ∙ parent-read)))

  written : v ≡ splice s (4 * i) (u32_bytes (next_label (eqb (x % 2) 1) (word s) i c))
  written =
      let again = put-again s i l room (c + 1) in
      ev ∙ (ap (λ (z : List ℕ). splice z (4 * i) (u32_bytes l)) et ∙ (again ∙ ap (λ (z : ℕ). splice s (4 * i) (u32_bytes z)) label-read))

  pub first-numbered : p ≡ i → NextNumbered (eqb (x % 2) 1) i c s v (c + b)
  first-numbered e = record {
    same = written;
    most =
        let first = eq-eqb (word s i) i (sym own ∙ e) in
        by_cases (ℕ_discrete (x % 2) 1) (λ h. rw (eq-eqb (x % 2) 1 h, first) (omega arith)) (λ h. rw (ne_eqb (x % 2) 1 h) (omega arith));
  }

  pub other-numbered : word s i ≤ i → ((j : ℕ) → j < i → word s j ≤ c) → (p ≡ i → ⊥) → NextNumbered (eqb (x % 2) 1) i c s v c
  other-numbered falls small d = record {
    same = written;
    most =
        let other = ne_eqb (word s i) i (λ e. d (own ∙ e)) in
        by_cases (ℕ_discrete (x % 2) 1)
        (λ h. rw (eq-eqb (x % 2) 1 h, other) (omega (arith, small (word s i) (omega arith))))
        (λ h. rw (ne_eqb (x % 2) 1 h) (omega arith));
  }
