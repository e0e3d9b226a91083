-- Due bytes, computed and written.
use mathlib.Core.Path.{◌≡◌, refl, sym, ◌∙◌, ap, subst}
use mathlib.Core.Logic.{by_cases}
use mathlib.Core.Bool.{Bool, true, false, not, ◌&&◌}
use mathlib.Core.List.{List, [], ◌∷◌, ◌++◌}
use Prim.Native.Nat.{ℕ, suc, ◌+◌, ◌*◌, ◌-◌, ◌%◌, ◌<◌, ◌≤◌}
use native.Mathlib.Omega.{arith}
use native.Mathlib.Numerals.{add-one}
use native.Mathlib.Decide.{ℕ_discrete}
use borrow.Author.Tests.{eq-eqb, ne_eqb}
use lib.Dec.{eqb}
use lib.ListN.{length, get_or, set, length-set, get_or-eq_default}
use Rattle.lists.specs.Rows.{rows}
use Rattle.lists.proofs.Rows.{length-rows, rows_last}
use Rattle.wire.specs.Bytes.{part, splice}
use Rattle.wire.proofs.Parts.{length_part, part_at, set-splice, splice-none, splice-before, splice-splice}
use Rattle.areas.specs.Open.{bit_of, bit_at}
use Rattle.areas_components.specs.Dues.{left_due, below_due, right_due, due_of, byte_in, before_in, due_byte, dues, DueTo}
use Rattle.areas_components.proofs.StepLaws.{first_bit}

-- a bit, as a number
pub bit_is : (x : ℕ) → x % 2 ≡ bit_of (eqb (x % 2) 1)
bit_is x = by_cases (ℕ_discrete (x % 2) 1) (λ h. rw (eq-eqb (x % 2) 1 h) h) (λ h. rw (ne_eqb (x % 2) 1 h) (omega arith))

pub both_is : (a b : ℕ) (s t : Bool) → a ≡ bit_of s → b ≡ bit_of t → a * b ≡ bit_of (s && t)
both_is a b true true p q = rw (p, q)
both_is a b true false p q = rw (p, q)
both_is a b false true p q = rw (p, q)
both_is a b false false p q = rw (p, q)

pub but-is : (a b : ℕ) (s t : Bool) → a ≡ bit_of s → b ≡ bit_of t → a * (1 - b) ≡ bit_of (s && not t)
but-is a b true true p q = rw (p, q)
but-is a b true false p q = rw (p, q)
but-is a b false true p q = rw (p, q)
but-is a b false false p q = rw (p, q)

pub first-is : (x b : ℕ) → b ≡ bit_of (eqb (x % 2) 1) → b ≡ bit_of (bit_at x 0)
first-is x b e = e ∙ ap bit_of (first_bit x)

pub due-is : (v l e d x y z : ℕ) → x ≡ bit_of (left_due v l e d) → y ≡ bit_of (below_due v l e d) → z ≡ bit_of (right_due v l e d) →
    2 * x + 4 * y + 8 * z ≡ due_of v l e d
unfolding due_of
due-is v l e d x y z p q r = rw (p, q, r)

module _ (w : List ℕ) (base n : ℕ) (room : base + n ≤ length w) where
  pub at_on : (k : ℕ) → k < n → get_or w (base + k) 0 ≡ byte_in (part w base n) k
  at_on k l = sym (part_at w base n k l)

  pub at-past : (k : ℕ) → n ≤ k → 0 ≡ byte_in (part w base n) k
  at-past k h = sym (get_or-eq_default (part w base n) 0 {n = k} (omega (arith, length_part w base n room)))

  pub before-first : (k : ℕ) → k ≡ 0 → 0 ≡ before_in (part w base n) k
  before-first k e = sym (ap (before_in (part w base n)) e)

  pub before-next : (k : ℕ) → 0 < k → byte_in (part w base n) (k - 1) ≡ before_in (part w base n) k
  before-next k l = ap (before_in (part w base n)) (let z : suc (k - 1) ≡ k = omega arith in z)

  pub before_on : (k : ℕ) → 0 < k → k ≤ n → get_or w (base + k - 1) 0 ≡ before_in (part w base n) k
  before_on k l m = ap (λ (x : ℕ). get_or w x 0) (let z : base + k - 1 ≡ base + (k - 1) = omega arith in z) ∙ (at_on (k - 1) (omega arith) ∙ before-next k l)

pub due-from : (bytes : List ℕ) (width i v l e d r : ℕ) → r ≡ due_of v l e d →
    v ≡ byte_in bytes i → l ≡ before_in bytes i → e ≡ before_in bytes (i + width) → d ≡ byte_in bytes (i + width)
    → r ≡ due_byte width bytes i
unfolding due_byte
due-from bytes width i v l e d r er ev el ee ed = er ∙ rw (ev, el, ee, ed)

-- none is written, one more, all
pub due-none : (n width base : ℕ) (s : List ℕ) → DueTo n width base 0 s s
unfolding rows
due-none n width base s = record { below = omega arith; long = refl; same = sym (splice-none s (base + n)) }

module _ {n width base i : ℕ} {s w : List ℕ} (room : base + 2 * n ≤ length w) (l : i < n) (b : ℕ) (eb : b ≡ due_byte width (part w base n) i) where
  pub due-next : DueTo n width base i s w → DueTo n width base (i + 1) s (set w (base + n + i) b)
  due-next h = record {
    below = omega arith;
    long = length-set w (base + n + i) b ∙ h.long;
    same =
        ap (λ (x : List ℕ). set x (base + n + i) b) h.same
        ∙ (set-splice (splice s (base + n) bs) (base + n + i) b (omega (arith, ap length h.same))
        ∙ (ap (λ (x : ℕ). splice (splice s (base + n) bs) x (b ∷ [])) (let z : base + n + i ≡ base + n + length bs = omega (arith, many) in z)
        ∙ (splice-splice s (base + n) bs fits (b ∷ []) ∙ ap (splice s (base + n)) last)));
  }
    where
      f : ℕ → ℕ
      f = due_byte width (part s base n)

      bs : List ℕ
      bs = rows i f

      many : length bs ≡ i
      many = length-rows i f

      fits : base + n + length bs ≤ length s
      fits = omega (arith, many, h.long)

      same_byte : b ≡ f i
      same_byte =
          let kept = splice-before s (base + n) bs fits base n (omega arith) in
          eb ∙ ap (λ (x : List ℕ). due_byte width x i) (ap (λ (x : List ℕ). part x base n) h.same ∙ kept)

      last : bs ++ (b ∷ []) ≡ rows (i + 1) f
      last = ap (λ (x : ℕ). bs ++ (x ∷ [])) same_byte ∙ (sym (rows_last i f) ∙ ap (λ (k : ℕ). rows k f) (sym (add-one i)))

-- those from `from` up to i are written, of those up to `to`
pub record Writing (n width base from to i : ℕ) (s w : List ℕ) : Type 0 where
  pub above : from ≤ i
  pub below : i ≤ to
  pub long : length w ≡ length s
  pub more : (r : List ℕ) → DueTo n width base from r s → DueTo n width base i r w

pub writing_start : {n width base from to : ℕ} (s : List ℕ) → from ≤ to → Writing n width base from to from s s
writing_start s l = record { above = omega arith; below = l; long = refl; more = λ r h. h }

pub writing-next : {n width base from to i : ℕ} {s w : List ℕ} → base + 2 * n ≤ length s → to ≤ n → Writing n width base from to i s w → i < to →
    (b : ℕ) → b ≡ due_byte width (part w base n) i → Writing n width base from to (i + 1) s (set w (base + n + i) b)
writing-next {n} {base = base} {i = i} {w = w} room m h l b eb = record {
  above = omega (arith, h.above);
  below = omega arith;
  long = length-set w (base + n + i) b ∙ h.long;
  more = λ r k. due-next (omega (arith, h.long)) (omega arith) b eb (h.more r k);
}

pub writing-end : {n width base from to i : ℕ} {s w : List ℕ} → Writing n width base from to i s w → (i < to → ⊥) → (r : List ℕ) →
    DueTo n width base from r s → DueTo n width base to r w
writing-end {n} {width} {base} {to = to} {i = i} {w = w} h q r k =
    let e : i ≡ to = omega (arith, h.below) in subst (λ (x : ℕ). DueTo n width base x r w) e (h.more r k)

pub dues-end : {n width base : ℕ} {s w : List ℕ} → base + n ≤ length s → DueTo n width base n s w → w ≡ splice s (base + n) (dues width (part s base n))
unfolding dues
dues-end {n} {width} {base} {s} room h =
    h.same ∙ ap (λ (k : ℕ). splice s (base + n) (rows k (due_byte width (part s base n)))) (sym (length_part s base n room))
