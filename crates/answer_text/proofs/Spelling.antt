-- Digits: how many a number has, and how they are written from the last to the first.
use mathlib.Core.Path.{◌≡◌, refl, sym, ◌∙◌, ap, subst}
use mathlib.Core.Bool.{Bool, true, false, cond}
use mathlib.Core.Logic.{by_cases}
use mathlib.Core.List.{List, [], ◌∷◌, ◌++◌, append_assoc, append-nil}
use Prim.Native.Nat.{ℕ, zero, suc, ◌+◌, ◌-◌, ◌/◌, ◌%◌, ◌^◌, ◌≤◌, ◌<◌}
use native.Mathlib.Nat.{pow-suc, mod-lt}
use native.Mathlib.Decide.{dec_lt}
use native.Mathlib.Omega.{arith}
use borrow.Author.Tests.{lt-ltb, le-ltb}
use lib.ListN.{length, set, take, drop, length-append}
use lib.Seq.{set-append_left, take-set-lt, take-suc-set, length-take-le}
use Rattle.wire.specs.Bytes.{splice}
use Rattle.wire.proofs.Parts.{splice-none, length-splice}
use Rattle.answer_text.specs.Answer.{Writes}
use Rattle.answer_text.specs.Digits.{glyph, last_digits, digit_count_from, digit_count, digits, hex_digits}

pub glyph-low : {d : ℕ} → d < 10 → 48 + d ≡ glyph d
unfolding glyph
glyph-low {d} h = sym (ap (λ (b : Bool). cond b (48 + d) (87 + d)) (lt-ltb d 10 h))

pub glyph-high : {d : ℕ} → 10 ≤ d → 87 + d ≡ glyph d
unfolding glyph
glyph-high {d} h = sym (ap (λ (b : Bool). cond b (48 + d) (87 + d)) (le-ltb d 10 h))

from-small : (n v : ℕ) → v < 10 → digit_count_from n v ≡ 1
unfolding digit_count_from
from-small zero v h = refl
from-small (suc n) v h = ap (λ (b : Bool). elim b [ true ↦ 1 | false ↦ suc (digit_count_from n (v / 10)) ]) (lt-ltb v 10 h)

from-large : (n v : ℕ) → 10 ≤ v → digit_count_from (suc n) v ≡ suc (digit_count_from n (v / 10))
unfolding digit_count_from
from-large n v h = ap (λ (b : Bool). elim b [ true ↦ 1 | false ↦ suc (digit_count_from n (v / 10)) ]) (le-ltb v 10 h)

-- Any bound of a number tells its digits.
from-same : (n m v : ℕ) → v ≤ n → v ≤ m → digit_count_from n v ≡ digit_count_from m v
from-same zero m v h k = from-small 0 v (omega arith) ∙ sym (from-small m v (omega arith))
from-same (suc n) zero v h k = from-small (suc n) v (omega arith) ∙ sym (from-small 0 v (omega arith))
from-same (suc n) (suc m) v h k =
    by_cases (dec_lt v 10) (λ l. from-small (suc n) v l ∙ sym (from-small (suc m) v l)) λ q.
    let l : 10 ≤ v = omega arith in
    from-large n v l ∙ ap suc (from-same n m (v / 10) (omega arith) (omega arith)) ∙ sym (from-large m v l)

pub places-small : (v : ℕ) → v < 10 → digit_count v ≡ 1
unfolding digit_count
places-small v h = from-small v v h

pub places-large : (v : ℕ) → 10 ≤ v → digit_count v ≡ suc (digit_count (v / 10))
unfolding digit_count
places-large zero h = absurd (omega arith)
places-large (suc v) h = from-large v (suc v) h ∙ ap suc (from-same v (suc v / 10) (suc v / 10) (omega arith) (omega arith))

-- k digits are dropped from v, and rest is left.
pub record Counted (v k rest : ℕ) : Type 0 where
  pub count : k + digit_count rest ≡ 1 + digit_count v
  pub small : k + rest ≤ 1 + v

pub counted_start : (v : ℕ) → Counted v 1 v
counted_start v = record { count = refl; small = omega arith }

pub counted_next : {v k rest : ℕ} → Counted v k rest → 10 ≤ rest → Counted v (k + 1) (rest / 10)
counted_next {v} {k} {rest} c h = record { count = omega (arith, c.count, places-large rest h); small = omega (arith, c.small) }

pub counted-end : {v k rest : ℕ} → Counted v k rest → rest < 10 → k ≡ digit_count v
counted-end {v} {k} {rest} c h = omega (arith, c.count, places-small rest h)

-- A number below a power of ten has no more digits than that.
pub places-most : (k v : ℕ) → v < 10 ^ suc k → digit_count v ≤ suc k
places-most zero v h = omega (arith, places-small v (omega (arith, pow-suc 10 0)))
places-most (suc k) v h =
    by_cases (dec_lt v 10) (λ l. omega (arith, places-small v l)) λ q.
    let l : 10 ≤ v = omega arith in
    omega (arith, places-large v l, places-most k (v / 10) (omega (arith, pow-suc 10 (suc k))))

pub length-last_digits : (b k v : ℕ) → length (last_digits b k v) ≡ k
unfolding last_digits
length-last_digits b zero v = refl
length-last_digits b (suc k) v = length-append (last_digits b k (v / b)) (glyph (v % b) ∷ []) ∙ omega (arith, length-last_digits b k (v / b))

pub length_digits : (v : ℕ) → length (digits v) ≡ digit_count v
unfolding digits
length_digits v = length-last_digits 10 (digit_count v) v

pub length-hex_digits : (v : ℕ) → length (hex_digits v) ≡ 16
unfolding hex_digits
length-hex_digits v = length-last_digits 16 16 v

-- A store just before a text that was written.
set_before : (s : List ℕ) (p g : ℕ) (t : List ℕ) → suc p + length t ≤ length s → set (splice s (suc p) t) p g ≡ splice s p (g ∷ t)
unfolding splice
set_before s p g t h =
    let l : length (take (suc p) s) ≡ suc p = length-take-le (suc p) s (omega arith) in
    let e : suc p + length t ≡ p + length (g ∷ t) = omega arith in
    set-append_left (take (suc p) s) (t ++ drop (suc p + length t) s) p g (omega arith)
    ∙ ap (λ (x : List ℕ). x ++ (t ++ drop (suc p + length t) s)) (sym (take-set-lt (suc p) s p g (omega arith)) ∙ take-suc-set s p g (omega arith))
    ∙ append_assoc (take p s) (g ∷ []) (t ++ drop (suc p + length t) s)
    ∙ ap (λ (k : ℕ). take p s ++ (g ∷ (t ++ drop k s))) e

-- All but the first i of k digits stand at their digit_count; those are digits of rest.
pub record Spelt (b k v : ℕ) (out : List ℕ) (at : ℕ) (now : List ℕ) (i rest : ℕ) : Type 0 where
  pub text : List ℕ
  pub fits : at + k ≤ length out
  pub is : now ≡ splice out (at + i) text
  pub size : i + length text ≡ k
  pub all : last_digits b i rest ++ text ≡ last_digits b k v

module _ {b k v : ℕ} {out : List ℕ} {at : ℕ} where
  pub spelt-start : at + k ≤ length out → Spelt b k v out at out k v
  spelt-start h = record { text = []; fits = h; is = sym (splice-none out (at + k)); size = omega arith; all = append-nil (last_digits b k v) }

  pub spelt-long : {now : List ℕ} {i rest : ℕ} → Spelt b k v out at now i rest → length now ≡ length out
  spelt-long {i = i} s = ap length s.is ∙ length-splice out (at + i) s.text (omega (arith, s.size, s.fits))

  step : {now : List ℕ} (j : ℕ) {rest : ℕ} → Spelt b k v out at now (suc j) rest → Spelt b k v out at (set now (at + j) (glyph (rest % b))) j (rest / b)
  unfolding last_digits
  step {now} j {rest} s =
      let e : at + suc j ≡ suc (at + j) = omega arith in
      record {
        text = glyph (rest % b) ∷ s.text;
        fits = s.fits;
        is = ap (λ (l : List ℕ). set l (at + j) (glyph (rest % b))) (s.is ∙ ap (λ (p : ℕ). splice out p s.text) e)
            ∙ set_before out (at + j) (glyph (rest % b)) s.text (omega (arith, s.size, s.fits));
        size = omega (arith, s.size);
        all = sym (append_assoc (last_digits b j (rest / b)) (glyph (rest % b) ∷ []) s.text) ∙ s.all;
      }

  pub spelt-next : {now : List ℕ} {i rest : ℕ} → Spelt b k v out at now i rest → 0 < i
      → Spelt b k v out at (set now (at + (i - 1)) (glyph (rest % b))) (i - 1) (rest / b)
  spelt-next {now} {i} {rest} s h =
      let e : i ≡ suc (i - 1) = omega arith in
      step (i - 1) (subst (λ (j : ℕ). Spelt b k v out at now j rest) e s)

  pub spelt-end : {now : List ℕ} {i rest : ℕ} → Spelt b k v out at now i rest → i ≤ 0 → now ≡ splice out at (last_digits b k v)
  unfolding last_digits
  spelt-end {now} {i} {rest} s h =
      let e : i ≡ 0 = omega arith in
      let z : Spelt b k v out at now 0 rest = subst (λ (j : ℕ). Spelt b k v out at now j rest) e s in
      let p : at + 0 ≡ at = omega arith in
      z.is ∙ ap (λ (q : ℕ). splice out q z.text) p ∙ ap (splice out at) z.all

pub remainder-small : (v : ℕ) {b : ℕ} → 1 < b → b ≤ 16 → v % b < 16
remainder-small v {b} h k = omega (arith, mod-lt v {m = b} (omega arith))

pub decimal-writes : (v : ℕ) {k : ℕ} {out : List ℕ} {at : ℕ} {after : List ℕ} → k ≡ digit_count v → after ≡ splice out at (last_digits 10 k v)
    → Writes (digits v) out at after (at + k)
unfolding digits
decimal-writes v {k} {out} {at} e h =
    record { is = h ∙ ap (λ (j : ℕ). splice out at (last_digits 10 j v)) e; end = omega (arith, e, length-last_digits 10 (digit_count v) v) }

pub hex-writes : (v : ℕ) {out : List ℕ} {at : ℕ} {after : List ℕ} → after ≡ splice out at (last_digits 16 16 v) → Writes (hex_digits v) out at after (at + 16)
unfolding hex_digits
hex-writes v h = record { is = h; end = omega (arith, length-last_digits 16 16 v) }
