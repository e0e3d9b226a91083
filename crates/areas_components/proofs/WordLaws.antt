-- A word written: it is read back, and the other words and what follows are as they were.
use mathlib.Core.Path.{◌≡◌, refl, sym, ◌∙◌, ap, ap₂}
use mathlib.Core.Logic.{by_cases}
use mathlib.Core.List.{List, ◌++◌}
use Prim.Native.Nat.{ℕ, ◌+◌, ◌-◌, ◌*◌, ◌≤◌, ◌<◌}
use native.Mathlib.Omega.{arith}
use native.Mathlib.Decide.{ℕ_discrete, dec_lt}
use lib.ListN.{length, take, drop}
use lib.Seq.{drop-drop}
use Rattle.areas.specs.Words.{word}
use Rattle.wire.specs.Bytes.{part, splice, u32_bytes}
use Rattle.wire.proofs.Numbers.{length-bytes}
use Rattle.wire.proofs.Parts.{length-splice, drop-splice, splice-before}
use Rattle.wire.proofs.Words.{read_same, read-before, read-after}
use Rattle.areas_components.specs.Forests.{Usable, Kept}

-- q is p with v at i
pub record Upd (p q : ℕ → ℕ) (i v : ℕ) : Type 0 where
  pub at : q i ≡ v
  pub off : (k : ℕ) → (k ≡ i → ⊥) → q k ≡ p k

module _ (s : List ℕ) (i v : ℕ) (room : 4 * i + 4 ≤ length s) where
  fits : 4 * i + length (u32_bytes v) ≤ length s
  fits = omega (arith, length-bytes 4 v)

  pub put-length : length (splice s (4 * i) (u32_bytes v)) ≡ length s
  put-length = length-splice s (4 * i) (u32_bytes v) fits

  pub put-kept : (n : ℕ) → i < n → Kept n s (splice s (4 * i) (u32_bytes v))
  put-kept n l = record { size = put-length; rest = drop-splice s (4 * i) (u32_bytes v) fits (4 * n) (omega (arith, length-bytes 4 v)) }

  pub put_other : (k : ℕ) → (k ≡ i → ⊥) → word (splice s (4 * i) (u32_bytes v)) k ≡ word s k
  put_other k q =
      by_cases (dec_lt k i) (λ l. read-before s (4 * i) (u32_bytes v) fits 4 (4 * k) (omega arith))
      (λ l. read-after s (4 * i) (u32_bytes v) fits 4 (4 * k)
      (let h : i < k = by_cases (dec_lt i k) (λ m. m) (λ m. absurd (q (omega arith))) in omega (arith, length-bytes 4 v)))

  pub put-upd : v < 4294967296 → Upd (word s) (word (splice s (4 * i) (u32_bytes v))) i v
  put-upd small = record { at = read_same 4 s (4 * i) v room small; off = put_other }

  -- written over
  pub put-again : (u : ℕ) → splice (splice s (4 * i) (u32_bytes u)) (4 * i) (u32_bytes v) ≡ splice s (4 * i) (u32_bytes v)
  unfolding splice part
  put-again u =
      let inside : 4 * i + length (u32_bytes u) ≤ length s = omega (arith, length-bytes 4 u) in
      let low : take (4 * i) (splice s (4 * i) (u32_bytes u)) ≡ take (4 * i) s = splice-before s (4 * i) (u32_bytes u) inside 0 (4 * i) (omega arith) in
      let past : 4 * i + length (u32_bytes u) ≤ 4 * i + length (u32_bytes v) = omega (arith, length-bytes 4 u, length-bytes 4 v) in
      let high = drop-splice s (4 * i) (u32_bytes u) inside (4 * i + length (u32_bytes v)) past in
      ap₂ (λ (x y : List ℕ). x ++ (u32_bytes v ++ y)) low high

  -- a parent that is no later
  pub put-usable : v < 4294967296 → v ≤ i → (m : ℕ) → Usable m s → Usable m (splice s (4 * i) (u32_bytes v))
  put-usable small le m u = record {
    small = u.small;
    room = omega (arith, put-length);
    falls = λ j l.
        by_cases (ℕ_discrete j i) (λ e. omega (arith, ap (word (splice s (4 * i) (u32_bytes v))) e, (put-upd small).at))
        (λ q. omega (arith, put_other j q, u.falls j l));
  }

pub kept-none : (n : ℕ) (s : List ℕ) → Kept n s s
kept-none n s = record { size = refl; rest = refl }

pub kept_trans : (n : ℕ) {s t w : List ℕ} → Kept n s t → Kept n t w → Kept n s w
kept_trans n h k = record { size = k.size ∙ h.size; rest = k.rest ∙ h.rest }

pub drop_more : (m n : ℕ) (s w : List ℕ) → m ≤ n → drop m w ≡ drop m s → drop n w ≡ drop n s
drop_more m n s w l e =
    sym (split w) ∙ (ap (drop (n - m)) e ∙ split s)
  where
    split : (t : List ℕ) → drop (n - m) (drop m t) ≡ drop n t
    split t = drop-drop (n - m) m t ∙ ap (λ (x : ℕ). drop x t) (let z : m + (n - m) ≡ n = omega arith in z)

pub kept_more : (m n : ℕ) {s w : List ℕ} → m ≤ n → Kept m s w → Kept n s w
kept_more m n {s} {w} l h = record { size = h.size; rest = drop_more (4 * m) (4 * n) s w (omega arith) h.rest }
