-- Numbers of one width, written one after another.
use mathlib.Core.Path.{◌≡◌, refl, sym, ◌∙◌, ap}
use mathlib.Core.List.{List, [], ◌∷◌, ◌++◌, flat_map, append-nil}
use Prim.Native.Nat.{ℕ, suc, ◌+◌, ◌*◌, ◌≤◌}
use native.Mathlib.Omega.{arith}
use lib.ListN.{length, length-append}
use Rattle.lists.proofs.Flat.{flat_map-append}
use Rattle.wire.specs.Bytes.{splice, bytes}
use Rattle.wire.proofs.Numbers.{length-bytes}
use Rattle.format.proofs.Writes.{then-write}

pub fields-long : (n : ℕ) (vs : List ℕ) → length (flat_map (bytes n) vs) ≡ n * length vs
unfolding flat_map
fields-long n [] = omega arith
fields-long n (v ∷ vs) =
    let one = length-bytes n v in
    let rest = fields-long n vs in
    length-append (bytes n v) (flat_map (bytes n) vs) ∙ sum n (length vs) one rest
  where
    sum : (n k : ℕ) {a b : ℕ} → a ≡ n → b ≡ n * k → a + b ≡ n * suc k
    sum n k e f = omega arith

one_field : (n v : ℕ) → flat_map (bytes n) (v ∷ []) ≡ bytes n v
unfolding flat_map
one_field n v = append-nil (bytes n v)

-- the first field, and a field more
pub field-first : (n : ℕ) (s : List ℕ) (i v : ℕ) {t : List ℕ} {w : ℕ} → t ≡ splice s i (bytes n w) → w ≡ v → t ≡ splice s i (flat_map (bytes n) (v ∷ []))
field-first n s i v e f = e ∙ ap (splice s i) (ap (bytes n) f ∙ sym (one_field n v))

pub field-more : (n : ℕ) (s : List ℕ) (i : ℕ) (vs : List ℕ) (v : ℕ) {t u : List ℕ} {j w : ℕ} → i + n * length vs ≤ length s
    → t ≡ splice s i (flat_map (bytes n) vs) → u ≡ splice t j (bytes n w) → j ≡ i + n * length vs → w ≡ v
    → u ≡ splice s i (flat_map (bytes n) (vs ++ (v ∷ [])))
field-more n s i vs v {w = w} h p q e f =
    then-write s i (flat_map (bytes n) vs) (bytes n w) (omega (arith, fields-long n vs)) (omega (arith, fields-long n vs)) p q
    ∙ ap (splice s i) (ap (λ (x : ℕ). flat_map (bytes n) vs ++ bytes n x) f
    ∙ (ap (λ (x : List ℕ). flat_map (bytes n) vs ++ x) (sym (one_field n v)) ∙ sym (flat_map-append (bytes n) vs (v ∷ []))))
