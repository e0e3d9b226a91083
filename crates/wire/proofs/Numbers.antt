-- Laws of little-endian numbers, over the width.
use mathlib.Core.Path.{◌≡◌, refl, sym, ◌∙◌, ap}
use mathlib.Core.List.{List, [], ◌∷◌, ◌++◌}
use Prim.Native.Nat.{ℕ, zero, suc, ◌+◌, ◌*◌, ◌/◌, ◌%◌, ◌^◌, ◌<◌}
use native.Mathlib.Nat.{pow-suc, zero-add, suc-add, mul_comm, div-div-eq-div-mul}
use native.Mathlib.Omega.{arith}
use lib.Arith.{mod-mul, digits_div, digits_mod}
use lib.Dec.{lit<}
use lib.ListN.{length}
use Rattle.wire.specs.Bytes.{number, bytes, AreBytes}

pos-pow : (n : ℕ) → zero < 256 ^ n
pos-pow zero = lit< tt
pos-pow (suc n) = let p : zero < 256 ^ n = pos-pow n in omega (arith, pow-suc 256 n)

pub length-bytes : (n v : ℕ) → length (bytes n v) ≡ n
unfolding bytes
length-bytes zero v = refl
length-bytes (suc n) v = ap suc (length-bytes n (v / 256))

pub bytes-are : (n v : ℕ) → AreBytes (bytes n v)
unfolding bytes
bytes-are zero v i = omega arith
bytes-are (suc n) v zero = omega arith
bytes-are (suc n) v (suc i) = bytes-are n (v / 256) i

-- The bytes of a number that fits stand for it.
pub number-bytes : (n v : ℕ) → v < 256 ^ n → number (bytes n v) ≡ v
unfolding number bytes
number-bytes zero v h = omega arith
number-bytes (suc n) v h =
    let h' : v / 256 < 256 ^ n = omega (arith, pow-suc 256 n) in
    let e : number (bytes n (v / 256)) ≡ v / 256 = number-bytes n (v / 256) h' in
    omega arith

tail-bytes : (b : ℕ) (bs : List ℕ) → AreBytes (b ∷ bs) → AreBytes bs
tail-bytes b bs h i = h (suc i)

pub number-below : (bs : List ℕ) → AreBytes bs → number bs < 256 ^ length bs
unfolding number
number-below [] h = omega arith
number-below (b ∷ bs) h =
    let l : number bs < 256 ^ length bs = number-below bs (tail-bytes b bs h) in
    omega (arith, h 0, pow-suc 256 (length bs))

-- A number's bytes are those that it was read from.
pub bytes-number : (bs : List ℕ) → AreBytes bs → bytes (length bs) (number bs) ≡ bs
unfolding number bytes
bytes-number [] h = refl
bytes-number (b ∷ bs) h =
    let small : b < 256 = h 0 in
    let e : (b + 256 * number bs) % 256 ≡ b = omega arith in
    let d : (b + 256 * number bs) / 256 ≡ number bs = omega arith in
    simp (e, d, bytes-number bs (tail-bytes b bs h))

pub number_append : (a b : List ℕ) → number (a ++ b) ≡ number a + 256 ^ length a * number b
unfolding number
number_append [] b = omega arith
number_append (x ∷ a) b =
    let e : number (a ++ b) ≡ number a + 256 ^ length a * number b = number_append a b in
    let p : 256 ^ length (x ∷ a) * number b ≡ 256 ^ length a * 256 * number b = ap (λ (z : ℕ). z * number b) (pow-suc 256 (length a)) in
    omega arith

-- The low n bytes of a number, then the others.
pub bytes-join : (n m v : ℕ) → bytes (n + m) v ≡ bytes n (v % 256 ^ n) ++ bytes m (v / 256 ^ n)
unfolding bytes
bytes-join zero m v =
    let e : v / 256 ^ 0 ≡ v = omega arith in
    rw (zero-add, e)
bytes-join (suc n) m v =
    let p : 256 ^ suc n ≡ 256 ^ n * 256 = pow-suc 256 n in
    let low : v % 256 ^ suc n ≡ (v / 256 % 256 ^ n) * 256 + v % 256 = ap (λ (k : ℕ). v % k) p ∙ mod-mul v (pos-pow n) (lit< tt) in
    let rest : v % 256 ^ suc n / 256 ≡ v / 256 % 256 ^ n = ap (λ (k : ℕ). k / 256) low ∙ digits_div (v / 256 % 256 ^ n) (omega arith) in
    let first : v % 256 ^ suc n % 256 ≡ v % 256 = ap (λ (k : ℕ). k % 256) low ∙ digits_mod (v / 256 % 256 ^ n) (omega arith) in
    let high : v / 256 ^ suc n ≡ v / 256 / 256 ^ n = ap (λ (k : ℕ). v / k) (p ∙ mul_comm (256 ^ n) 256) ∙ sym (div-div-eq-div-mul v 256 (256 ^ n)) in
    rw suc-add (simp (first, rest, high, bytes-join n m (v / 256)))
