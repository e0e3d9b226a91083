-- Reading and writing a value of fixed length, and how such values are put together.
use mathlib.Core.Path.{◌≡◌, refl, sym, ◌∙◌, ap}
use mathlib.Core.List.{List, [], ◌∷◌, ◌++◌}
use Prim.Native.Nat.{ℕ, ◌+◌, ◌^◌, ◌≤◌, ◌<◌}
use native.Mathlib.Nat.{add-zero}
use native.Mathlib.Decide.{dec_lt}
use native.Mathlib.Omega.{arith}
use lib.ListN.{length, get_or, length-append, get_or-eq_default}
use Rattle.wire.specs.Bytes.{part, number, bytes, number_at, AreBytes}
use Rattle.wire.proofs.Parts.{length_part, part_at, part-cons, part_join}
use Rattle.wire.proofs.Numbers.{length-bytes, number-bytes, bytes-number, number-below}
use Rattle.format.proofs.Sections.{part-first, part-second}

-- Values of n bytes, which `at` reads at a place and `out` writes, and the round trips between.
pub record Trip {A : Type 0} (n : ℕ) (at : List ℕ → ℕ → A) (out : A → List ℕ) (Fits : A → Type 0) : Type 0 where
  -- A value has n bytes.
  pub size : (r : A) → length (out r) ≡ n
  -- Where the bytes of r stand, r is read.
  pub read : (s : List ℕ) (i : ℕ) (r : A) → Fits r → part s i n ≡ out r → at s i ≡ r
  -- The bytes of what is read are those that stand there.
  pub write : (s : List ℕ) (i : ℕ) → AreBytes s → i + n ≤ length s → out (at s i) ≡ part s i n
  -- What is read fits.
  pub fits : (s : List ℕ) (i : ℕ) → AreBytes s → i + n ≤ length s → Fits (at s i)

part-are : (s : List ℕ) (i n : ℕ) → AreBytes s → i + n ≤ length s → AreBytes (part s i n)
part-are s i n h l k = go (dec_lt k n)
  where
    go : Dec (k < n) → get_or (part s i n) k 0 < 256
    go (yes d) = rw (part_at s i n k d) (h (i + k))
    go (no d) = rw (get_or-eq_default (part s i n) 0 {n = k} (rw (length_part s i n l) (omega arith))) (omega arith)

-- A number of n bytes.
pub number-trip : (n : ℕ) → Trip n (number_at n) (bytes n) (λ v. v < 256 ^ n)
unfolding number_at
number-trip n = record {
  size = length-bytes n;
  read = λ s i v f e. ap number e ∙ number-bytes n v f;
  write = λ s i h l.
      ap (λ (k : ℕ). bytes k (number (part s i n))) (sym (length_part s i n l))
      ∙ bytes-number (part s i n) (part-are s i n h l);
  fits = λ s i h l. rw (length_part s i n l) at (number-below (part s i n) (part-are s i n h l));
}

-- A byte.
pub byte-trip : Trip 1 (λ s i. get_or s i 0) (λ b. b ∷ []) (λ b. b < 256)
unfolding part
byte-trip = record {
  size = λ b. refl;
  read = λ s i b f e.
      ap (λ (k : ℕ). get_or s k 0) (sym (add-zero i))
      ∙ sym (part_at s i 1 0 (omega arith))
      ∙ ap (λ (t : List ℕ). get_or t 0 0) e;
  write = λ s i h l. sym (part-cons s i 0 (omega arith));
  fits = λ s i h l. h i;
}

module _ {A B : Type 0} {n : ℕ} {at : List ℕ → ℕ → A} {out : A → List ℕ} {F : A → Type 0} where
  -- A value, then another.
  pub both-trip : {m : ℕ} {bt : List ℕ → ℕ → B} {bout : B → List ℕ} {G : B → Type 0}
      → Trip n at out F → Trip m bt bout G
      → Trip {A = A × B} (n + m) (λ s i. (at s i, bt s (i + n))) (λ p. out p.0 ++ bout p.1) (λ p. F p.0 × G p.1)
  both-trip {m} {bout} T U = record {
    size = λ p. length-append (out p.0) (bout p.1) ∙ omega (arith, T.size p.0, U.size p.1);
    read = λ s i p f e.
        let a = T.read s i p.0 f.0 (part-first s i n m (out p.0) (bout p.1) (T.size p.0) e) in
        let b = U.read s (i + n) p.1 f.1 (part-second s i n m (out p.0) (bout p.1) (T.size p.0) (U.size p.1) e) in
        λ k. (a k, b k);
    write = λ s i h l. rw (T.write s i h (omega arith), U.write s (i + n) h (omega arith)) (sym (part_join s i n m));
    fits = λ s i h l. (T.fits s i h (omega arith), U.fits s (i + n) h (omega arith));
  }

  -- The same bytes as a value of another type: f makes it, g takes it apart.
  pub as-trip : {bt : List ℕ → ℕ → B} {bout : B → List ℕ} {G : B → Type 0} (f : A → B) (g : B → A)
      → ((b : B) → f (g b) ≡ b)
      → ((s : List ℕ) (i : ℕ) → bt s i ≡ f (at s i))
      → ((a : A) → bout (f a) ≡ out a)
      → ((b : B) → G b → F (g b))
      → ((a : A) → F a → G (f a))
      → Trip n at out F → Trip n bt bout G
  as-trip {bout} f g same reads writes into back T =
      let outs : (b : B) → bout b ≡ out (g b) = λ b. ap bout (sym (same b)) ∙ writes (g b) in
      record {
        size = λ b. ap length (outs b) ∙ T.size (g b);
        read = λ s i b h e. reads s i ∙ ap f (T.read s i (g b) (into b h) (e ∙ outs b)) ∙ same b;
        write = λ s i h l. ap bout (reads s i) ∙ writes (at s i) ∙ T.write s i h l;
        fits = λ s i h l. rw (reads s i) (back (at s i) (T.fits s i h l));
      }
