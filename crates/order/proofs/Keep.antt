-- Laws of `keep`.
use mathlib.Core.Path.{◌≡◌, refl, ap}
use mathlib.Core.Logic.{◌↔◌}
use mathlib.Core.Bool.{Bool, true, false, cond, not, ◌&&◌, ◌||◌}
use mathlib.Core.List.Memᴰ
use mathlib.Core.List.Permᴰ
use mathlib.Core.List.{List, [], ◌∷◌, ◌++◌, map, Memᴰ, Permᴰ}
use Prim.Native.Nat.{suc, ◌+◌, ◌≤◌, ◌<◌}
use native.Mathlib.Omega.{arith}
use lib.ListN.{length}
use Rattle.order.specs.Lists.{keep}
use Rattle.order.specs.Pairs.{Pairs, none, more}
use Rattle.order.proofs.Bools.{clash}

module _ {A : Type 0} where
  -- what is kept is in the list and passes the test
  pub keep-mem : (t : A → Bool) (l : List A) {y : A} → Memᴰ y (keep t l) → Memᴰ y l × (t y ≡ true)
  unfolding keep
  keep-mem t [] n = absurd (Memᴰ.not-nil n)
  keep-mem t (x ∷ xs) {y} n = go (t x) refl n (λ k. keep-mem t xs k)
    where
      here : t x ≡ true → Memᴰ y (x ∷ keep t xs) → (Memᴰ y (keep t xs) → Memᴰ y xs × (t y ≡ true)) → Memᴰ y (x ∷ xs) × (t y ≡ true)
      here e (Memᴰ.head k) i = (Memᴰ.head k, rw k e)
      here e (Memᴰ.tail k) i = (Memᴰ.tail (i k).0, (i k).1)

      go : (s : Bool) → t x ≡ s → Memᴰ y (cond s (x ∷ keep t xs) (keep t xs)) → (Memᴰ y (keep t xs) → Memᴰ y xs × (t y ≡ true))
          → Memᴰ y (x ∷ xs) × (t y ≡ true)
      go true e n i = here e n i
      go false e n i = (Memᴰ.tail (i n).0, (i n).1)

  -- what is in the list and passes the test is kept
  pub mem-keep : (t : A → Bool) {y : A} {l : List A} → Memᴰ y l → t y ≡ true → Memᴰ y (keep t l)
  unfolding keep
  mem-keep t (Memᴰ.head {x = x} {xs = xs} e) h = let k : t x ≡ true = rw (← e) h in rw k (Memᴰ.head e)
  mem-keep t {y = y} (Memᴰ.tail {x = x} {xs = xs} n) h = go (t x) (mem-keep t n h)
    where
      go : (s : Bool) → Memᴰ y (keep t xs) → Memᴰ y (cond s (x ∷ keep t xs) (keep t xs))
      go true k = Memᴰ.tail k
      go false k = k

  -- no more are kept than there are
  pub keep-length : (t : A → Bool) (l : List A) → length (keep t l) ≤ length l
  unfolding keep
  keep-length t [] = omega arith
  keep-length t (x ∷ xs) = go (t x) (keep-length t xs)
    where
      go : (s : Bool) → length (keep t xs) ≤ length xs → length (cond s (x ∷ keep t xs) (keep t xs)) ≤ suc (length xs)
      go true h = omega arith
      go false h = omega arith

  pub keep_append : (t : A → Bool) (l m : List A) → keep t (l ++ m) ≡ keep t l ++ keep t m
  unfolding keep
  keep_append t [] m = refl
  keep_append t (x ∷ xs) m = go (t x) (keep_append t xs m)
    where
      go : (s : Bool) → keep t (xs ++ m) ≡ keep t xs ++ keep t m
          → cond s (x ∷ keep t (xs ++ m)) (keep t (xs ++ m)) ≡ cond s (x ∷ keep t xs) (keep t xs) ++ keep t m
      go true e = ap (λ (l : List A). x ∷ l) e
      go false e = e

  -- tests that agree on the members keep the same
  pub keep-ext : (t u : A → Bool) (l : List A) → ((y : A) → Memᴰ y l → t y ≡ u y) → keep t l ≡ keep u l
  unfolding keep
  keep-ext t u [] f = refl
  keep-ext t u (x ∷ xs) f = rw (f x (Memᴰ.head refl), keep-ext t u xs (λ y n. f y (Memᴰ.tail n)))

  pub keep_all : (t : A → Bool) (l : List A) → ((y : A) → Memᴰ y l → t y ≡ true) → keep t l ≡ l
  unfolding keep
  keep_all t [] f = refl
  keep_all t (x ∷ xs) f = rw (f x (Memᴰ.head refl), keep_all t xs (λ y n. f y (Memᴰ.tail n)))

  pub keep-none : (t : A → Bool) (l : List A) → ((y : A) → Memᴰ y l → t y ≡ false) → keep t l ≡ []
  unfolding keep
  keep-none t [] f = refl
  keep-none t (x ∷ xs) f = rw (f x (Memᴰ.head refl)) (keep-none t xs (λ y n. f y (Memᴰ.tail n)))

  -- two tests, one after the other
  pub keep-keep : (t u v : A → Bool) (l : List A) → ((y : A) → Memᴰ y l → cond (u y) (t y) false ≡ v y) → keep t (keep u l) ≡ keep v l
  unfolding keep
  keep-keep t u v [] f = refl
  keep-keep t u v (x ∷ xs) f = rw (← f x (Memᴰ.head refl)) (go (u x) (keep-keep t u v xs (λ y n. f y (Memᴰ.tail n))))
    where
      go : (s : Bool) → keep t (keep u xs) ≡ keep v xs → keep t (cond s (x ∷ keep u xs) (keep u xs)) ≡ cond (cond s (t x) false) (x ∷ keep v xs) (keep v xs)
      go true e = rw e
      go false e = e

  pub keep-perm : (t : A → Bool) {l m : List A} → Permᴰ l m → Permᴰ (keep t l) (keep t m)
  unfolding keep
  keep-perm t Permᴰ.nil = Permᴰ.nil
  keep-perm t (Permᴰ.cons {b = b} {l₁ = l} {l₂ = m} e p) = rw e (go (t b) (keep-perm t p))
    where
      go : (s : Bool) → Permᴰ (keep t l) (keep t m) → Permᴰ (cond s (b ∷ keep t l) (keep t l)) (cond s (b ∷ keep t m) (keep t m))
      go true q = Permᴰ.cons refl q
      go false q = q
  keep-perm t (Permᴰ.swap {a = a} {b = b} {l = l} e f) = rw (← e, ← f) (go (t a) (t b))
    where
      go : (p q : Bool) → Permᴰ (cond p (a ∷ cond q (b ∷ keep t l) (keep t l)) (cond q (b ∷ keep t l) (keep t l)))
          (cond q (b ∷ cond p (a ∷ keep t l) (keep t l)) (cond p (a ∷ keep t l) (keep t l)))
      go true true = Permᴰ.swap refl refl
      go true false = Permᴰ.refl (a ∷ keep t l)
      go false true = Permᴰ.refl (b ∷ keep t l)
      go false false = Permᴰ.refl (keep t l)
  keep-perm t (Permᴰ.trans p q) = Permᴰ.trans (keep-perm t p) (keep-perm t q)

  -- a list is what a test takes and what it leaves
  pub keep-split : (t : A → Bool) (l : List A) → Permᴰ l (keep t l ++ keep (λ y. not (t y)) l)
  unfolding keep
  keep-split t [] = Permᴰ.nil
  keep-split t (x ∷ xs) = go (t x) (keep-split t xs)
    where
      go : (s : Bool) → Permᴰ xs (keep t xs ++ keep (λ y. not (t y)) xs) →
          Permᴰ (x ∷ xs) (cond s (x ∷ keep t xs) (keep t xs) ++ cond (not s) (x ∷ keep (λ y. not (t y)) xs) (keep (λ y. not (t y)) xs))
      go true p = Permᴰ.cons refl p
      go false p = Permᴰ.trans (Permᴰ.cons refl p) (Permᴰ.symm (Permᴰ.middle x (keep t xs) (keep (λ y. not (t y)) xs)))

  pub keep-pairs : {R : A → A → Type 0} (t : A → Bool) {l : List A} → Pairs R l → Pairs R (keep t l)
  unfolding keep
  keep-pairs t none = none
  keep-pairs {R} t (more {x = x} {xs = xs} f o) = go (t x) (keep-pairs t o)
    where
      go : (s : Bool) → Pairs R (keep t xs) → Pairs R (cond s (x ∷ keep t xs) (keep t xs))
      go true p = more (λ y m. f y (keep-mem t xs m).0) p
      go false p = p

pub keep-map : {A B : Type 0} (f : A → B) (t : B → Bool) (u : A → Bool) (l : List A) → ((y : A) → Memᴰ y l → t (f y) ≡ u y)
    → keep t (map f l) ≡ map f (keep u l)
unfolding keep
keep-map f t u [] h = refl
keep-map {A} {B} f t u (x ∷ xs) h = rw (h x (Memᴰ.head refl)) (go (u x) (keep-map f t u xs (λ y n. h y (Memᴰ.tail n))))
  where
    go : (s : Bool) → keep t (map f xs) ≡ map f (keep u xs) → cond s (f x ∷ keep t (map f xs)) (keep t (map f xs)) ≡ map f (cond s (x ∷ keep u xs) (keep u xs))
    go true e = ap (λ (l : List B). f x ∷ l) e
    go false e = e

-- something is kept exactly if some member passes the test
pub some-kept : {A : Type 0} (t : A → Bool) (l : List A) → (0 < length (keep t l)) ↔ ((x : A) × Memᴰ x l × (t x ≡ true))
some-kept {A} t l = (λ h. let w = first (keep t l) h in let k = keep-mem t l w.1 in (w.0, k.0, k.1), λ w. not-empty (mem-keep t w.1 w.2))
  where
    first : (m : List A) → 0 < length m → (x : A) × Memᴰ x m
    first [] h = absurd (omega arith)
    first (x ∷ xs) h = (x, Memᴰ.head refl)

    not-empty : {x : A} {m : List A} → Memᴰ x m → 0 < length m
    not-empty (Memᴰ.head e) = omega arith
    not-empty (Memᴰ.tail m) = omega arith

-- what passes the one test or the other, but never both
pub split-count : {A : Type 0} (t u v : A → Bool) → ((y : A) → (t y ≡ (u y || v y)) × (u y && v y ≡ false)) → (l : List A) →
    length (keep t l) ≡ length (keep u l) + length (keep v l)
unfolding keep
split-count t u v h [] = omega arith
split-count {A} t u v h (x ∷ xs) = go (t x) (u x) (v x) (h x).0 (h x).1 (split-count t u v h xs)
  where
    go : (p q r : Bool) → p ≡ (q || r) → q && r ≡ false → length (keep t xs) ≡ length (keep u xs) + length (keep v xs) →
        length (cond p (x ∷ keep t xs) (keep t xs)) ≡ length (cond q (x ∷ keep u xs) (keep u xs)) + length (cond r (x ∷ keep v xs) (keep v xs))
    go p true true e f i = clash refl f
    go p true false e f i = rw e (omega arith)
    go p false true e f i = rw e (omega arith)
    go p false false e f i = rw e (omega arith)
