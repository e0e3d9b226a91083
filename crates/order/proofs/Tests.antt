-- Laws of the tests of a list's members.
use mathlib.Core.Path.{◌≡◌, refl, sym, ◌∙◌}
use mathlib.Core.Logic.{◌↔◌, ◌⊎◌, inl, inr, ⊎_elim}
use mathlib.Core.Bool.{Bool, true, false, ◌&&◌, ◌||◌}
use mathlib.Core.List.Permᴰ
use mathlib.Core.List.{List, [], ◌∷◌, ◌++◌, map, Memᴰ, Permᴰ}
use Prim.Native.Nat.{ℕ}
use native.Mathlib.Omega.{arith}
use borrow.Author.Tests.{eqb-true, eq-eqb}
use lib.Dec.{eqb}
use lib.ListN.{length, get_or}
use Rattle.order.proofs.Bools.{clash, is_false, by-test, and_parts, and_both, or_cases, or_right}
use Rattle.order.proofs.Members.{perm-mem}
use Rattle.order.specs.Tests.{every, any}

module _ {A : Type 0} (t : A → Bool) where
  pub every-mem : {x : A} {l : List A} → Memᴰ x l → every t l ≡ true → t x ≡ true
  unfolding every
  every-mem (Memᴰ.head {x = y} {xs = ys} e) h = rw e (and_parts (t y) (every t ys) h).0
  every-mem (Memᴰ.tail {x = y} {xs = ys} m) h = every-mem m (and_parts (t y) (every t ys) h).1

  pub mem-every : (l : List A) → ((x : A) → Memᴰ x l → t x ≡ true) → every t l ≡ true
  unfolding every
  mem-every [] f = refl
  mem-every (x ∷ xs) f = and_both (f x (Memᴰ.head refl)) (mem-every xs (λ y m. f y (Memᴰ.tail m)))

  pub mem-any : {x : A} {l : List A} → Memᴰ x l → t x ≡ true → any t l ≡ true
  unfolding any
  mem-any (Memᴰ.head {x = y} {xs = ys} e) h = let k : t y ≡ true = rw (← e) h in rw k
  mem-any (Memᴰ.tail {x = y} m) h = or_right (t y) (mem-any m h)

  pub any-mem : (l : List A) → any t l ≡ true → (x : A) × Memᴰ x l × (t x ≡ true)
  unfolding any
  any-mem [] h = clash h refl
  any-mem (y ∷ ys) h =
      ⊎_elim (λ (e : t y ≡ true). (y, Memᴰ.head refl, e))
      (λ (e : any t ys ≡ true). let w = any-mem ys e in (w.0, Memᴰ.tail w.1, w.2))
      (or_cases (t y) (any t ys) h)

-- tests that say the same of each member
pub every-ext : {A : Type 0} (t u : A → Bool) (l : List A) → ((y : A) → Memᴰ y l → t y ≡ u y) → every t l ≡ every u l
unfolding every
every-ext t u [] f = refl
every-ext t u (x ∷ xs) f =
    let a : t x ≡ u x = f x (Memᴰ.head refl) in
    let b : every t xs ≡ every u xs = every-ext t u xs (λ y m. f y (Memᴰ.tail m)) in
    rw (a, b)

pub every_map : {A B : Type 0} (f : A → B) (t : B → Bool) (u : A → Bool) (l : List A) → ((y : A) → Memᴰ y l → t (f y) ≡ u y)
    → every t (map f l) ≡ every u l
unfolding every
every_map f t u [] h = refl
every_map f t u (x ∷ xs) h =
    let a : t (f x) ≡ u x = h x (Memᴰ.head refl) in
    let b : every t (map f xs) ≡ every u xs = every_map f t u xs (λ y m. h y (Memᴰ.tail m)) in
    rw (a, b)

-- one member more, at the end
pub every-last : {A : Type 0} (t : A → Bool) (l : List A) (x : A) → every t (l ++ (x ∷ [])) ≡ (every t l && t x)
unfolding every
every-last t [] x = by-test (t x) (λ e. rw e) (λ e. rw e)
every-last t (y ∷ ys) x = let h : every t (ys ++ (x ∷ [])) ≡ (every t ys && t x) = every-last t ys x in by-test (t y) (λ e. rw (e, h)) (λ e. rw e)

-- whether all pass does not depend on the order
pub every-perm : {A : Type 0} (t : A → Bool) {l m : List A} → Permᴰ l m → every t l ≡ every t m
every-perm t {l} {m} p = by-test (every t l) there back
  where
    there : every t l ≡ true → every t l ≡ every t m
    there h = h ∙ sym (mem-every t m (λ x k. every-mem t (perm-mem (Permᴰ.symm p) k) h))

    back : every t l ≡ false → every t l ≡ every t m
    back h = h ∙ sym (is_false (every t m) (λ k. clash (mem-every t l (λ x j. every-mem t (perm-mem p j) k)) h))

-- a number that is one of two
pub either-iff : (i m n : ℕ) → (eqb i m || eqb i n ≡ true) ↔ ((i ≡ m) ⊎ (i ≡ n))
either-iff i m n = (
  λ h. ⊎_elim (λ e. inl (eqb-true i m e)) (λ e. inr (eqb-true i n e)) (or_cases (eqb i m) (eqb i n) h),
  ⊎_elim (λ (e : i ≡ m). let t = eq-eqb i m e in rw t refl) (λ (e : i ≡ n). or_right (eqb i m) (eq-eqb i n e)),
)

-- a list of two
pub two-members : {A : Type 0} (l : List A) (d : A) → length l ≡ 2 → l ≡ get_or l 0 d ∷ get_or l 1 d ∷ []
two-members [] d e = absurd (omega arith)
two-members (x ∷ []) d e = absurd (omega arith)
two-members (x ∷ y ∷ []) d e = refl
two-members (x ∷ y ∷ z ∷ zs) d e = absurd (omega arith)
