-- Two lists whose members at each place are related.
use mathlib.Core.Path.{◌≡◌, refl, subst}
use mathlib.Core.Bool.{Bool, true, false, cond}
use mathlib.Core.List.{List, [], ◌∷◌, ◌++◌, Memᴰ}
use Prim.Native.Nat.{ℕ, zero, suc, ◌+◌, ◌<◌}
use native.Mathlib.Omega.{arith}
use lib.ListN.{length, get_or}
use Rattle.lists.specs.Rows.{rows}
use Rattle.order.specs.Sorting.{insert, sort}
use Rattle.order.specs.Lists.{gather, up_from}

pub data Matched {A B : Type 0} (R : A → B → Type 0) : List A → List B → Type 0 where
  nil : Matched R [] []
  next : {x : A} {y : B} {xs : List A} {ys : List B} → R x y → Matched R xs ys → Matched R (x ∷ xs) (y ∷ ys)

module _ {A B : Type 0} {R : A → B → Type 0} where
  pub matched-append : {k l : List A} {m n : List B} → Matched R k m → Matched R l n → Matched R (k ++ l) (m ++ n)
  matched-append nil t = t
  matched-append (next r s) t = next r (matched-append s t)

  pub matched-length : {l : List A} {m : List B} → Matched R l m → length l ≡ length m
  matched-length nil = refl
  matched-length (next r s) = let e = matched-length s in omega arith

  pub matched-at : {l : List A} {m : List B} → Matched R l m → (d : A) (e : B) (i : ℕ) → i < length m → R (get_or l i d) (get_or m i e)
  matched-at nil d e i h = absurd (omega arith)
  matched-at (next r s) d e zero h = r
  matched-at (next r s) d e (suc i) h = matched-at s d e i (omega arith)

  pub matched-by : (d : A) (e : B) (l : List A) (m : List B) → length l ≡ length m → ((i : ℕ) → i < length m → R (get_or l i d) (get_or m i e)) → Matched R l m
  matched-by d e [] [] h f = nil
  matched-by d e [] (y ∷ m) h f = absurd (omega arith)
  matched-by d e (x ∷ l) [] h f = absurd (omega arith)
  matched-by d e (x ∷ l) (y ∷ m) h f = next (f 0 (omega arith)) (matched-by d e l m (omega arith) (λ i k. f (suc i) (omega arith)))

  pub matched-gather : {C : Type 0} (f : C → List A) (g : C → List B) (l : List C) → ((x : C) → Memᴰ x l → Matched R (f x) (g x))
      → Matched R (gather f l) (gather g l)
  unfolding gather
  matched-gather f g [] h = nil
  matched-gather f g (x ∷ xs) h = matched-append (h x (Memᴰ.head refl)) (matched-gather f g xs (λ y m. h y (Memᴰ.tail m)))

  -- Orders that agree on what is related sort both lists alike.
  module _ (le : A → A → Bool) (other : B → B → Bool) (agree : (x y : A) (a b : B) → R x a → R y b → le x y ≡ other a b) where
    matched-insert : {x : A} {a : B} {l : List A} {m : List B} → R x a → Matched R l m → Matched R (insert le x l) (insert other a m)
    unfolding insert
    matched-insert r nil = next r nil
    matched-insert {x} {a} r (next {x = y} {y = b} {xs = l} {ys = m} q s) = rw (agree x y a b r q) (go (other a b) (matched-insert r s))
      where
        go : (t : Bool) → Matched R (insert le x l) (insert other a m)
            → Matched R (cond t (x ∷ y ∷ l) (y ∷ insert le x l)) (cond t (a ∷ b ∷ m) (b ∷ insert other a m))
        go true i = next r (next q s)
        go false i = next q i

    pub matched-sort : {l : List A} {m : List B} → Matched R l m → Matched R (sort le l) (sort other m)
    unfolding sort
    matched-sort nil = nil
    matched-sort (next r s) = matched-insert r (matched-sort s)

-- Numbers in a row, and what each stands for.
pub matched-rows : {B : Type 0} {R : ℕ → B → Type 0} (a n : ℕ) (f : ℕ → B) → ((k : ℕ) → k < n → R (a + k) (f k)) → Matched R (up_from a n) (rows n f)
unfolding up_from rows
matched-rows a zero f h = nil
matched-rows {B} {R} a (suc n) f h =
    let z : a + 0 ≡ a = omega arith in
    next (subst (λ (k : ℕ). R k (f 0)) z (h 0 (omega arith)))
    (matched-rows (suc a) n (λ k. f (suc k))
    (λ k l. let e : a + suc k ≡ suc a + k = omega arith in subst (λ (w : ℕ). R w (f (suc k))) e (h (suc k) (omega arith))))
