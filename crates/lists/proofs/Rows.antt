-- Laws of rows and of sums.
use mathlib.Core.Path.{◌≡◌, refl, sym, ◌∙◌, ap}
use mathlib.Core.List.{List, [], ◌∷◌, ◌++◌, map, Permᴰ}
use Prim.Native.Nat.{ℕ, zero, suc, ◌+◌, ◌-◌, ◌≤◌, ◌<◌}
use native.Mathlib.Nat.{zero-add, suc-add}
use native.Mathlib.Omega.{arith}
use lib.ListN.{length, get_or, take, drop, replicate, take-append-drop}
use lib.Seq.{take-suc}
use Rattle.lists.specs.Rows.{rows, sum, more}

module _ {A : Type 0} where
  pub length-rows : (n : ℕ) (f : ℕ → A) → length (rows n f) ≡ n
  unfolding rows
  length-rows zero f = refl
  length-rows (suc n) f = ap suc (length-rows n (λ i. f (suc i)))

  pub rows_at : (n : ℕ) (f : ℕ → A) (i : ℕ) (d : A) → i < n → get_or (rows n f) i d ≡ f i
  unfolding rows
  rows_at zero f i d h = absurd (omega arith)
  rows_at (suc n) f zero d h = refl
  rows_at (suc n) f (suc i) d h = rows_at n (λ k. f (suc k)) i d (omega arith)

  -- Rows that agree number by number are equal.
  pub rows_same : (n : ℕ) (f g : ℕ → A) → ((i : ℕ) → i < n → f i ≡ g i) → rows n f ≡ rows n g
  unfolding rows
  rows_same zero f g e = refl
  rows_same (suc n) f g e =
      let h : f 0 ≡ g 0 = e 0 (omega arith) in
      let t : rows n (λ i. f (suc i)) ≡ rows n (λ i. g (suc i)) = rows_same n (λ i. f (suc i)) (λ i. g (suc i)) (λ i l. e (suc i) (omega arith)) in
      rw (h, t)

  -- The first n rows, then the others.
  pub rows_split : (n m : ℕ) (f : ℕ → A) → rows (n + m) f ≡ rows n f ++ rows m (λ i. f (n + i))
  unfolding rows
  rows_split zero m f = rw zero-add (rows_same m f (λ i. f (0 + i)) (λ i l. rw zero-add))
  rows_split (suc n) m f =
      rw suc-add (ap (λ (t : List A). f 0 ∷ t)
      (rows_split n m (λ i. f (suc i))
      ∙ ap (λ (t : List A). rows n (λ i. f (suc i)) ++ t)
      (rows_same m (λ i. f (suc (n + i))) (λ i. f (suc n + i)) (λ i l. rw suc-add))))

  -- The last row.
  pub rows_last : (n : ℕ) (f : ℕ → A) → rows (suc n) f ≡ rows n f ++ (f n ∷ [])
  unfolding rows
  rows_last zero f = refl
  rows_last (suc n) f = ap (λ (t : List A). f 0 ∷ t) (rows_last n (λ i. f (suc i)))

pub map_rows : {A B : Type 0} (g : A → B) (n : ℕ) (f : ℕ → A) → map g (rows n f) ≡ rows n (λ i. g (f i))
unfolding rows
map_rows g zero f = refl
map_rows g (suc n) f = ap (λ t. g (f 0) ∷ t) (map_rows g n (λ i. f (suc i)))

pub sum-append : (xs ys : List ℕ) → sum (xs ++ ys) ≡ sum xs + sum ys
unfolding sum
sum-append [] ys = omega arith
sum-append (x ∷ xs) ys = let e : sum (xs ++ ys) ≡ sum xs + sum ys = sum-append xs ys in omega arith

-- One more member adds its number; a front part adds up to no more than the whole.
pub sum-take : (xs : List ℕ) (n : ℕ) → n < length xs → sum (take (suc n) xs) ≡ sum (take n xs) + get_or xs n 0
unfolding sum
sum-take xs n h = rw (take-suc xs n 0 h) (sum-append (take n xs) (get_or xs n 0 ∷ []) ∙ omega arith)

pub sum-front : (xs : List ℕ) (n : ℕ) → sum (take n xs) ≤ sum xs
sum-front xs n =
    let e : sum xs ≡ sum (take n xs) + sum (drop n xs) = ap sum (sym (take-append-drop n xs)) ∙ sum-append (take n xs) (drop n xs) in
    omega arith

-- One more row adds its number.
pub sum-last : (n : ℕ) (f : ℕ → ℕ) → sum (rows (suc n) f) ≡ sum (rows n f) + f n
unfolding sum
sum-last n f = rw rows_last (sum-append (rows n f) (f n ∷ []) ∙ omega arith)

-- The sum of the first rows is no larger than that of all.
pub sum-prefix : (k n : ℕ) (f : ℕ → ℕ) → k ≤ n → sum (rows k f) ≤ sum (rows n f)
sum-prefix k n f h =
    let e : n ≡ k + (n - k) = omega arith in
    let s : sum (rows n f) ≡ sum (rows k f) + sum (rows (n - k) (λ i. f (k + i)))
    = ap (λ (m : ℕ). sum (rows m f)) e ∙ ap sum (rows_split k (n - k) f) ∙ sum-append (rows k f) (rows (n - k) (λ i. f (k + i))) in
    omega arith

-- The order of the terms changes no sum.
pub sum-perm : {l m : List ℕ} → Permᴰ l m → sum l ≡ sum m
unfolding sum
sum-perm Permᴰ.nil = refl
sum-perm (Permᴰ.cons e p) = let k = sum-perm p in omega arith
sum-perm (Permᴰ.swap e f) = omega arith
sum-perm (Permᴰ.trans p q) = sum-perm p ∙ sum-perm q

-- What zeros have at a place.
pub zero-at : (n k : ℕ) → ◌≡◌ {A = ℕ} (get_or (replicate n 0) k 0) 0
zero-at zero k = refl
zero-at (suc n) zero = refl
zero-at (suc n) (suc k) = zero-at n k
