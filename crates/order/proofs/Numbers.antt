-- Numbers in a row, numbers in a list, and the order of numbers.
use mathlib.Core.Path.{◌≡◌, refl, ◌∙◌, ap}
use mathlib.Core.Logic.{⊎_elim, by_cases}
use mathlib.Core.Bool.{true}
use mathlib.Core.List.Memᴰ
use mathlib.Core.List.{List, [], ◌∷◌, ◌++◌, map, map-map, Memᴰ}
use Prim.Native.Nat.{ℕ, zero, suc, ◌+◌, ◌<◌, ◌≤◌}
use native.Mathlib.Omega.{arith}
use native.Mathlib.Decide.{ℕ_discrete}
use borrow.Author.Tests.{eqb-true, eq-eqb, leb-true, leb-false, le-leb}
use lib.Dec.{eqb, leb}
use lib.ListN.{length, get_or}
use Rattle.order.specs.Orders.{TotalOrder}
use Rattle.order.specs.Lists.{up_from, has}
use Rattle.order.specs.Pairs.{Pairs, none, more}
use Rattle.order.proofs.Bools.{clash, or_cases, or_right}

pub up_mem : (a n : ℕ) {i : ℕ} → Memᴰ i (up_from a n) → (a ≤ i) × (i < a + n)
unfolding up_from
up_mem a zero m = absurd (Memᴰ.not-nil m)
up_mem a (suc n) (Memᴰ.head e) = (omega arith, omega arith)
up_mem a (suc n) (Memᴰ.tail m) = let r = up_mem (suc a) n m in (omega arith, omega arith)

pub mem_up : (a n i : ℕ) → a ≤ i → i < a + n → Memᴰ i (up_from a n)
unfolding up_from
mem_up a zero i h l = absurd (omega arith)
mem_up a (suc n) i h l = by_cases (ℕ_discrete i a) (λ e. Memᴰ.head e) (λ e. Memᴰ.tail (mem_up (suc a) n i (omega arith) (omega arith)))

-- they rise
pub up_strict : (a n : ℕ) → Pairs (λ i j. i < j) (up_from a n)
unfolding up_from
up_strict a zero = none
up_strict a (suc n) = more {x = a} (λ j m. let r = up_mem (suc a) n m in omega arith) (up_strict (suc a) n)

pub up-length : (a n : ℕ) → length (up_from a n) ≡ n
unfolding up_from
up-length a zero = refl
up-length a (suc n) = ap suc (up-length (suc a) n)

-- the last one last
pub up-last : (a n : ℕ) → up_from a (suc n) ≡ up_from a n ++ ((a + n) ∷ [])
unfolding up_from
up-last a zero = let e : a ≡ a + 0 = omega arith in ap (λ (z : ℕ). z ∷ []) e
up-last a (suc n) = let e : suc a + n ≡ a + suc n = omega arith in
    ap (λ (l : List ℕ). a ∷ l) (up-last (suc a) n ∙ ap (λ (z : ℕ). up_from (suc a) n ++ (z ∷ [])) e)

-- what a map gives at a place
pub map_at : {A B : Type 0} (f : A → B) (l : List A) (i : ℕ) (d : A) (z : B) → i < length l → get_or (map f l) i z ≡ f (get_or l i d)
map_at f [] i d z h = absurd (omega arith)
map_at f (x ∷ xs) zero d z h = refl
map_at f (x ∷ xs) (suc i) d z h = map_at f xs i d z (omega arith)

-- what a function gives at each number of the row
pub map-up-at : {A : Type 0} (f : ℕ → A) (a n i : ℕ) (d : A) → i < n → get_or (map f (up_from a n)) i d ≡ f (a + i)
unfolding up_from
map-up-at f a zero i d h = absurd (omega arith)
map-up-at f a (suc n) zero d h = ap f (let e : a ≡ a + 0 = omega arith in e)
map-up-at f a (suc n) (suc i) d h = map-up-at f (suc a) n i d (omega arith) ∙ ap f (let e : suc a + i ≡ a + suc i = omega arith in e)

up_suc : (i n : ℕ) → up_from (suc i) n ≡ map suc (up_from i n)
unfolding up_from
up_suc i zero = refl
up_suc i (suc n) = ap (λ (l : List ℕ). suc i ∷ l) (up_suc (suc i) n)

-- a list by its places
pub map-places : {A : Type 0} (l : List A) (d : A) → map (λ i. get_or l i d) (up_from 0 (length l)) ≡ l
unfolding up_from
map-places [] d = refl
map-places {A} (x ∷ xs) d =
    ap (λ (l : List A). x ∷ l)
    (ap (map (λ i. get_or (x ∷ xs) i d)) (up_suc 0 (length xs)) ∙ (map-map (λ i. get_or (x ∷ xs) i d) suc (up_from 0 (length xs)) ∙ map-places xs d))

pub has-mem : (i : ℕ) (l : List ℕ) → has i l ≡ true → Memᴰ i l
unfolding has
has-mem i [] h = clash h refl
has-mem i (x ∷ xs) h = ⊎_elim (λ e. Memᴰ.head (eqb-true i x e)) (λ k. Memᴰ.tail (has-mem i xs k)) (or_cases (eqb i x) (has i xs) h)

pub mem-has : (i : ℕ) (l : List ℕ) → Memᴰ i l → has i l ≡ true
unfolding has
mem-has i [] x' = elim x' [ ]
mem-has i (x ∷ xs) (Memᴰ.head e) = rw (eq-eqb i x e)
mem-has i (x ∷ xs) (Memᴰ.tail m) = or_right (eqb i x) (mem-has i xs m)

pub leb-order : TotalOrder leb
leb-order = record {
  orders = record {
    total = λ a b e. le-leb b a (let h = leb-false a b e in omega arith);
    trans = λ a b c e f. le-leb a c (let h = leb-true a b e in let k = leb-true b c f in omega arith);
  };
  anti = λ a b e f. let h = leb-true a b e in let k = leb-true b a f in omega arith;
}
