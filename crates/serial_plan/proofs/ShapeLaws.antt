-- Tests of values, and the first of a sorted list, from the last value to the first.
use mathlib.Core.Path.{◌≡◌, refl, sym, ◌∙◌, ap, subst}
use mathlib.Core.Bool.{Bool, true, false, cond, ◌&&◌}
use mathlib.Core.List.Memᴰ
use mathlib.Core.List.{List, [], ◌∷◌, map, Memᴰ}
use Prim.Native.Nat.{ℕ, zero, suc, ◌-◌, ◌≤◌, ◌<◌}
use native.Mathlib.Omega.{arith}
use lib.Dec.{ltb}
use lib.ListN.{length, get_or, length-map}
use Rattle.order.specs.Lists.{keep, up_from}
use Rattle.order.proofs.Keep.{keep-mem}
use Rattle.order.proofs.Numbers.{up-length}
use Rattle.order.specs.Tests.{every}
use Rattle.serial_plan.specs.declared.few.Few.{Few}
use Rattle.serial_plan.specs.declared.path.Near.{Near}
use Rattle.serial_plan.specs.Few.{first_of, few_of, few_at, few_list, near}
use Rattle.order.proofs.SortedFirst.{up-down, up_none}
use Rattle.serial_plan.proofs.FewLaws.{slot_held, Picked, picked-end, Noted, noted-end}

pub picked-listed : {t : ℕ → Bool} (f : Few) {k : ℕ} {g : Few} → Picked t (few_at f) f.count k g → k ≡ 0 → g ≡ few_of (keep t (few_list f))
unfolding few_list
picked-listed f p e = picked-end p e

pub noted-listed : {t : ℕ → Bool} (f : Few) {k : ℕ} {g : Near} → Noted t (few_at f) f.count k g → k ≡ 0 → g ≡ near (keep t (few_list f))
unfolding few_list
noted-listed f p e = noted-end p e

pub listed-length : (f : Few) → length (few_list f) ≡ f.count
unfolding few_list
listed-length f = length-map (up_from 0 f.count) (few_at f) ∙ up-length 0 f.count

pub held-count : {f : Few} (xs : List ℕ) → f ≡ few_of xs → f.count ≡ length xs
unfolding few_of
held-count xs e = ap (λ (g : Few). g.count) e

pub held_first : {f : Few} (xs : List ℕ) → f ≡ few_of xs → few_at f 0 ≡ get_or xs 0 0
unfolding few_of first_of
held_first xs e = ap (λ (g : Few). few_at g 0) e

pub held-second : {f : Few} (xs : List ℕ) → f ≡ few_of xs → few_at f 1 ≡ get_or xs 1 0
unfolding few_of first_of
held-second xs e = ap (λ (g : Few). few_at g 1) e

-- what holds of each number that is kept
module _ (P : ℕ → Type 0) where
  one_of : (t : Bool) {a b : ℕ} → P a → P b → P (cond t a b)
  one_of true h i = h
  one_of false h i = i

  pub at_each : (xs : List ℕ) (j : ℕ) → ((x : ℕ) → Memᴰ x xs → P x) → P 0 → P (get_or xs j 0)
  at_each [] j f z = z
  at_each (x ∷ xs) zero f z = f x (Memᴰ.head refl)
  at_each (x ∷ xs) (suc j) f z = at_each xs j (λ y m. f y (Memᴰ.tail m)) z

  pub held-slots : (xs : List ℕ) {f : Few} → f ≡ few_of xs → ((x : ℕ) → Memᴰ x xs → P x) → P 0 → (j : ℕ) → P (few_at f j)
  held-slots xs e f z j = rw (e, slot_held xs j) (one_of (ltb j 16) (at_each xs j f z) z)

  pub listed-each : (f : Few) → ((j : ℕ) → P (few_at f j)) → (x : ℕ) → Memᴰ x (few_list f) → P x
  unfolding few_list
  listed-each f h x m = let w = Memᴰ.of_map (few_at f) (up_from 0 f.count) m in subst P w.2 (h w.0)

  pub kept-slots : (t : ℕ → Bool) (f : Few) {g : Few} → g ≡ few_of (keep t (few_list f)) → ((j : ℕ) → P (few_at f j)) → P 0 → (j : ℕ) → P (few_at g j)
  kept-slots t f e h z = held-slots (keep t (few_list f)) e (λ x m. listed-each f h x (keep-mem t (few_list f) m).0) z

  pub kept-first : (t : ℕ → Bool) (f : Few) {g : Near} → g ≡ near (keep t (few_list f)) → ((j : ℕ) → P (few_at f j)) → P 0 → P g.first
  kept-first t f {g} e h z =
      subst P (sym (ap (λ (r : Near). r.first) e)) (at_each (keep t (few_list f)) 0 (λ x m. listed-each f h x (keep-mem t (few_list f) m).0) z)

module _ (t : ℕ → Bool) (v : ℕ → ℕ) (n : ℕ) where
  -- the values of k, …, n - 1 all pass, or not
  pub record Each (k : ℕ) (b : Bool) : Type 0 where
    pub is : b ≡ every t (map v (up_from k (n - k)))

  pub each_start : Each n true
  unfolding every
  each_start = record { is = ap (λ (l : List ℕ). every t (map v l)) (sym (up_none n)) }

  turn : (j : ℕ) {b d : Bool} → Each (suc j) b → j < n → d ≡ t (v j) && b → Each j d
  unfolding every
  turn j p l e = record { is = e ∙ (ap (λ (s : Bool). t (v j) && s) p.is ∙ ap (λ (xs : List ℕ). every t (map v xs)) (sym (up-down j n l))) }

  pub each_next : {k : ℕ} {b d : Bool} (x : Bool) → Each k b → 0 < k → k ≤ n → x ≡ t (v (k - 1)) → d ≡ x && b → Each (k - 1) d
  each_next {k} {b} x p l h e q =
      let z : k ≡ suc (k - 1) = omega arith in
      turn (k - 1) (subst (λ (m : ℕ). Each m b) z p) (omega arith) (q ∙ ap (λ (s : Bool). s && b) e)

  pub each-end : {k : ℕ} {b : Bool} → Each k b → k ≡ 0 → b ≡ every t (map v (up_from 0 n))
  each-end {k} p e =
      let a : up_from k (n - k) ≡ up_from 0 n = ap (λ (m : ℕ). up_from m (n - m)) e ∙ (let z : n - 0 ≡ n = omega arith in ap (up_from 0) z) in
      p.is ∙ ap (λ (l : List ℕ). every t (map v l)) a

pub each-listed : (t : ℕ → Bool) (f : Few) {k : ℕ} {b : Bool} → Each t (few_at f) f.count k b → k ≡ 0 → b ≡ every t (few_list f)
unfolding few_list
each-listed t f p e = each-end t (few_at f) f.count p e
