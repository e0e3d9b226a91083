-- What is kept of lists, and of lists picked from the last number to the first.
use mathlib.Core.Path.{◌≡◌, refl, sym, ◌∙◌, ap, subst}
use mathlib.Core.Bool.{Bool, true, false, cond}
use mathlib.Core.List.{List, [], ◌∷◌, map, map-id}
use Prim.Native.Nat.{ℕ, suc, ◌+◌, ◌-◌, ◌≤◌, ◌<◌}
use native.Mathlib.Omega.{arith}
use native.Mathlib.Numerals.{add-one}
use borrow.Author.Tests.{ltb-true, lt-ltb, le-ltb}
use lib.Dec.{ltb}
use lib.ListN.{length, get_or, length-map}
use Rattle.order.proofs.SortedFirst.{up-down, up_none}
use Rattle.order.specs.Lists.{keep, up_from}
use Rattle.order.proofs.Bools.{by-test}
use Rattle.order.proofs.Numbers.{up_mem, up-length, map-up-at, map-places}
use Rattle.order.proofs.Members.{map-ext}
use Rattle.order.proofs.Keep.{keep-length}
use Rattle.serial_plan.specs.declared.few.Few.{Few}
use Rattle.serial_plan.specs.declared.path.Near.{Near}
use Rattle.serial_plan.specs.Few.{first_of, few_of, pushed, few_at, few_list, near, near_link}

abbrev few : ℕ → List ℕ → Few
few n xs = record { count = n; items = xs }

abbrev noted : ℕ → ℕ → Near
noted n x = record { count = n; first = x }

pub none-held : few 0 (first_of 16 []) ≡ few_of []
unfolding few_of
none-held = refl

pub pushed-held : (x : ℕ) (xs : List ℕ) → pushed (few_of xs) x ≡ few_of (x ∷ xs)
unfolding few_of pushed first_of
pushed-held x xs = ap (λ (m : ℕ). few m (first_of 16 (x ∷ xs))) (add-one (length xs))

nearer-near : (x : ℕ) (xs : List ℕ) → near_link (near xs) x ≡ near (x ∷ xs)
nearer-near x xs = ap (λ (m : ℕ). noted m x) (add-one (length xs))

pub slot_in : (f : Few) (j : ℕ) → j < 16 → get_or f.items j 0 ≡ few_at f j
slot_in f j h = let e = lt-ltb j 16 h in rw e

pub slot_past : (f : Few) (j : ℕ) → 16 ≤ j → 0 ≡ few_at f j
slot_past f j h = let e = le-ltb j 16 h in rw e

pub slot_held : (xs : List ℕ) (j : ℕ) → few_at (few_of xs) j ≡ cond (ltb j 16) (get_or xs j 0) 0
unfolding few_of first_of
slot_held xs j = by-test (ltb j 16) (λ e. let h = ltb-true j 16 e in let k =
    map-up-at (λ i. get_or xs i 0) 0 16 j 0 h in rw (e, k) (let z : 0 + j ≡ j = omega arith in ap (λ (i : ℕ). get_or xs i 0) z)) (λ e. rw e)

count_held : (xs : List ℕ) → (few_of xs).count ≡ length xs
unfolding few_of
count_held xs = refl

-- up to sixteen numbers are kept whole
pub listed-held : (xs : List ℕ) → length xs ≤ 16 → few_list (few_of xs) ≡ xs
unfolding few_list
listed-held xs h =
    ap (λ (n : ℕ). map (few_at (few_of xs)) (up_from 0 n)) (count_held xs)
    ∙ (map-ext (few_at (few_of xs)) (λ j. get_or xs j 0) (up_from 0 (length xs))
    (λ j m. let l = up_mem 0 (length xs) m in let e = lt-ltb j 16 (omega (arith, l.1)) in slot_held xs j ∙ rw e)
    ∙ map-places xs 0)

-- what is few_of of the values of k, …, n - 1 that pass
module _ {A : Type 0} (hold : List ℕ → A) (t : ℕ → Bool) (v : ℕ → ℕ) (n : ℕ) where
  pub record Gathered (k : ℕ) (f : A) : Type 0 where
    pub is : f ≡ hold (keep t (map v (up_from k (n - k))))

  gathered-start : (f : A) → f ≡ hold [] → Gathered n f
  unfolding keep
  gathered-start f e = record { is = e ∙ ap (λ (l : List ℕ). hold (keep t (map v l))) (sym (up_none n)) }

  -- as many as there were values, at most
  gathered-few : (k : ℕ) → n ≤ 256 → length (keep t (map v (up_from k (n - k)))) < 4294967295
  gathered-few k l = let m = length-map (up_from k (n - k)) v in omega (arith, keep-length t (map v (up_from k (n - k))), up-length k (n - k))

  gathered-end : {k : ℕ} {f : A} → Gathered k f → k ≡ 0 → f ≡ hold (keep t (map v (up_from 0 n)))
  gathered-end {k} {f} p e =
      let a : up_from k (n - k) ≡ up_from 0 n = ap (λ (m : ℕ). up_from m (n - m)) e ∙ (let z : n - 0 ≡ n = omega arith in ap (up_from 0) z) in
      p.is ∙ ap (λ (l : List ℕ). hold (keep t (map v l))) a

  module _ (push : A → ℕ → A) (grows : (x : ℕ) (xs : List ℕ) → push (hold xs) x ≡ hold (x ∷ xs)) where
    turn : (j : ℕ) {f g : A} → Gathered (suc j) f → j < n → g ≡ cond (t (v j)) (push f (v j)) f → Gathered j g
    unfolding keep
    turn j {f} {g} p l e = record { is = e ∙ (choose (t (v j)) ∙ ap (λ (xs : List ℕ). hold (keep t (map v xs))) (sym (up-down j n l))) }
      where
        later : List ℕ
        later = keep t (map v (up_from (suc j) (n - suc j)))

        choose : (b : Bool) → cond b (push f (v j)) f ≡ hold (cond b (v j ∷ later) later)
        choose true = ap (λ (h : A). push h (v j)) p.is ∙ grows (v j) later
        choose false = p.is

    gathered_next : {k : ℕ} {f g : A} (b : Bool) (x : ℕ) → Gathered k f → 0 < k → k ≤ n → g ≡ cond b (push f x) f → b ≡ t (v (k - 1)) → x ≡ v (k - 1)
        → Gathered (k - 1) g
    gathered_next {k} {f} {g} b x p l h e q y =
        let z : k ≡ suc (k - 1) = omega arith in
        turn (k - 1) (subst (λ (m : ℕ). Gathered m f) z p) (omega arith)
        (e ∙ (ap (λ (s : Bool). cond s (push f x) f) q ∙ ap (λ (w : ℕ). cond (t (v (k - 1))) (push f w) f) y))

module _ (t : ℕ → Bool) (v : ℕ → ℕ) (n : ℕ) where
  -- as the first sixteen
  abbrev pub Picked : ℕ → Few → Type 0
  Picked k f = Gathered few_of t v n k f

  -- as their number and the first of them
  abbrev pub Noted : ℕ → Near → Type 0
  Noted k f = Gathered near t v n k f

module _ {t : ℕ → Bool} {v : ℕ → ℕ} {n : ℕ} where
  pub picked-start : {f : Few} → f ≡ few_of [] → Picked t v n n f
  picked-start {f} = gathered-start few_of t v n f

  pub picked-room : {k : ℕ} {f : Few} → Picked t v n k f → n ≤ 256 → f.count < 4294967295
  unfolding few_of
  picked-room {k} {f} p l =
      let e : f.count ≡ length (keep t (map v (up_from k (n - k)))) = ap (λ (g : Few). g.count) p.is in
      omega (arith, gathered-few few_of t v n k l)

  pub picked_next : {k : ℕ} {f g : Few} {b : Bool} {x : ℕ} → Picked t v n k f → 0 < k → k ≤ n → g ≡ cond b (pushed f x) f → b ≡ t (v (k - 1))
      → x ≡ v (k - 1) → Picked t v n (k - 1) g
  picked_next {b = b} {x} = gathered_next few_of t v n pushed pushed-held b x

  pub picked-end : {k : ℕ} {f : Few} → Picked t v n k f → k ≡ 0 → f ≡ few_of (keep t (map v (up_from 0 n)))
  picked-end = gathered-end few_of t v n

  pub noted-start : {f : Near} → f ≡ near [] → Noted t v n n f
  noted-start {f} = gathered-start near t v n f

  pub noted-room : {k : ℕ} {f : Near} → Noted t v n k f → n ≤ 256 → f.count < 4294967295
  noted-room {k} {f} p l =
      let e : f.count ≡ length (keep t (map v (up_from k (n - k)))) = ap (λ (g : Near). g.count) p.is in
      omega (arith, gathered-few near t v n k l)

  pub noted-next : {k : ℕ} {f g : Near} {b : Bool} {x : ℕ} → Noted t v n k f → 0 < k → k ≤ n → g ≡ cond b (near_link f x) f → b ≡ t (v (k - 1))
      → x ≡ v (k - 1) → Noted t v n (k - 1) g
  noted-next {b = b} {x} = gathered_next near t v n near_link nearer-near b x

  pub noted-end : {k : ℕ} {f : Near} → Noted t v n k f → k ≡ 0 → f ≡ near (keep t (map v (up_from 0 n)))
  noted-end = gathered-end near t v n

pub picked-whole : {t : ℕ → Bool} {n k : ℕ} {f : Few} → Picked t (λ i. i) n k f → k ≡ 0 → f ≡ few_of (keep t (up_from 0 n))
picked-whole {t} {n} p e = picked-end p e ∙ ap (λ (l : List ℕ). few_of (keep t l)) (map-id (up_from 0 n))
