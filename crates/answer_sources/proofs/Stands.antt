-- Boundaries that stand as observations, one rank after another.
use mathlib.Core.Path.{◌≡◌, refl, sym, ◌∙◌, ap, subst}
use mathlib.Core.Bool.{Bool, true, false, cond, not, ◌&&◌}
use mathlib.Core.Logic.{by_cases}
use mathlib.Core.List.Memᴰ
use mathlib.Core.List.Permᴰ
use mathlib.Core.List.{List, [], ◌∷◌, ◌++◌, map}
use Prim.Native.Nat.{ℕ, ◌+◌, ◌≤◌, ◌<◌}
use native.Mathlib.Decide.{ℕ_discrete, dec_lt}
use native.Mathlib.Numerals.{add-one}
use native.Mathlib.Omega.{arith}
use borrow.Author.Tests.{eq-eqb, ne_eqb}
use lib.Dec.{eqb}
use lib.ListN.{length, get_or, set, length-append, length-set, length-map, replicate, length-replicate}
use lib.Seq.{get_or-set_same, get_or-set_other}
use Rattle.lists.proofs.Rows.{zero-at}
use Rattle.order.specs.Lists.{keep, up_from}
use Rattle.order.specs.Pairs.{Distinct}
use Rattle.order.proofs.Distinct.{distinct-perm}
use Rattle.order.proofs.Keep.{keep_append}
use Rattle.order.proofs.Members.{perm-mem}
use Rattle.order.proofs.Numbers.{up_mem, mem_up, up-last, up-length, up_strict, map-up-at}
use Rattle.order.proofs.Pairs.{pairs-imp, pairs-at}
use Rattle.serial_merging.specs.Planned.{members}
use Rattle.answer_sources.specs.Gathered.{PlacesOrder}
use Rattle.answer_sources.specs.Standing.{stands_at, Standing, Sizes}

pub up_next : (a n : ℕ) → up_from a (n + 1) ≡ up_from a n ++ ((a + n) ∷ [])
up_next a n = rw add-one (up-last a n)

-- What a test takes of one more number.
pub keep-last : (t : ℕ → Bool) (j : ℕ) → keep t (up_from 0 (j + 1)) ≡ keep t (up_from 0 j) ++ cond (t j) (j ∷ []) []
unfolding keep
keep-last t j =
    let e : 0 + j ≡ j = omega arith in
    ap (keep t) (up_next 0 j ∙ ap (λ (z : ℕ). up_from 0 j ++ (z ∷ [])) e) ∙ keep_append t (up_from 0 j) (j ∷ [])

-- Those that go into a rank, of one rank more.
pub members-last : (plan : List ℕ) (j i : ℕ)
    → members (λ k. get_or plan k 0) (j + 1) i ≡ members (λ k. get_or plan k 0) j i ++ cond (eqb (get_or plan j 0) i) (j ∷ []) []
unfolding members
members-last plan j i = keep-last (λ k. eqb (get_or plan k 0) i) j

pub members-none : (plan : List ℕ) (i : ℕ) → members (λ k. get_or plan k 0) 0 i ≡ []
unfolding members keep up_from
members-none plan i = refl

length-one : (t : Bool) (j : ℕ) → length (cond t (j ∷ []) []) ≡ cond t 1 0
length-one true j = refl
length-one false j = refl

count_next : (plan : List ℕ) (j i : ℕ)
    → length (members (λ k. get_or plan k 0) (j + 1) i) ≡ length (members (λ k. get_or plan k 0) j i) + cond (eqb (get_or plan j 0) i) 1 0
count_next plan j i =
    ap length (members-last plan j i)
    ∙ (length-append (members (λ k. get_or plan k 0) j i) (cond (eqb (get_or plan j 0) i) (j ∷ []) [])
    ∙ ap (λ (c : ℕ). length (members (λ k. get_or plan k 0) j i) + c) (length-one (eqb (get_or plan j 0) i) j))

count-off : (plan : List ℕ) (j i : ℕ) → (get_or plan j 0 ≡ i → ⊥)
    → length (members (λ k. get_or plan k 0) (j + 1) i) ≡ length (members (λ k. get_or plan k 0) j i)
count-off plan j i d = count_next plan j i ∙ rw (ne_eqb (get_or plan j 0) i d) (omega arith)

count-on : (plan : List ℕ) (j i : ℕ) → get_or plan j 0 ≡ i → length (members (λ k. get_or plan k 0) (j + 1) i) ≡ length (members (λ k. get_or plan k 0) j i) + 1
count-on plan j i e = count_next plan j i ∙ rw (eq-eqb (get_or plan j 0) i e)

pub sizes-start : (plan : List ℕ) {sizes : List ℕ} → sizes ≡ replicate 256 0 → Sizes plan 0 sizes
sizes-start plan e = record {
  long = ap length e ∙ length-replicate {A = ℕ} 256 0;
  most = λ i. omega (arith, ap (λ (l : List ℕ). get_or l i 0) e, zero-at 256 i);
  there = λ i h. ap (λ (l : List ℕ). get_or l i 0) e ∙ (zero-at 256 i ∙ sym (ap length (members-none plan i)));
}

module _ {plan sizes : List ℕ} {j i : ℕ} (s : Sizes plan j sizes) (e : i ≡ get_or plan j 0) where
  sizes-set : {v : ℕ} → i < 256 → v ≡ get_or sizes i 0 + 1 → Sizes plan (j + 1) (set sizes i v)
  sizes-set {v} h f =
      let here : get_or (set sizes i v) i 0 ≡ v = get_or-set_same sizes i v 0 (omega (arith, s.long)) in
      record {
        long = length-set sizes i v ∙ s.long;
        most = λ q. by_cases (ℕ_discrete q i)
            (λ z. rw (z, here) (omega (arith, s.most i)))
            (λ d. rw (get_or-set_other sizes i q v 0 d) (omega (arith, s.most q)));
        there = λ q b. by_cases (ℕ_discrete q i)
            (λ z. rw (z, here) (omega (arith, s.there i h, count-on plan j i (sym e))))
            (λ d. get_or-set_other sizes i q v 0 d ∙ (s.there q b ∙ sym (count-off plan j q (λ z. d (sym z ∙ sym e)))));
      }

  sizes-skip : 256 ≤ i → Sizes plan (j + 1) sizes
  sizes-skip h = record {
    long = s.long;
    most = λ q. omega (arith, s.most q);
    there = λ q b. s.there q b ∙ sym (count-off plan j q (λ z. omega arith));
  }

  -- one rank more, whichever it goes into
  pub sizes-next : {after : List ℕ} → (i < 256 → after ≡ set sizes i (get_or sizes i 0 + 1)) → (256 ≤ i → after ≡ sizes) → Sizes plan (j + 1) after
  sizes-next f g =
      by_cases (dec_lt i 256)
      (λ l. subst (Sizes plan (j + 1)) (sym (f l)) (sizes-set l refl))
      (λ l. subst (Sizes plan (j + 1)) (sym (g (omega arith))) (sizes-skip (omega arith)))

pub sizes-end : {plan sizes : List ℕ} {j n : ℕ} → Sizes plan j sizes → j ≤ n → n ≤ j → Sizes plan n sizes
sizes-end {plan} {sizes} {j} {n} s h l = let e : j ≡ n = omega arith in subst (λ (z : ℕ). Sizes plan z sizes) e s

-- Ranks that differ have places that differ.
module _ (order : List ℕ) (n : ℕ) (p : PlacesOrder order n) where
  abbrev place_of : ℕ → ℕ
  place_of i = get_or order i 0

  pub place-below : (j : ℕ) → j < n → place_of j < n
  place-below j h = omega (arith, (up_mem 0 n (perm-mem (Permᴰ.symm p) (Memᴰ.map place_of (mem_up 0 n j (omega arith) (omega arith))))).1)

  places-distinct : Distinct (map place_of (up_from 0 n))
  places-distinct = distinct-perm p (pairs-imp (λ x y h e. omega (arith, h, e)) (up_strict 0 n))

  place_at_lem : (j : ℕ) → j < n → get_or (map place_of (up_from 0 n)) j 0 ≡ place_of j
  place_at_lem j h = map-up-at place_of 0 n j 0 h ∙ ap place_of (let e : 0 + j ≡ j = omega arith in e)

  pub places-apart : (k j : ℕ) → k < j → j < n → place_of k ≡ place_of j → ⊥
  places-apart k j h l e =
      let long : length (map place_of (up_from 0 n)) ≡ n = length-map (up_from 0 n) place_of ∙ up-length 0 n in
      pairs-at 0 places-distinct k j h (omega (arith, long)) (place_at_lem k (omega arith) ∙ (e ∙ sym (place_at_lem j l)))

-- The first j of n ranks.
pub record StandingTo (order plan : List ℕ) (seen : ℕ → ℕ) (n j : ℕ) (stands : List ℕ) : Type 0 where
  pub long : length stands ≡ 256
  pub there : (k : ℕ) → k < j → get_or plan k 0 < n → get_or stands (get_or order k 0) 0 ≡ stands_at order plan seen n k

pub standing-start : (order plan : List ℕ) (seen : ℕ → ℕ) (n : ℕ) {stands : List ℕ} → length stands ≡ 256 → StandingTo order plan seen n 0 stands
standing-start order plan seen n e = record { long = e; there = λ k h. absurd (omega arith) }

module _ {order plan stands : List ℕ} {seen : ℕ → ℕ} {n j b i : ℕ} (few : n ≤ 256) (p : PlacesOrder order n)
    (s : StandingTo order plan seen n j stands) (h : j < n) (x : b ≡ get_or order j 0) (y : i ≡ get_or plan j 0) where
  standing-set : (sizes : List ℕ) {v : ℕ} → Sizes plan n sizes → b < 256 → i < 256
      → v ≡ cond (eqb (seen b) 0 && not (eqb (get_or sizes i 0) 1)) 1 0 → StandingTo order plan seen n (j + 1) (set stands b v)
  unfolding stands_at members
  standing-set sizes {v} z small in-sizes e =
      let seen-is : seen b ≡ seen (get_or order j 0) = ap seen x in
      let many : get_or sizes i 0 ≡ length (members (λ k. get_or plan k 0) n (get_or plan j 0))
      = z.there i in-sizes ∙ ap (λ (q : ℕ). length (members (λ k. get_or plan k 0) n q)) y in
      let this : v ≡ stands_at order plan seen n j = e ∙ (λ q. cond (eqb (seen-is q) 0 && not (eqb (many q) 1)) 1 0) in
      record {
        long = length-set stands b v ∙ s.long;
        there = λ k l w. by_cases (ℕ_discrete k j)
            (λ d. ap (λ (q : ℕ). get_or (set stands b v) q 0) (ap (λ (q : ℕ). get_or order q 0) d ∙ sym x)
            ∙ (get_or-set_same stands b v 0 (omega (arith, s.long)) ∙ (this ∙ ap (stands_at order plan seen n) (sym d))))
            (λ d. get_or-set_other stands b (get_or order k 0) v 0 (λ q. places-apart order n p k j (omega arith) h (q ∙ x)) ∙ s.there k (omega arith) w);
      }

  standing-skip : 256 ≤ i → StandingTo order plan seen n (j + 1) stands
  standing-skip l = record {
    long = s.long;
    there = λ k m w. by_cases (ℕ_discrete k j)
        (λ d. absurd (let q = ap (λ (r : ℕ). get_or plan r 0) d in omega arith))
        (λ d. s.there k (omega arith) w);
  }

  -- one rank more, whichever it goes into
  pub standing-next : (sizes : List ℕ) {after : List ℕ} → Sizes plan n sizes → b < 256
      → (i < 256 → after ≡ set stands b (cond (eqb (seen b) 0 && not (eqb (get_or sizes i 0) 1)) 1 0)) → (256 ≤ i → after ≡ stands)
      → StandingTo order plan seen n (j + 1) after
  standing-next sizes {after} z small f g =
      by_cases (dec_lt i 256)
      (λ l. subst (StandingTo order plan seen n (j + 1)) (sym (f l)) (standing-set sizes z small l refl))
      (λ l. subst (StandingTo order plan seen n (j + 1)) (sym (g (omega arith))) (standing-skip (omega arith)))

pub standing-end : {order plan stands : List ℕ} {seen : ℕ → ℕ} {n j : ℕ} → StandingTo order plan seen n j stands → n ≤ j → Standing order plan seen n stands
standing-end s h = record { there = λ k l w. s.there k (omega arith) w }
