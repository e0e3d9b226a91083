-- Directions and their reverses; the sets in use are closed under reversal, and list each direction once.
use mathlib.Core.Path.{◌≡◌, refl, sym, ◌∙◌, ap₂, subst}
use mathlib.Core.Logic.{by_cases}
use mathlib.Core.Bool.{Bool, true, not, ◌&&◌}
use mathlib.Core.List.Memᴰ
use mathlib.Core.List.{List, [], Memᴰ}
use Prim.Native.Nat.{ℕ, ◌+◌, ◌/◌, ◌%◌, ◌^◌, ◌<◌}
use native.Mathlib.Omega.{arith}
use native.Mathlib.Decide.{ℕ_discrete}
use borrow.Author.Tests.{ltb-true, eqb-false, eq-eqb, ne_eqb, not-true}
use lib.Dec.{ltb, eqb}
use Rattle.order.specs.Lists.{keep, has, up_from}
use Rattle.order.specs.Pairs.{Distinct}
use Rattle.order.proofs.Bools.{clash, is_false, by-test, and_parts}
use Rattle.order.proofs.Pairs.{pairs-imp, pairs-append}
use Rattle.order.proofs.Keep.{keep-mem, mem-keep, keep-pairs}
use Rattle.order.proofs.Numbers.{up_mem, mem_up, up_strict, has-mem, mem-has}
use Rattle.grid.specs.Directions.{IsDirection, right, down, reverse, diagonal, eight, four, directions_of, ClosedUnderReversal}

-- the reverse leads back
pub reverse-right : (d : ℕ) → d < 9 → right d + right (reverse d) ≡ 2
reverse-right d l = omega arith

pub reverse-down : (d : ℕ) → d < 9 → down d + down (reverse d) ≡ 2
reverse-down d l = omega arith

-- what adds up to 2 is 1 on both sides or on neither
middle : (m n : ℕ) → m + n ≡ 2 → not (eqb m 1) ≡ not (eqb n 1)
middle m n e = by_cases (ℕ_discrete m 1) (λ h. rw (eq-eqb m 1 h, eq-eqb n 1 (omega arith))) (λ h. rw (ne_eqb m 1 h, ne_eqb n 1 (λ k. h (omega arith))))

pub reverse-diagonal : (d : ℕ) → d < 9 → diagonal d ≡ diagonal (reverse d)
unfolding diagonal
reverse-diagonal d l = ap₂ ◌&&◌ (middle (right d) (right (reverse d)) (reverse-right d l)) (middle (down d) (down (reverse d)) (reverse-down d l))

-- where no member fails the test, each passes
each-passes : {A : Type 0} (t : A → Bool) (l : List A) → keep (λ x. not (t x)) l ≡ [] → (x : A) → Memᴰ x l → t x ≡ true
each-passes {A} t l e x m =
    by-test (t x) (λ h. h) (λ h. absurd (Memᴰ.not-nil (subst (λ (k : List A). Memᴰ x k) e (mem-keep (λ y. not (t y)) m (rw h)))))

-- a direction whose reverse is in the set
abbrev turns : List ℕ → ℕ → Bool
turns dirs d = (ltb d 9 && not (eqb d 4)) && has (reverse d) dirs

closed-by-test : (dirs : List ℕ) → keep (λ d. not (turns dirs d)) dirs ≡ [] → ClosedUnderReversal dirs
closed-by-test dirs e = record { each = λ d m. direction d (parts d m).0; back = λ d m. has-mem (reverse d) dirs (parts d m).1 }
  where
    parts : (d : ℕ) → Memᴰ d dirs → (ltb d 9 && not (eqb d 4) ≡ true) × (has (reverse d) dirs ≡ true)
    parts d m = and_parts (ltb d 9 && not (eqb d 4)) (has (reverse d) dirs) (each-passes (turns dirs) dirs e d m)

    direction : (d : ℕ) → ltb d 9 && not (eqb d 4) ≡ true → IsDirection d
    direction d h = let p = and_parts (ltb d 9) (not (eqb d 4)) h in (ltb-true d 9 p.0, eqb-false d 4 (not-true (eqb d 4) p.1))

pub eight-closed : ClosedUnderReversal eight
unfolding keep has
eight-closed = closed-by-test eight refl

pub four-closed : ClosedUnderReversal four
unfolding keep has
four-closed = closed-by-test four refl

-- no direction stands twice in them
pub eight-distinct : Distinct eight
unfolding up_from
eight-distinct = pairs-imp (λ i j l e. omega arith) (pairs-append (up_strict 0 4) (up_strict 5 4) (λ i j m n. omega (arith, up_mem 0 4 m, up_mem 5 4 n)))

pub four-distinct : Distinct four
unfolding keep diagonal
four-distinct = keep-pairs (λ d. not (diagonal d)) eight-distinct

-- a set of directions as a number: its members are its bits
has-keep : (t : ℕ → Bool) (d : ℕ) (l : List ℕ) → Memᴰ d l → has d (keep t l) ≡ t d
has-keep t d l m =
    by-test (t d) (λ h. mem-has d (keep t l) (mem-keep t m h) ∙ sym h)
    (λ h. is_false (has d (keep t l)) (λ k. clash (keep-mem t l (has-mem d (keep t l) k)).1 h) ∙ sym h)

pub has-bit : (set d : ℕ) → d < 9 → eqb (set / 2 ^ d % 2) 1 ≡ has d (directions_of set)
unfolding directions_of
has-bit set d l = sym (has-keep (λ d. eqb (set / 2 ^ d % 2) 1) d (up_from 0 9) (mem_up 0 9 d (omega arith) (omega arith)))

pub directions-eight : directions_of 495 ≡ eight
unfolding directions_of keep up_from
directions-eight = refl
