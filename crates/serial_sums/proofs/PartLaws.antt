-- The parts of a sum: one after another, then sorted by their bits and added up.
use mathlib.Core.Path.{◌≡◌, refl, sym, ◌∙◌, ap, subst}
use mathlib.Core.Logic.{⊎_elim}
use mathlib.Core.Bool.{Bool, true, not, ◌&&◌}
use mathlib.Core.List.Memᴰ
use mathlib.Core.List.{List, [], ◌∷◌, ◌++◌, map, map-map, map-id, map-append, Memᴰ}
use mathlib.Core.List.Permᴰ
use Prim.Native.Nat.{ℕ, suc, ◌+◌, ◌-◌, ◌≤◌, ◌<◌}
use native.Mathlib.Numerals.{add-one}
use native.Mathlib.Omega.{arith}
use borrow.Author.Tests.{lt-ltb, le-leb, lt-leb, leb-true, leb-false}
use lib.Dec.{T, leb}
use lib.Ieee.{Float, binary64, of_bits, to_bits, nan_bits, is_nan}
use lib.Ieee.Bits.{of_bits-to_bits, nan_bits_is}
use lib.ListN.{length, get_or, set, take, length-set, length-map, length-append}
use lib.Seq.{take-suc-set, get_or-take, length-take-le}
use Rattle.wire.specs.Bytes.{part, splice}
use Rattle.wire.proofs.Parts.{length-splice, take-splice}
use Rattle.order.specs.Lists.{up_from}
use Rattle.order.specs.Sorting.{sort}
use Rattle.order.specs.Tests.{every}
use Rattle.order.proofs.Bools.{by-test}
use Rattle.order.proofs.Members.{perm-mem, get_d-mem, map-ext}
use Rattle.order.proofs.Merge.{sort-length}
use Rattle.order.proofs.Numbers.{up-length, up-last}
use Rattle.order.proofs.Sort.{sort-perm, sort-map, sort-ext}
use Rattle.order.proofs.Tests.{every-last}
use Rattle.sorting.specs.Between.{between}
use Rattle.length.specs.Length.{length_at}
use Rattle.length.specs.Total.{total_key, total_le}
use Rattle.length.specs.declared.Length.{Length}
use Rattle.serial_sums.specs.Numbers.{Number}
use Rattle.serial_sums.specs.Sums.{no_later, sum_of, ascending_sum, Patterns}
use Rattle.serial_sums.specs.Totals.{length_value, is_exact, ascending_total}
use Rattle.serial_sums.specs.Parts.{PartValue, value_bits, PartsOf, WithPart}
use Rattle.serial_sums.specs.declared.Parts.{Parts}
use Rattle.serial_sums.proofs.Numbers.{upward-number, upward-bits, length-upward, length-fits}

-- a length's value may be a part
pub length_part : (d : ℕ) {x : Length} → x ≡ length_at d → PartValue x.value
length_part d e = subst (λ (y : Length). PartValue y.value) (sym e) (record { up = length-upward d; held = length-fits d })

pub part-number : {x : Float} → PartValue x → Number x
part-number {x} p = upward-number x p.up

pub no-parts : {p : Parts} → length p.bits ≡ 16 → p.count ≡ 0 → p.exact ≡ true → PartsOf p []
unfolding every
no-parts e c t = record {
  size = e;
  count = c;
  most = omega arith;
  first = refl;
  exact = t;
  each = λ x m. absurd (Memᴰ.not-nil m);
}

-- one part more
module _ {p q : Parts} (x : Length) {j : ℕ} (few : p.count < 16) (plain : PartValue x.value) (at : j ≡ p.count)
    (bits : q.bits ≡ set p.bits j (value_bits x)) where
  pub one_more : q.count ≡ p.count + 1 → q.exact ≡ (p.exact && x.exact) → WithPart p x q
  one_more c e ls h = record {
    size = ap (λ (l : List ℕ). length l) bits ∙ (length-set p.bits j (value_bits x) ∙ h.size);
    count = c ∙ (ap (λ (n : ℕ). n + 1) h.count ∙ sym (length-append ls (x ∷ [])));
    most = omega (arith, h.count, length-append ls (x ∷ []));
    first = ap (λ (l : List ℕ). take (length (ls ++ (x ∷ []))) l) bits ∙ front;
    exact = e ∙ (ap (λ (b : Bool). b && x.exact) h.exact ∙ sym (every-last is_exact ls x));
    each = λ y m. ⊎_elim (λ (k : Memᴰ y ls). h.each y k)
        (λ (k : Memᴰ y (x ∷ [])). subst (λ (z : Length). PartValue z.value) (sym (Memᴰ.eq_of_singleton k)) plain)
        (Memᴰ.append_cases ls m);
  }
    where
      here : j ≡ length ls
      here = at ∙ h.count

      long : length (ls ++ (x ∷ [])) ≡ suc j
      long = length-append ls (x ∷ []) ∙ (add-one (length ls) ∙ ap suc (sym here))

      front : take (length (ls ++ (x ∷ []))) (set p.bits j (value_bits x)) ≡ map value_bits (ls ++ (x ∷ []))
      front =
          ap (λ (k : ℕ). take k (set p.bits j (value_bits x))) long
          ∙ (take-suc-set p.bits j (value_bits x) (omega (arith, at, h.size))
          ∙ (ap (λ (k : ℕ). take k p.bits ++ (value_bits x ∷ [])) here
          ∙ (ap (λ (l : List ℕ). l ++ (value_bits x ∷ [])) h.first ∙ sym (map-append value_bits ls (x ∷ [])))))

-- the terms 0, …, j - 1 as parts
module _ (term : ℕ → Length) where
  pub parts-start : {p : Parts} → PartsOf p [] → PartsOf p (map term (up_from 0 0))
  unfolding up_from
  parts-start h = h

  pub parts-count : {p : Parts} {j : ℕ} → PartsOf p (map term (up_from 0 j)) → p.count ≡ j
  parts-count {j = j} h = h.count ∙ (length-map (up_from 0 j) term ∙ up-length 0 j)

  pub parts_next : {p q : Parts} {x : Length} {j : ℕ} → PartsOf p (map term (up_from 0 j)) → x ≡ term j → WithPart p x q
      → PartsOf q (map term (up_from 0 (j + 1)))
  parts_next {q = q} {x = x} {j = j} h e w = subst (PartsOf q) whole (w (map term (up_from 0 j)) h)
    where
      whole : map term (up_from 0 j) ++ (x ∷ []) ≡ map term (up_from 0 (j + 1))
      whole =
          ap (λ (y : Length). map term (up_from 0 j) ++ (y ∷ [])) (e ∙ (let z : j ≡ 0 + j = omega arith in ap term z))
          ∙ (sym (map-append term (up_from 0 j) ((0 + j) ∷ []))
          ∙ (ap (map term) (sym (up-last 0 j)) ∙ ap (λ (k : ℕ). map term (up_from 0 k)) (sym (add-one j))))

-- bits without the sign are in the order of the numbers
abbrev half : ℕ
half = 0x8000_0000_0000_0000

plain-order : (a b : ℕ) → a < half → b < half → total_le a b ≡ leb a b
unfolding total_le total_key
plain-order a b h k = rw (lt-ltb a half h, lt-ltb b half k) (by-test (leb a b)
    (λ e. let l = leb-true a b e in le-leb (a + half) (b + half) (omega arith) ∙ sym e)
    (λ e. let l = leb-false a b e in lt-leb (a + half) (b + half) (omega arith) ∙ sym e))

plain-bits : {x : Float} → PartValue x → to_bits binary64 x < half
plain-bits {x} p = upward-bits x p.up p.held

no_nan : {x : Float} → PartValue x → T (not (nan_bits binary64 (to_bits binary64 x)))
no_nan {x} p =
    subst (λ (t : Bool). T (not t)) (sym (nan_bits_is binary64 (to_bits binary64 x) ∙ ap is_nan (of_bits-to_bits binary64 x p.held))) (part-number p)

module _ (xs : List Float) (plain : (x : Float) → Memᴰ x xs → PartValue x) where
  abbrev by_bits : Float → Float → Bool
  by_bits x y = leb (to_bits binary64 x) (to_bits binary64 y)

  abbrev sorted : List Float
  sorted = sort by_bits xs

  sorted-plain : (x : Float) → Memᴰ x sorted → PartValue x
  sorted-plain x m = plain x (perm-mem (Permᴰ.symm (sort-perm by_bits xs)) m)

  bits-sorted : sort leb (map (to_bits binary64) xs) ≡ map (to_bits binary64) sorted
  bits-sorted = sort-map (to_bits binary64) by_bits leb (λ x y. refl) xs

  back : map (of_bits binary64) (sort leb (map (to_bits binary64) xs)) ≡ sort no_later xs
  back =
      ap (map (of_bits binary64)) bits-sorted
      ∙ (map-map (of_bits binary64) (to_bits binary64) sorted
      ∙ (map-ext (λ x. of_bits binary64 (to_bits binary64 x)) (λ x. x) sorted (λ x m. of_bits-to_bits binary64 x (sorted-plain x m).held)
      ∙ (map-id sorted
      ∙ sort-ext by_bits no_later xs
      (λ x y m n. sym (plain-order (to_bits binary64 x) (to_bits binary64 y) (plain-bits (plain x m)) (plain-bits (plain y n)))))))

  each_number : (b : ℕ) → Memᴰ b (sort leb (map (to_bits binary64) xs)) → T (not (nan_bits binary64 b))
  each_number b m =
      let w = Memᴰ.of_map (to_bits binary64) sorted (subst (λ (l : List ℕ). Memᴰ b l) bits-sorted m) in
      subst (λ (a : ℕ). T (not (nan_bits binary64 a))) w.2 (no_nan (sorted-plain w.0 w.1))

-- the first n numbers, sorted where they stand
module _ (bits : List ℕ) (n : ℕ) (h : n ≤ length bits) where
  abbrev front : List ℕ
  front = sort leb (between bits 0 n)

  front-is : front ≡ sort leb (take n bits)
  unfolding part
  front-is = let z : n - 0 ≡ n = omega arith in ap (λ (k : ℕ). sort leb (take k bits)) z

  front_length : length front ≡ n
  front_length = ap (λ (l : List ℕ). length l) front-is ∙ (sort-length leb (take n bits) ∙ length-take-le n bits h)

  front-sorted : take n (splice bits 0 front) ≡ sort leb (take n bits)
  front-sorted =
      (let z : n ≡ 0 + length front = omega (arith, front_length) in ap (λ (k : ℕ). take k (splice bits 0 front)) z)
      ∙ (take-splice bits 0 front (omega (arith, front_length)) ∙ front-is)

  front-size : length (splice bits 0 front) ≡ length bits
  front-size = length-splice bits 0 front (omega (arith, front_length))

module _ {p : Parts} {ls : List Length} (h : PartsOf p ls) where
  abbrev values : List Float
  values = map length_value ls

  values-plain : (x : Float) → Memᴰ x values → PartValue x
  values-plain x m = let w = Memᴰ.of_map length_value ls m in subst PartValue w.2 (h.each w.0 w.1)

  module _ {after : List ℕ} {n : ℕ} (e : n ≡ p.count) (s : after ≡ splice p.bits 0 (sort leb (between p.bits 0 n))) where
    fits_in : n ≤ length p.bits
    fits_in = omega (arith, e, h.count, h.most, h.size)

    pub sorted-size : length after ≡ 16
    sorted-size = ap (λ (l : List ℕ). length l) s ∙ (front-size p.bits n fits_in ∙ h.size)

    in_order : take n after ≡ sort leb (map (to_bits binary64) values)
    in_order =
        ap (take n) s
        ∙ (front-sorted p.bits n fits_in
        ∙ ap (sort leb) (ap (λ (k : ℕ). take k p.bits) (e ∙ h.count) ∙ (h.first ∙ sym (map-map (to_bits binary64) length_value ls))))

    pub sorted-patterns : Patterns n after
    sorted-patterns i l =
        subst (λ (x : ℕ). T (not (nan_bits binary64 x))) (ap (λ (k : List ℕ). get_or k i 0) (sym in_order) ∙ get_or-take n after i 0 l)
        (each_number values values-plain _ (get_d-mem (sort leb (map (to_bits binary64) values)) 0 i (omega (arith, long))))
      where
        long : length (sort leb (map (to_bits binary64) values)) ≡ n
        long =
            sort-length leb (map (to_bits binary64) values)
            ∙ (length-map values (to_bits binary64) ∙ (length-map ls length_value ∙ (sym h.count ∙ sym e)))

    pub sorted-total : {x : Float} → x ≡ sum_of (map (of_bits binary64) (take n after)) → x ≡ (ascending_total ls).value
    unfolding ascending_sum
    sorted-total q = q ∙ ap sum_of (ap (map (of_bits binary64)) in_order ∙ back values values-plain)
