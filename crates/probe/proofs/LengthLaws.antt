-- Totals of the lengths of some numbers, part by part.
use mathlib.Core.Path.{◌≡◌, sym, ◌∙◌, ap, subst}
use mathlib.Core.Bool.{true, false}
use mathlib.Core.List.{List, map, map-map, Memᴰ}
use Prim.Native.Nat.{ℕ, ◌+◌, ◌^◌, ◌≤◌, ◌<◌}
use native.Mathlib.Omega.{arith}
use borrow.Author.Tests.{le-leb, leb-true, ltb-true, ltb-false}
use lib.Dec.{ltb}
use lib.ListN.{length, get_or}
use lib.Seq.{take_all}
use Rattle.order.specs.Lists.{up_from}
use Rattle.order.specs.Tests.{every}
use Rattle.order.proofs.Bools.{is_false, by-test}
use Rattle.order.proofs.Members.{get_d-mem, mem-get_d}
use Rattle.order.proofs.Tests.{every-mem, mem-every}
use Rattle.length.specs.Length.{length_at}
use Rattle.length.specs.declared.Length.{Length}
use Rattle.serial_sums.specs.Parts.{PartsOf, TotalOfParts}
use Rattle.serial_sums.specs.declared.Parts.{Parts}
use Rattle.serial_sums.proofs.SumSteps.{firsts-up}
use Rattle.probe.specs.Lengths.{length_words, no_length, on_map, total_answer}
use Rattle.probe.specs.declared.own_lengths.ProbeLength.{ProbeLength}

-- the lengths of some numbers, by their places
abbrev pub length_term : List ℕ → ℕ → Length
length_term ds i = length_at (get_or ds i 0)

-- one more that is on a map
pub first_more : (ds : List ℕ) {j : ℕ} → ((i : ℕ) → i < j → get_or ds i 0 ≤ 2 ^ 29) → get_or ds j 0 ≤ 2 ^ 29 → (i : ℕ) → i < j + 1 → get_or ds i 0 ≤ 2 ^ 29
first_more ds {j} f h i l = by-test (ltb i j) (λ e. f i (ltb-true i j e))
    (λ e. let q : j ≡ i = omega (arith, ltb-false i j e) in subst (λ (k : ℕ). get_or ds k 0 ≤ 2 ^ 29) q h)

-- some numbers
module _ (ds : List ℕ) where
  pub one-off-map : {j : ℕ} {r : ProbeLength} → j < length ds → 2 ^ 29 < get_or ds j 0 → r ≡ no_length → r ≡ total_answer ds
  one-off-map {j} l h e = rw off e
    where
      member : Memᴰ (get_or ds j 0) ds
      member = get_d-mem ds 0 j l

      off : every on_map ds ≡ false
      off = is_false (every on_map ds) (λ k. omega (arith, leb-true (get_or ds j 0) (2 ^ 29) (every-mem on_map member k)))

  pub all-on-map : {j : ℕ} {p : Parts} {x : Length} {r : ProbeLength} → j ≡ length ds → ((i : ℕ) → i < j → get_or ds i 0 ≤ 2 ^ 29)
      → PartsOf p (map (length_term ds) (up_from 0 j)) → TotalOfParts p x → r ≡ length_words x → r ≡ total_answer ds
  all-on-map {j} {p} z small h t e = rw on (e ∙ ap length_words (t (map length_at ds) (subst (PartsOf p) same h)))
    where
      same : map (length_term ds) (up_from 0 j) ≡ map length_at ds
      same = ap (λ (k : ℕ). map (length_term ds) (up_from 0 k)) z
          ∙ (sym (map-map length_at (λ i. get_or ds i 0) (up_from 0 (length ds)))
          ∙ ap (map length_at) (firsts-up ds (length ds) (omega arith) ∙ take_all (length ds) ds (omega arith)))

      on : every on_map ds ≡ true
      on = mem-every on_map ds
          (λ d m.
          let w = mem-get_d 0 m in
          le-leb d (2 ^ 29) (subst (λ (x : ℕ). x ≤ 2 ^ 29) w.2 (small w.0 (omega (arith, w.1, z)))))
