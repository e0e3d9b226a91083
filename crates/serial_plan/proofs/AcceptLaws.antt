-- The tests of a group, put together.
use mathlib.Core.Path.{◌≡◌, sym, ◌∙◌, ap}
use mathlib.Core.Bool.{Bool, true, false, not, ◌&&◌}
use mathlib.Core.List.{List}
use Prim.Native.Nat.{ℕ, suc, ◌+◌}
use native.Mathlib.Numerals.{add-one}
use borrow.Author.Tests.{not-true, not-false}
use lib.Dec.{eqb, leb}
use lib.Ieee.{Float, le}
use lib.ListN.{length, get_or}
use Rattle.order.proofs.Bools.{and_parts}
use Rattle.areas.specs.Spans.{span_in}
use Rattle.serial_links.specs.Limits.{Limits}
use Rattle.length.specs.declared.Length.{Length}
use Rattle.serial_sums.specs.Totals.{length_value}
use Rattle.serial_links.specs.Geometry.{centre_distance, centre_length}
use Rattle.order.specs.Tests.{every}
use Rattle.serial_groups.specs.Flat.{least_flat_spans}
use Rattle.serial_plan.specs.declared.few.Few.{Few}
use Rattle.serial_plan.specs.Few.{few_of, few_at, few_list}
use Rattle.serial_plan.specs.Arrays.{is_on}
use Rattle.serial_plan.specs.Shape.{degree_in, ends_in, regular_in, outer_in, path_in, chain_in, chain_total_in, all_alike_in}
use Rattle.serial_plan.specs.Told.{serial_in, flat_in}
use Rattle.serial_plan.proofs.ShapeLaws.{listed-length, held-count, held_first, held-second, kept-slots}
use Rattle.serial_plan.proofs.ValueLaws.{both}

-- what holds of the ranks holds of the ends
pub ends-slots : (P : ℕ → Type 0) (firsts seconds js : List ℕ) (f : Few) {e : Few} → e ≡ few_of (ends_in firsts seconds (few_list f) js)
    → ((j : ℕ) → P (few_at f j))
    → P 0 → (j : ℕ) → P (few_at e j)
unfolding ends_in
ends-slots P firsts seconds js f e h z = kept-slots P (λ i. eqb (degree_in firsts seconds js i) 1) f e h z

module _ (lowers highers regions firsts seconds : List ℕ) (least most : ℕ) where
  abbrev tests : Bool → ℕ → ℕ → ℕ → Bool → ℕ → ℕ → Bool
  tests a m n k r o u = (a && ((eqb m n && eqb k 2) && r)) && not (eqb o u)

  pub path-as : (f g : Few) {a r : Bool} {e : Few} {o u x y : ℕ} → a ≡ leb least f.count && leb f.count most
      → e ≡ few_of (ends_in firsts seconds (few_list f) (few_list g)) → r ≡ regular_in firsts seconds (few_list f) (few_list g) →
      x ≡ few_at e 0 → y ≡ few_at e 1 → o ≡ outer_in lowers highers regions firsts seconds (few_list g) x
      → u ≡ outer_in lowers highers regions firsts seconds (few_list g) y →
      tests a (g.count + 1) f.count e.count r o u ≡ path_in lowers highers regions firsts seconds least most (few_list f) (few_list g)
  unfolding path_in
  path-as f g {a} {r} {e} {o} {u} {x} {y} ea ee er ex ey eo eu =
      ap (λ (t : Bool). tests t (g.count + 1) f.count e.count r o u) ea
      ∙ (ap (λ (n : ℕ). tests (leb least n && leb n most) (g.count + 1) n e.count r o u) (sym (listed-length f))
      ∙ (ap (λ (m : ℕ). tests (leb least n && leb n most) m n e.count r o u) (add-one g.count ∙ ap suc (sym (listed-length g)))
      ∙ (ap (λ (k : ℕ). tests (leb least n && leb n most) (suc (length (few_list g))) n k r o u) (held-count es ee)
      ∙ (ap (λ (t : Bool). tests (leb least n && leb n most) (suc (length (few_list g))) n (length es) t o u) er
      ∙ (ap (λ (t : ℕ). tests (leb least n && leb n most) (suc (length (few_list g))) n (length es) whole t u) (eo ∙ ap out (ex ∙ held_first es ee))
      ∙ ap (λ (t : ℕ). tests (leb least n && leb n most) (suc (length (few_list g))) n (length es) whole (out (get_or es 0 0)) t)
      (eu ∙ ap out (ey ∙ held-second es ee)))))))
    where
      n : ℕ
      n = length (few_list f)

      es : List ℕ
      es = ends_in firsts seconds (few_list f) (few_list g)

      whole : Bool
      whole = regular_in firsts seconds (few_list f) (few_list g)

      out : ℕ → ℕ
      out = outer_in lowers highers regions firsts seconds (few_list g)

module _ (limits : Limits) (own lowers highers regions firsts seconds : List ℕ) where
  pub flat-no : (rs js : List ℕ) {b : Bool} → b ≡ path_in lowers highers regions firsts seconds least_flat_spans limits.most_spans rs js → not b ≡ true
      → false ≡ flat_in limits own lowers highers regions firsts seconds rs js
  unfolding flat_in
  flat-no rs js {b} e n = ap (λ (t : Bool). t && all_alike_in limits own rs) (sym (not-true b n) ∙ e)

  pub flat-yes : (rs js : List ℕ) {b r : Bool} → b ≡ path_in lowers highers regions firsts seconds least_flat_spans limits.most_spans rs js → not b ≡ false
      → r ≡ all_alike_in limits own rs → r ≡ flat_in limits own lowers highers regions firsts seconds rs js
  unfolding flat_in
  flat-yes rs js {b} e n q = q ∙ ap (λ (t : Bool). t && all_alike_in limits own rs) (sym (not-false b n) ∙ e)

  abbrev path : List ℕ → List ℕ → Bool
  path rs js = path_in lowers highers regions firsts seconds limits.least_spans limits.most_spans rs js

  pub serial-no : (passing rs js : List ℕ) {a b : Bool} → a ≡ every (is_on passing) js → b ≡ path rs js → not (a && b) ≡ true
      → false ≡ serial_in limits own lowers highers regions firsts seconds passing rs js
  unfolding serial_in
  serial-no passing rs js {a} {b} ea eb n =
      ap (λ (t : Bool). t && (le (chain_in firsts seconds own js) limits.chain && le
      (centre_distance (span_in own (get_or (ends_in firsts seconds rs js) 0 0)) (span_in own (get_or (ends_in firsts seconds rs js) 1 0))) limits.chain))
      (sym (not-true (a && b) n) ∙ both ◌&&◌ ea eb)

  pub serial-path : (a : Bool) {b : Bool} (rs js : List ℕ) → b ≡ path rs js → not (a && b) ≡ false → path rs js ≡ true
  serial-path a {b} rs js e n = sym e ∙ (and_parts a b (not-false (a && b) n)).1

  pub serial-yes : (passing rs js : List ℕ) {a b r : Bool} {x y : Length} → a ≡ every (is_on passing) js → b ≡ path rs js → not (a && b) ≡ false →
      r ≡ le x.value limits.chain && le y.value limits.chain → x ≡ chain_total_in firsts seconds own js
      → y ≡ centre_length (span_in own (get_or (ends_in firsts seconds rs js) 0 0)) (span_in own (get_or (ends_in firsts seconds rs js) 1 0)) →
      r ≡ serial_in limits own lowers highers regions firsts seconds passing rs js
  unfolding serial_in
  serial-yes passing rs js {a} {b} {r} {x} {y} ea eb n er ex ey =
      er ∙ (both (λ (s t : Float). le s limits.chain && le t limits.chain) (ap length_value ex) (ap length_value ey)
      ∙ ap (λ (t : Bool). t && (le (chain_in firsts seconds own js) limits.chain && le
      (centre_distance (span_in own (get_or (ends_in firsts seconds rs js) 0 0)) (span_in own (get_or (ends_in firsts seconds rs js) 1 0))) limits.chain))
      (sym (not-false (a && b) n) ∙ both ◌&&◌ ea eb))
