-- Distances and widths of the ranks and links that are kept.
use mathlib.Core.Path.{◌≡◌, refl, sym, ◌∙◌, ap, subst}
use mathlib.Core.Bool.{Bool, true, false, cond, ◌&&◌}
use mathlib.Core.List.{List, [], ◌∷◌, map, map-map}
use Prim.Native.Nat.{ℕ, zero, suc, ◌≤◌, ◌<◌}
use native.Mathlib.Omega.{arith}
use lib.Dec.{eqb, leb}
use lib.Ieee.{Float, binary64, of_bits}
use lib.ListN.{length, get_or}
use Rattle.order.proofs.SortedFirst.{SortedFirst, first-end, sort-some}
use Rattle.areas.specs.Assessments.{region_pair}
use Rattle.lists.specs.Rows.{at}
use Rattle.order.specs.Lists.{keep, up_from}
use Rattle.order.specs.Sorting.{sort}
use Rattle.length.specs.Total.{total_le}
use Rattle.length.specs.declared.Length.{Length}
use Rattle.position.specs.declared.Span.{Span}
use Rattle.areas.specs.Spans.{span_in}
use Rattle.context.specs.FullPair.{other_region}
use Rattle.order.specs.Tests.{every}
use Rattle.order.proofs.Keep.{keep-length}
use Rattle.serial_links.specs.Limits.{Limits}
use Rattle.serial_sums.specs.Sums.{no_later}
use Rattle.serial_sums.specs.Totals.{length_value}
use Rattle.serial_links.specs.Held.{SpanBounded}
use Rattle.serial_plan.specs.declared.few.Few.{Few}
use Rattle.serial_plan.specs.Few.{few_of, few_at, few_list}
use Rattle.serial_plan.specs.Arrays.{joins_at}
use Rattle.serial_plan.specs.Shape.{degree_in, ends_in, regular_in, outer_in, alike_in, all_alike_in, least_in, sum_total_in, nearer_in, fine_in, eligible_in}
use Rattle.serial_plan.specs.Shape.{retained_in}
use Rattle.serial_plan.specs.Fitting.{RankFits}
use Rattle.serial_plan.proofs.FewLaws.{Picked, listed-held}
use Rattle.serial_plan.proofs.ShapeLaws.{listed-length, picked-listed, Each, each-listed, held-count}

pub both : {A B C : Type 0} (f : A → B → C) {s u : A} {t v : B} → s ≡ u → t ≡ v → f s t ≡ f u v
both f {s} {u} {t} {v} p q = ap (λ x. f x t) p ∙ ap (f u) q

pub choose_yes : {t : Bool} (a b : ℕ) → t ≡ true → a ≡ cond t a b
choose_yes a b e = rw e

pub choose_no : {t : Bool} (a b : ℕ) → t ≡ false → b ≡ cond t a b
choose_no a b e = rw e

-- the span of a rank that fits
pub span_fits : {own : List ℕ} {i x : ℕ} {s : Span} → RankFits own x → i ≡ x → s ≡ span_in own i → SpanBounded s
span_fits {own} w e q = subst SpanBounded (sym (q ∙ ap (span_in own) e)) w.bounded

pub least-listed : (bits : List ℕ) (f : Few) {k x : ℕ} → SortedFirst total_le (λ i. at bits (few_at f i)) f.count k x → k ≡ 0 → x ≡ least_in bits (few_list f)
unfolding least_in few_list
least-listed bits f p e = first-end total_le (λ i. at bits (few_at f i)) f.count p e
    ∙ ap (λ (l : List ℕ). get_or (sort total_le l) 0 0) (sym (map-map (at bits) (few_at f) (up_from 0 f.count)))

pub first-listed : (le : ℕ → ℕ → Bool) (f : Few) {k x : ℕ} → SortedFirst le (few_at f) f.count k x → k ≡ 0 → x ≡ get_or (sort le (few_list f)) 0 0
unfolding few_list
first-listed le f p e = first-end le (few_at f) f.count p e

pub nearer-as : (own rs : List ℕ) (i j : ℕ) {x y : Length} {b : Bool} → x ≡ sum_total_in own rs i → y ≡ sum_total_in own rs j
    → b ≡ no_later x.value y.value → b ≡ nearer_in own rs i j
unfolding nearer_in
nearer-as own rs i j {x} {y} ex ey e = e ∙ both no_later (ap length_value ex) (ap length_value ey)

pub all-alike-whole : (limits : Limits) (own : List ℕ) (f : Few) {k : ℕ} {b : Bool}
    → Each (λ i. every (alike_in limits own i) (few_list f)) (few_at f) f.count k b → k ≡ 0 → b ≡ all_alike_in limits own (few_list f)
unfolding all_alike_in
all-alike-whole limits own f p e = each-listed (λ i. every (alike_in limits own i) (few_list f)) f p e

pub ends-whole : (firsts seconds js : List ℕ) (f : Few) {k : ℕ} {h : Few} → Picked (λ i. eqb (degree_in firsts seconds js i) 1) (few_at f) f.count k h → k ≡ 0
    → h ≡ few_of (ends_in firsts seconds (few_list f) js)
unfolding ends_in
ends-whole firsts seconds js f p e = picked-listed f p e

pub regular-whole : (firsts seconds js : List ℕ) (f : Few) {k : ℕ} {b : Bool}
    → Each (λ i. leb 1 (degree_in firsts seconds js i) && leb (degree_in firsts seconds js i) 2) (few_at f) f.count k b → k ≡ 0
    → b ≡ regular_in firsts seconds (few_list f) js
unfolding regular_in
regular-whole firsts seconds js f p e = each-listed (λ i. leb 1 (degree_in firsts seconds js i) && leb (degree_in firsts seconds js i) 2) f p e

pub outer-as : (lowers highers regions firsts seconds js : List ℕ) (i : ℕ) {x r : ℕ} → x ≡ get_or (keep (joins_at firsts seconds i) js) 0 0 →
    r ≡ other_region (region_pair (at lowers i) (at highers i)) (at regions x) → r ≡ outer_in lowers highers regions firsts seconds js i
unfolding outer_in
outer-as lowers highers regions firsts seconds js i e q = q ∙ ap (λ (k : ℕ). other_region (region_pair (at lowers i) (at highers i)) (at regions k)) e

pub positive : (n : ℕ) → (n ≡ 0 → ⊥) → 1 ≤ n
positive zero h = absurd (h refl)
positive (suc n) h = omega arith

pub listed-first : (f : Few) → 1 ≤ f.count → few_at f 0 ≡ get_or (few_list f) 0 0
unfolding few_list up_from
listed-first f h = go f.count h
  where
    go : (n : ℕ) → 1 ≤ n → few_at f 0 ≡ get_or (map (few_at f) (up_from 0 n)) 0 0
    go zero h = absurd (omega arith)
    go (suc n) h = refl

pub eligible-as : (limits : Limits) (bits rs : List ℕ) {w : ℕ} {x : Float} {f : Few} → x ≡ of_bits binary64 w → w ≡ least_in bits rs
    → f ≡ few_of (keep (fine_in limits bits x) rs) → f ≡ few_of (eligible_in limits bits rs)
unfolding eligible_in
eligible-as limits bits rs e q p = p ∙ ap (λ (y : Float). few_of (keep (fine_in limits bits y) rs)) (e ∙ ap (of_bits binary64) q)

none_left : (l : List ℕ) → length l ≡ 0 → l ≡ []
none_left [] e = refl
none_left (x ∷ xs) e = absurd (omega arith)

any-first : (l : List ℕ) (d e : ℕ) → 0 < length l → get_or l 0 d ≡ get_or l 0 e
any-first [] d e h = absurd (omega arith)
any-first (x ∷ xs) d e h = refl

pub retained-none : (limits : Limits) (own bits : List ℕ) (g : Few) {f : Few} {x : ℕ} → f ≡ few_of (eligible_in limits bits (few_list g)) → f.count ≡ 0
    → 1 ≤ g.count → x ≡ few_at g 0 → x ≡ retained_in limits own bits (few_list g)
unfolding retained_in sort
retained-none limits own bits g {f} e z h q =
    let k : eligible_in limits bits (few_list g) ≡ [] =
    none_left (eligible_in limits bits (few_list g)) (sym (held-count (eligible_in limits bits (few_list g)) e) ∙ z) in
    q ∙ (listed-first g h ∙ ap (λ (l : List ℕ). get_or (sort (nearer_in own (few_list g)) l) 0 (get_or (few_list g) 0 0)) (sym k))

pub retained-some : (limits : Limits) (own bits : List ℕ) (g : Few) {f : Few} {r : ℕ} → f ≡ few_of (eligible_in limits bits (few_list g)) → g.count ≤ 16
    → (f.count ≡ 0 → ⊥) →
    r ≡ get_or (sort (nearer_in own (few_list g)) (few_list f)) 0 0 → r ≡ retained_in limits own bits (few_list g)
unfolding retained_in eligible_in
retained-some limits own bits g {f} {r} e h n q =
    let few : length (eligible_in limits bits (few_list g)) ≤ 16 =
    omega (arith, keep-length (fine_in limits bits (of_bits binary64 (least_in bits (few_list g)))) (few_list g), listed-length g) in
    let same : few_list f ≡ eligible_in limits bits (few_list g) = ap few_list e ∙ listed-held (eligible_in limits bits (few_list g)) few in
    let some : 0 < length (eligible_in limits bits (few_list g)) = omega (arith, positive f.count n, held-count (eligible_in limits bits (few_list g)) e) in
    q ∙ (ap (λ (l : List ℕ). get_or (sort (nearer_in own (few_list g)) l) 0 0) same
    ∙ any-first (sort (nearer_in own (few_list g)) (eligible_in limits bits (few_list g))) 0 (get_or (few_list g) 0 0)
    (sort-some (nearer_in own (few_list g)) (eligible_in limits bits (few_list g)) some))
