-- Totals and their marks: a total is exact exactly if each part is, in whatever order they stand, and then it is the true total.
use mathlib.Core.Path.{◌≡◌, refl, sym, ◌∙◌, ap, subst}
use mathlib.Core.Logic.{◌↔◌}
use mathlib.Core.Bool.{Bool, true, false, true≢false}
use mathlib.Core.List.Memᴰ
use mathlib.Core.List.Permᴰ
use mathlib.Core.List.{List, [], ◌∷◌, map, map-map, map-id, Memᴰ, Permᴰ}
use Prim.Native.Nat.{ℕ, ◌+◌, ◌*◌, ◌^◌, ◌≤◌}
use native.Mathlib.Nat.{mul-pos}
use native.Mathlib.Omega.{arith}
use lib.Dec.{T}
use lib.Ieee.{Float, nan, inf, fin, binary64, fits, up, down, add, round, of_bits}
use lib.Ieee.Exact.{HasValue}
use lib.Ieee.Fits.{down_pos, add-fits}
use lib.Ieee.Scale.{round_same}
use lib.ListN.{length}
use Rattle.lists.specs.Rows.{sum}
use Rattle.lists.proofs.Rows.{sum-perm}
use Rattle.order.specs.Sorting.{sort}
use Rattle.order.proofs.Members.{perm-mem, map-ext}
use Rattle.order.proofs.Merge.{sort-length}
use Rattle.order.proofs.Sort.{sort-perm, sort-map}
use Rattle.order.proofs.Tests.{every-mem, mem-every, every-perm}
use Rattle.length.specs.Root.{Square, whole_root}
use Rattle.length.specs.Nearest.{square}
use Rattle.length.specs.Length.{length_of, length_at}
use Rattle.length.specs.Floats.{◌⊕◌}
use Rattle.length.specs.declared.Length.{Length}
use Rattle.length.proofs.Squares.{le-square}
use Rattle.length.proofs.Roots.{root-unique}
use Rattle.length.proofs.Values.{cross, is_plain}
use Rattle.length.proofs.Quotient.{exact}
use Rattle.length.proofs.Lengths.{length-half, exact-iff}
use Rattle.serial_sums.specs.Sums.{added_to, sum_of, no_later, ascending_sum}
use Rattle.serial_sums.specs.Totals.{length_value, is_exact, ascending_total}
use Rattle.serial_sums.specs.TrueTotal.{TrueTotal}
use Rattle.serial_sums.proofs.Numbers.{length-fits}

pub same_length : {x y : Length} → x.value ≡ y.value → x.exact ≡ y.exact → x ≡ y
same_length p q = λ i. record { value = p i; exact = q i }

-- "a chain's total is said to be exact exactly if each part is"
pub total-exact-iff : (ls : List Length) → ((ascending_total ls).exact ≡ true) ↔ ((x : Length) → Memᴰ x ls → x.exact ≡ true)
total-exact-iff ls = (λ h x m. every-mem is_exact m h, mem-every is_exact ls)

-- of the lengths of some ds, exactly if each is a square
pub total-squares-iff : (ds : List ℕ) → ((ascending_total (map length_at ds)).exact ≡ true) ↔ ((d : ℕ) → Memᴰ d ds → Square d)
total-squares-iff ds = (
  λ h d m. (exact-iff d).0.0 ((total-exact-iff (map length_at ds)).0 h (length_at d) (Memᴰ.map length_at m)),
  λ f. (total-exact-iff (map length_at ds)).1
      (λ x m. let w = Memᴰ.of_map length_at ds m in ap is_exact (sym w.2) ∙ (exact-iff w.0).0.1 (f w.0 w.1)),
)

-- the mark does not depend on the order of the parts
pub total-perm : {ls ms : List Length} → Permᴰ ls ms → (ascending_total ls).exact ≡ (ascending_total ms).exact
total-perm p = every-perm is_exact p

-- halves of whole numbers add up without rounding
half-plus : (x y : Float) (a b : ℕ) → HasValue x false a 2 → HasValue y false b 2 → a + b ≤ 2 ^ 53 → HasValue (x ⊕ y) false (a + b) 2
unfolding add lib.Ieee.sum
half-plus nan y a b h k l = absurd h
half-plus (inf s) y a b h k l = absurd h
half-plus (fin s m e) nan a b h k l = absurd k
half-plus (fin s m e) (inf t) a b h k l = absurd k
half-plus (fin true m e) (fin t n d) a b h k l = absurd (true≢false h.0)
half-plus (fin false m e) (fin true n d) a b h k l = absurd (true≢false k.0)
half-plus (fin false m e) (fin false n d) a b h k l =
    let p : m * up e * 2 * down d ≡ a * down e * down d = ap (λ (z : ℕ). z * down d) h.1 in
    let q : n * up d * 2 * down e ≡ b * down d * down e = ap (λ (z : ℕ). z * down e) k.1 in
    subst (λ (z : Float). HasValue z false (a + b) 2)
    (sym
    (round_same binary64 false (m * up e * down d + n * up d * down e) (down e * down d) (a + b) 2 (mul-pos (down_pos e) (down_pos d)) (omega arith)
    (omega (arith, p, q))))
    (exact (a + b) 1 (omega arith) l)

-- the parts: squares of a map, by their whole roots
record Half (d : ℕ) : Type 0 where
  root : whole_root d * whole_root d ≡ d
  small : whole_root d ≤ 2 ^ 29
  value : HasValue (length_of d) false (whole_root d) 2

square-half : (d : ℕ) → d ≤ 2 ^ 29 → Square d → Half d
square-half d l (k, e) =
    let r : k ≡ whole_root d = (root-unique d k 0 (record { sum = omega (arith, e); small = omega arith })).0 in
    let s : whole_root d * whole_root d ≡ d = subst (λ (z : ℕ). z * z ≡ d) r e in
    let m : whole_root d * whole_root d ≤ 2 ^ 29 = omega (arith, s) in
    record {
      root = s;
      small = omega (arith, le-square (whole_root d));
      value = subst (λ (z : ℕ). HasValue (length_of z) false (whole_root d) 2) s (length-half (whole_root d) m);
    }

abbrev root_sum : List ℕ → ℕ
root_sum ds = sum (map whole_root ds)

root-sum-most : (ds : List ℕ) → ((d : ℕ) → Memᴰ d ds → Half d) → root_sum ds ≤ length ds * 2 ^ 29
unfolding sum
root-sum-most [] f = omega arith
root-sum-most (d ∷ ds) f = omega (arith, (f d (Memᴰ.head refl)).small, root-sum-most ds (λ e m. f e (Memᴰ.tail m)))

added-half : (x : Float) (a : ℕ) (ds : List ℕ) → HasValue x false a 2 → T (fits binary64 x) → ((d : ℕ) → Memᴰ d ds → Half d) → a + root_sum ds ≤ 2 ^ 53
    → HasValue (added_to x (map length_of ds)) false (a + root_sum ds) 2 × T (fits binary64 (added_to x (map length_of ds)))
unfolding added_to sum
added-half x a [] h k f l = (subst (λ (z : ℕ). HasValue x false z 2) (let e : a ≡ a + 0 = omega arith in e) h, k)
added-half x a (d ∷ ds) h k f l =
    let e : a + whole_root d + root_sum ds ≡ a + (whole_root d + root_sum ds) = omega arith in
    let r =
    added-half (x ⊕ length_of d) (a + whole_root d) ds
    (half-plus x (length_of d) a (whole_root d) h (f d (Memᴰ.head refl)).value (omega (arith, l)))
    (add-fits binary64 x (length_of d))
    (λ c m. f c (Memᴰ.tail m))
    (omega (arith, l))
    in
    (subst (λ (z : ℕ). HasValue (added_to (x ⊕ length_of d) (map length_of ds)) false z 2) e r.0, r.1)

sum-half : (ds : List ℕ) → ((d : ℕ) → Memᴰ d ds → Half d) → root_sum ds ≤ 2 ^ 53
    → HasValue (sum_of (map length_of ds)) false (root_sum ds) 2 × T (fits binary64 (sum_of (map length_of ds)))
unfolding sum_of sum of_bits fits
sum-half [] f l = ((refl, refl), tt)
sum-half (d ∷ ds) f l =
    added-half (length_of d) (whole_root d) ds (f d (Memᴰ.head refl)).value (length-fits d) (λ c m. f c (Memᴰ.tail m)) l

-- an exact total is the true total
module _ (ds : List ℕ) (few : length ds ≤ 16) (on-map : (d : ℕ) → Memᴰ d ds → d ≤ 2 ^ 29) where
  abbrev total : Length
  total = ascending_total (map length_at ds)

  abbrev sooner : ℕ → ℕ → Bool
  sooner d e = no_later (length_of d) (length_of e)

  in_order : total.value ≡ sum_of (map length_of (sort sooner ds))
  unfolding ascending_sum
  in_order = ap (λ (xs : List Float). sum_of (sort no_later xs)) (map-map length_value length_at ds)
      ∙ ap sum_of (sort-map length_of sooner no_later (λ d e. refl) ds)

  pub exact-total : total.exact ≡ true → TrueTotal ds total.value
  exact-total h = record {
    roots = map whole_root ds;
    squared = map-map square whole_root ds ∙ (map-ext (λ d. square (whole_root d)) (λ d. d) ds (λ d m. (each d m).root) ∙ map-id ds);
    value = record { held = subst (λ (x : Float). T (fits binary64 x)) (sym in_order) whole.1; plain = is_plain total.value (root_sum ds) 2 valued };
    half = omega (arith, cross total.value (root_sum ds) 2 valued);
  }
    where
      each : (d : ℕ) → Memᴰ d ds → Half d
      each d m = square-half d (on-map d m) ((total-squares-iff ds).0 h d m)

      ranked : (d : ℕ) → Memᴰ d (sort sooner ds) → Half d
      ranked d m = each d (perm-mem (Permᴰ.symm (sort-perm sooner ds)) m)

      same : root_sum ds ≡ root_sum (sort sooner ds)
      same = sum-perm (Permᴰ.map whole_root (sort-perm sooner ds))

      whole : HasValue (sum_of (map length_of (sort sooner ds))) false (root_sum (sort sooner ds)) 2
          × T (fits binary64 (sum_of (map length_of (sort sooner ds))))
      whole = sum-half (sort sooner ds) ranked (omega (arith, root-sum-most (sort sooner ds) ranked, sort-length sooner ds))

      valued : HasValue total.value false (root_sum ds) 2
      valued = subst (λ (x : Float). HasValue x false (root_sum ds) 2) (sym in_order)
          (subst (λ (n : ℕ). HasValue (sum_of (map length_of (sort sooner ds))) false n 2) (sym same) whole.0)
