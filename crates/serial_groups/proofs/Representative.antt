-- The retained rank is a member of its group, and the one that the rule names.
use mathlib.Core.Path.{◌≡◌, refl, ap}
use mathlib.Core.Bool.{true}
use mathlib.Core.List.Memᴰ
use mathlib.Core.List.Permᴰ
use mathlib.Core.List.{List, [], ◌∷◌, map, Memᴰ, Permᴰ}
use Prim.Native.Nat.{ℕ, ◌<◌, ◌≤◌}
use native.Mathlib.Omega.{arith}
use lib.Dec.{T}
use lib.Ieee.{binary64, fits, le, of_bits, to_bits}
use lib.ListN.{get_or}
use Rattle.order.specs.Orders.{Stable, TotalPreorder}
use Rattle.order.specs.Sorting.{sort}
use Rattle.order.specs.Pairs.{Pairs, more}
use Rattle.order.proofs.Members.{perm-mem}
use Rattle.order.proofs.Keep.{keep-mem, mem-keep, keep-pairs}
use Rattle.order.proofs.Sort.{sort-perm}
use Rattle.order.proofs.Stable.{le_refl, sort-stable}
use Rattle.length.specs.Floats.{◌⊕◌, finite_up}
use Rattle.length.specs.Total.{total_le}
use Rattle.length.proofs.Total.{total-order}
use Rattle.format.specs.Bounds.{max_width_bits}
use Rattle.serial_links.specs.Limits.{Limits, limits000}
use Rattle.context.specs.Listing.{Item}
use Rattle.serial_groups.specs.Listing.{bits_at}
use Rattle.serial_groups.specs.Representative.{width_at, least_width, eligible, distance_to, nearer, retained, IsRetained}
use Rattle.serial_groups.proofs.Wider.{wider}

-- the first of a list that has a member
first_of : {A : Type 0} (l : List A) (d : A) {x : A} → Memᴰ x l → Memᴰ (get_or l 0 d) l
first_of {A = A} [] d m = elim m [ ]
first_of (x ∷ xs) d m = Memᴰ.head refl

-- the first of a list, or another
first-mem : {A : Type 0} (l : List A) (d : A) {P : A → Type 0} → ((x : A) → Memᴰ x l → P x) → P d → P (get_or l 0 d)
first-mem [] d f h = h
first-mem (x ∷ xs) d f h = f x (Memᴰ.head refl)

nearer-preorder : (l : List Item) (is : List ℕ) → TotalPreorder (nearer l is)
unfolding nearer
nearer-preorder l is = record { total = λ i j. total-order.orders.total (sum i) (sum j); trans = λ i j k. total-order.orders.trans (sum i) (sum j) (sum k) }
  where
    sum : ℕ → ℕ
    sum i = to_bits binary64 (distance_to l is i)

-- the first in the order of the sums has the least, and is the earliest with it
first-least : (l : List Item) (is m : List ℕ) → Pairs (Stable (nearer l is) (λ i j. i < j)) m → {j : ℕ} → Memᴰ j m →
    (d : ℕ) → (nearer l is (get_or m 0 d) j ≡ true) × (nearer l is j (get_or m 0 d) ≡ true → get_or m 0 d ≤ j)
first-least l is [] _ {j = j} x3 d = elim x3 [ ]
first-least l is (x ∷ xs) (more f o) (Memᴰ.head e) d = rw e (le_refl (nearer-preorder l is) x, λ h. omega arith)
first-least l is (x ∷ xs) (more f o) {j} (Memᴰ.tail k) d = let s = f j k in (s.0, λ h. omega (arith, s.1 h))

module _ (limits : Limits) (l : List Item) where
  eligible-mem : (is : List ℕ) {i : ℕ} → Memᴰ i (eligible limits l is) → Memᴰ i is
  unfolding eligible
  eligible-mem is m = (keep-mem (λ i. le (width_at l i) (least_width l is ⊕ limits.width)) is m).0

  eligible-rising : {is : List ℕ} → Pairs (λ i j. i < j) is → Pairs (λ i j. i < j) (eligible limits l is)
  unfolding eligible
  eligible-rising {is} p = keep-pairs (λ i. le (width_at l i) (least_width l is ⊕ limits.width)) p

  pub retained-mem : (is : List ℕ) {i : ℕ} → Memᴰ i is → Memᴰ (retained limits l is) is
  unfolding retained
  retained-mem [] {i = i} m = elim m [ ]
  retained-mem (x ∷ xs) m =
      first-mem (sort (nearer l (x ∷ xs)) (eligible limits l (x ∷ xs))) x {P = λ i. Memᴰ i (x ∷ xs)}
      (λ i k. eligible-mem (x ∷ xs) (perm-mem (Permᴰ.symm (sort-perm (nearer l (x ∷ xs)) (eligible limits l (x ∷ xs)))) k)) (Memᴰ.head refl)

  pub retained-is : (is : List ℕ) → Pairs (λ i j. i < j) is → {i : ℕ} → Memᴰ i (eligible limits l is) → IsRetained limits l is (retained limits l is)
  unfolding retained
  retained-is is p {i} m = record {
    chosen = perm-mem (Permᴰ.symm sorted) (first_of order (get_or is 0 0) (perm-mem sorted m));
    least = λ j k. (first-least l is order stable (perm-mem sorted k) (get_or is 0 0)).0;
    earliest = λ j k. (first-least l is order stable (perm-mem sorted k) (get_or is 0 0)).1;
  }
    where
      order : List ℕ
      order = sort (nearer l is) (eligible limits l is)

      sorted : Permᴰ (eligible limits l is) order
      sorted = sort-perm (nearer l is) (eligible limits l is)

      stable : Pairs (Stable (nearer l is) (λ i j. i < j)) order
      stable = sort-stable (nearer-preorder l is) (eligible-rising p)

-- the tolerance is an f64, finite and not negative
pub record Tolerant (limits : Limits) : Type 0 where
  pub finite : T (finite_up limits.width)
  pub held : T (fits binary64 limits.width)

pub tolerant000 : Tolerant limits000
unfolding of_bits fits
tolerant000 = record { finite = tt; held = tt }

-- the least width is that of a rank
least_at : (l : List Item) (is : List ℕ) {i : ℕ} → Memᴰ i is → (j : ℕ) × Memᴰ j is × (width_at l j ≡ least_width l is)
unfolding least_width
least_at l is {i} m = let w = Memᴰ.of_map (bits_at l) is
    (perm-mem (Permᴰ.symm sorted) (first_of order 0 (perm-mem sorted (Memᴰ.map (bits_at l) m)))) in (w.0, w.1, ap (of_bits binary64) w.2)
  where
    order : List ℕ
    order = sort total_le (map (bits_at l) is)

    sorted : Permᴰ (map (bits_at l) is) order
    sorted = sort-perm total_le (map (bits_at l) is)

-- a rank of the least width is eligible, where the widths are those of a job
pub some-eligible : {limits : Limits} → Tolerant limits → (l : List Item) (is : List ℕ) → ((j : ℕ) → Memᴰ j is → bits_at l j ≤ max_width_bits) → {i : ℕ}
    → Memᴰ i is → (j : ℕ) × Memᴰ j (eligible limits l is)
unfolding eligible
some-eligible {limits} o l is h m =
    let w = least_at l is m in (
      w.0,
      mem-keep (λ i. le (width_at l i) (least_width l is ⊕ limits.width)) w.1
          (rw (← w.2) (wider (bits_at l w.0) (h w.0 w.1) limits.width o.finite o.held)),
    )
