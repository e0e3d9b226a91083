-- Sorting by an array of places.
use mathlib.Core.Path.{◌≡◌, refl, sym, ◌∙◌, ap}
use mathlib.Core.Logic.{by_cases}
use mathlib.Core.Bool.{Bool, false, and_comm}
use mathlib.Core.List.{List, map}
use Prim.Native.Nat.{ℕ, ◌<◌}
use native.Mathlib.Omega.{arith}
use native.Mathlib.Decide.{dec_lt, ℕ_discrete}
use borrow.Author.Tests.{eq-eqb, ne_eqb}
use lib.Dec.{eqb}
use lib.ListN.{length, get_or}
use Rattle.order.specs.Orders.{same, TotalPreorder}
use Rattle.order.specs.Sorting.{sort, by_place}
use Rattle.order.specs.Lists.{up_from}
use Rattle.order.specs.Pairs.{Pairs}
use Rattle.order.proofs.Bools.{and_both}
use Rattle.order.proofs.Pairs.{pairs-at}
use Rattle.order.proofs.Numbers.{map-places}
use Rattle.order.proofs.Sort.{sort-map}
use Rattle.order.proofs.Stable.{le_refl}

module _ {A : Type 0} (le : A → A → Bool) (l : List A) (d : A) where
  -- the sorted list is read off the sorted places
  pub sort-places : sort le l ≡ map (λ i. get_or l i d) (sort (by_place le l d) (up_from 0 (length l)))
  sort-places = ap (sort le) (sym (map-places l d)) ∙ sort-map (λ i. get_or l i d) (by_place le l d) le (λ i j. refl) (up_from 0 (length l))

module _ {A : Type 0} {le : A → A → Bool} (o : TotalPreorder le) (l : List A) (d : A) where
  -- where no two members are the same to `le`, it tells the places
  pub places-told : Pairs (λ x y. same le x y ≡ false) l → (i j : ℕ) → i < length l → j < length l → same le (get_or l i d) (get_or l j d) ≡ eqb i j
  places-told p i j a b =
      by_cases (ℕ_discrete i j) (λ e. rw e (and_both (le_refl o (get_or l j d)) (le_refl o (get_or l j d)) ∙ sym (eq-eqb j j refl))) λ n.
      by_cases (dec_lt i j) (λ h. pairs-at d p i j h b ∙ sym (ne_eqb i j n)) λ h.
      and_comm (le (get_or l i d) (get_or l j d)) (le (get_or l j d) (get_or l i d)) ∙ (pairs-at d p j i (omega arith) a ∙ sym (ne_eqb i j n))
