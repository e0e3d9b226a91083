-- The mark of a chain's total: true exactly if √D ÷ 2 is met exactly by each of its links, and then the sum is the true one.
use mathlib.Core.Path.{◌≡◌, refl, sym, ◌∙◌, ap, subst}
use mathlib.Core.Logic.{◌↔◌}
use mathlib.Core.Bool.{true}
use mathlib.Core.List.Memᴰ
use mathlib.Core.List.{List, map, map-map, Memᴰ}
use Prim.Native.Nat.{ℕ, ◌^◌, ◌≤◌}
use native.Mathlib.Omega.{arith}
use lib.ListN.{length, length-map}
use Rattle.length.specs.Root.{Square}
use Rattle.length.specs.Length.{length_at}
use Rattle.position.specs.declared.Span.{Span}
use Rattle.serial_sums.specs.Sums.{ascending_sum}
use Rattle.serial_sums.specs.Totals.{length_value, all_exact, ascending_total}
use Rattle.serial_sums.specs.TrueTotal.{TrueTotal}
use Rattle.serial_sums.proofs.Totals.{total-squares-iff, exact-total}
use Rattle.serial_links.specs.Geometry.{squares, doubled_centre}
use Rattle.serial_links.specs.Held.{SpanBounded}
use Rattle.serial_links.proofs.Distances.{OnMap, squares-small}
use Rattle.context.specs.Listing.{Item}
use Rattle.serial_groups.specs.Listing.{ends_at}
use Rattle.serial_groups.specs.Links.{LinkAt}
use Rattle.serial_groups.specs.Groups.{LinkGroup}
use Rattle.serial_groups.specs.Serial.{rank_length, chain_sum, end_distance, chain_total, end_length}
use Rattle.serial_groups.specs.ConnectedPart.{LinkOf}

-- the centres of spans of a map
pub centre-on-map : {s : Span} → SpanBounded s → OnMap (doubled_centre s)
centre-on-map h = record { column = omega (arith, h.first.column, h.second.column); row = omega (arith, h.first.row, h.second.row) }

module _ (l : List Item) (a : LinkGroup) where
  -- D of a link
  abbrev pub link_squares : LinkAt → ℕ
  link_squares k = squares (doubled_centre (ends_at l k.first)) (doubled_centre (ends_at l k.second))

  -- the values are those that the rules add up and compare
  pub chain-values-same : ((chain_total l a).value ≡ chain_sum l a) × ((end_length l a).value ≡ end_distance l a)
  unfolding end_distance
  chain-values-same = (refl, refl)

  by-squares : map (λ (k : LinkAt). rank_length l k.first k.second) a.links ≡ map length_at (map link_squares a.links)
  by-squares = sym (map-map length_at link_squares a.links)

  -- it is the total of the links' lengths, in ascending order
  pub chain-total-is : chain_total l a ≡ ascending_total (map length_at (map link_squares a.links))
  unfolding chain_sum
  chain-total-is = λ i. record { value = ap ascending_sum values i; exact = ap all_exact by-squares i }
    where
      values : map (λ (k : LinkAt). (rank_length l k.first k.second).value) a.links ≡ map length_value (map length_at (map link_squares a.links))
      values = sym (map-map length_value (λ (k : LinkAt). rank_length l k.first k.second) a.links) ∙ ap (map length_value) by-squares

  -- "exact exactly if each part is": exactly if for each link D is a square
  pub chain-exact-iff : ((chain_total l a).exact ≡ true) ↔ ((k : LinkAt) → LinkOf a k → Square (link_squares k))
  chain-exact-iff = (
    λ h k m. (total-squares-iff (map link_squares a.links)).0 (sym (ap all_exact by-squares) ∙ h) (link_squares k) (Memᴰ.map link_squares m),
    λ f. ap all_exact by-squares ∙ (total-squares-iff (map link_squares a.links)).1
        (λ d m. let w = Memᴰ.of_map link_squares a.links m in subst Square w.2 (f w.0 w.1)),
  )

  -- an exact total is the true one: of at most sixteen links, of spans of a map
  pub chain-true : length a.links ≤ 16 → ((k : LinkAt) → LinkOf a k → SpanBounded (ends_at l k.first) × SpanBounded (ends_at l k.second))
      → (chain_total l a).exact ≡ true → TrueTotal (map link_squares a.links) (chain_sum l a)
  chain-true few on-map h =
      subst (TrueTotal (map link_squares a.links)) (sym (ap length_value chain-total-is))
      (exact-total (map link_squares a.links) (omega (arith, length-map a.links link_squares)) small (sym (ap all_exact by-squares) ∙ h))
    where
      small : (d : ℕ) → Memᴰ d (map link_squares a.links) → d ≤ 2 ^ 29
      small d m =
          let w = Memᴰ.of_map link_squares a.links m in
          let s = on-map w.0 w.1 in
          subst (λ (n : ℕ). n ≤ 2 ^ 29) w.2 (squares-small _ _ (centre-on-map s.0) (centre-on-map s.1))
