-- The links that are chosen by the arrays are the serial ones, and the flat ones.
use mathlib.Core.Path.{◌≡◌, sym, ◌∙◌, ap}
use mathlib.Core.Bool.{Bool, cond, ◌&&◌}
use mathlib.Core.List.{List}
use Prim.Native.Nat.{ℕ, ◌≤◌, ◌<◌}
use lib.Dec.{eqb}
use lib.ListN.{length}
use Rattle.lists.specs.Rows.{at}
use Rattle.position.specs.declared.Span.{Span}
use Rattle.position.specs.declared.WalkPosition.{WalkPosition}
use Rattle.grid.specs.Cells.{Grid}
use Rattle.areas.specs.Spans.{span_in}
use Rattle.serial_links.specs.Limits.{Limits}
use Rattle.serial_links.specs.Parallel.{nearby_parallel}
use Rattle.context.specs.Listing.{Item}
use Rattle.serial_groups.specs.Listing.{ends_at}
use Rattle.serial_groups.specs.Regions.{bridge_at}
use Rattle.serial_groups.specs.Links.{LinkAt}
use Rattle.serial_groups.specs.Serial.{serial_links}
use Rattle.serial_groups.specs.Flat.{is_left, alike, is_flat_link, flat_links}
use Rattle.serial_groups.specs.Tables.{LinkTable, Bridged}
use Rattle.serial_plan.specs.Arrays.{is_on, LinkRanks, FirstAre}
use Rattle.serial_plan.specs.Shape.{both_on, alike_in, flat_link_in}
use Rattle.serial_plan.specs.Told.{FlatInside}
use Rattle.serial_plan.proofs.WholeLaws.{chosen_links, on-mark}
use Rattle.serial_plan.proofs.GoesLaws.{chosen-are}
use Rattle.serial_plan.proofs.MergeLaws.{serial_goes, left_is}

pair : {a b c d : Bool} → a ≡ c → b ≡ d → a && b ≡ c && d
pair {b = b} {c = c} p q = ap (λ (t : Bool). t && b) p ∙ ap (λ (t : Bool). c && t) q

module _ {dirs : List ℕ} {g : Grid} {anchors : List WalkPosition} {l : List Item} {regions firsts seconds : List ℕ} {n : ℕ}
    (linked : LinkTable dirs g anchors l regions firsts seconds n)
    (ranked : LinkRanks (length l) firsts seconds n) where
  on-chosen : (t : ℕ → Bool) {chosen : List ℕ} → FirstAre (λ k. cond (t k) 1 0) n chosen → (k : ℕ) → k < n → is_on chosen k ≡ t k
  on-chosen t {chosen} p k h = ap (λ (x : ℕ). eqb x 1) (p.each k h) ∙ on-mark (t k)

  pub serial-chosen : {marks chosen : List ℕ} → Bridged dirs g l marks → FirstAre (λ k. cond (both_on marks (at firsts k) (at seconds k)) 1 0) n chosen →
      serial_links dirs g anchors l ≡ chosen_links regions firsts seconds chosen n
  unfolding serial_links
  serial-chosen {marks} {chosen} bridged p =
      chosen-are chosen (λ (k : LinkAt). bridge_at dirs g l k.first && bridge_at dirs g l k.second) linked
      (λ k h. pair (bridge (at firsts k) (ranked.first-in k h)) (bridge (at seconds k) (ranked.second-in k h))
      ∙ sym (on-chosen (λ j. both_on marks (at firsts j) (at seconds j)) p k h))
    where
      bridge : (i : ℕ) → i < length l → bridge_at dirs g l i ≡ is_on marks i
      bridge i h = sym (ap (λ (x : ℕ). eqb x 1) (bridged.marks-are i h) ∙ on-mark (bridge_at dirs g l i))

  pub flat-chosen : {limits : Limits} {flat chosen : List ℕ} (own into : List ℕ) (few : length l ≤ 256)
      → FlatInside limits dirs g l regions firsts seconds flat n → ((i : ℕ) → i < length l → ends_at l i ≡ span_in own i) →
      ((i : ℕ) → i < length l → at into i ≡ serial_goes limits dirs g anchors l few i) →
      FirstAre (λ k. cond (flat_link_in limits own into (at flat k) (at firsts k) (at seconds k)) 1 0) n chosen
      → flat_links limits dirs g anchors l ≡ chosen_links regions firsts seconds chosen n
  unfolding flat_links is_flat_link
  flat-chosen {limits} {flat} {chosen} own into few inner ends goes p =
      chosen-are chosen (is_flat_link limits dirs g anchors l) linked
      (λ k h. pair (sym (inner.each k h))
      (pair (pair (free (at firsts k) (ranked.first-in k h)) (free (at seconds k) (ranked.second-in k h)))
      (near (at firsts k) (at seconds k) (ranked.first-in k h) (ranked.second-in k h)))
      ∙ sym (on-chosen (λ j. flat_link_in limits own into (at flat j) (at firsts j) (at seconds j)) p k h))
    where
      free : (i : ℕ) → i < length l → is_left limits dirs g anchors l i ≡ eqb (at into i) 256
      free i h = left_is limits dirs g anchors l few i h ∙ ap (λ (x : ℕ). eqb x 256) (sym (goes i h))

      near : (i j : ℕ) → i < length l → j < length l → alike limits l i j ≡ alike_in limits own i j
      near i j a b = ap (λ (s : Span). nearby_parallel limits s (ends_at l j)) (ends i a) ∙ ap (nearby_parallel limits (span_in own i)) (ends j b)
