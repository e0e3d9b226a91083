-- The arrays filled by the code are the merge plan.
use mathlib.Core.Path.{◌≡◌, sym, ◌∙◌, ap}
use mathlib.Core.Bool.{cond}
use mathlib.Core.List.{List}
use Prim.Native.Nat.{ℕ, ◌≤◌, ◌<◌}
use lib.ListN.{length}
use Rattle.lists.specs.Rows.{at}
use Rattle.position.specs.declared.WalkPosition.{WalkPosition}
use Rattle.grid.specs.Cells.{Grid}
use Rattle.serial_links.specs.Limits.{Limits}
use Rattle.context.specs.Listing.{Item}
use Rattle.serial_groups.specs.Links.{LinkAt}
use Rattle.serial_groups.specs.Serial.{accepts_serial}
use Rattle.serial_groups.specs.Flat.{accepts_flat}
use Rattle.serial_groups.specs.Tables.{LinkTable, Bridged}
use Rattle.serial_groups.specs.Plan.{merge_plan}
use Rattle.serial_plan.specs.Arrays.{LinkRanks, FirstAre}
use Rattle.serial_plan.specs.Shape.{both_on, flat_link_in}
use Rattle.serial_plan.specs.Told.{BoundaryTables, Passed, FlatInside}
use Rattle.serial_plan.specs.Into.{serial_into, flat_into, goes_to}
use Rattle.serial_plan.specs.Planning.{LinkComponents}
use Rattle.serial_plan.proofs.GoesLaws.{serial-into, flat-into}
use Rattle.serial_plan.proofs.MergeLaws.{goes_by, serial_goes, flat_goes, plan-goes}
use Rattle.serial_plan.proofs.ChosenLaws.{serial-chosen, flat-chosen}

module _ (limits : Limits) {dirs : List ℕ} {g : Grid} {anchors : List WalkPosition} {l : List Item} {own bits lowers highers regions firsts seconds : List ℕ}
    {count : ℕ}
    (few : length l ≤ 256) (told : BoundaryTables dirs g l (length l) own bits lowers highers)
    (linked : LinkTable dirs g anchors l regions firsts seconds count)
    (ranked : LinkRanks (length l) firsts seconds count) where
  pub serial-goes : {marks passing chosen parts joined into : List ℕ} → Bridged dirs g l marks → Passed limits dirs g l regions firsts seconds passing count →
      FirstAre (λ k. cond (both_on marks (at firsts k) (at seconds k)) 1 0) count chosen → LinkComponents chosen firsts seconds count parts joined →
      FirstAre (serial_into limits (length l) own bits lowers highers regions firsts seconds count passing chosen joined parts) (length l) into →
      0 < length l → (i : ℕ) → i < length l → at into i ≡ serial_goes limits dirs g anchors l few i
  serial-goes {passing = passing} {chosen} bridged passed selected p filled some i h =
      filled.each i h
      ∙ (serial-into limits told regions firsts seconds chosen count few ranked p.parted p.marked passing passed some i h
      ∙ ap (λ (ks : List LinkAt). goes_by limits l (length l) ks (accepts_serial limits dirs g l) i) (sym (serial-chosen linked ranked bridged selected)))

  pub flat_goes_lem : {flat chosen parts joined into : List ℕ} (serial : List ℕ) → FlatInside limits dirs g l regions firsts seconds flat count →
      ((i : ℕ) → i < length l → at serial i ≡ serial_goes limits dirs g anchors l few i) →
      FirstAre (λ k. cond (flat_link_in limits own serial (at flat k) (at firsts k) (at seconds k)) 1 0) count chosen
      → LinkComponents chosen firsts seconds count parts joined →
      FirstAre (flat_into limits (length l) own bits lowers highers regions firsts seconds count chosen joined parts) (length l) into →
      (i : ℕ) → i < length l → at into i ≡ flat_goes limits dirs g anchors l few i
  flat_goes_lem {chosen = chosen} serial inner goes selected p filled i h =
      filled.each i h
      ∙ (flat-into limits told regions firsts seconds chosen count few ranked p.parted p.marked i h
      ∙ ap (λ (ks : List LinkAt). goes_by limits l (length l) ks (accepts_flat limits dirs g l) i)
      (sym (flat-chosen linked ranked own serial few inner told.ends goes selected)))

  pub merged : (serial flat : List ℕ) → ((i : ℕ) → i < length l → at serial i ≡ serial_goes limits dirs g anchors l few i)
      → ((i : ℕ) → i < length l → at flat i ≡ flat_goes limits dirs g anchors l few i) →
      (i : ℕ) → i < length l → goes_to (at serial i) (at flat i) i ≡ merge_plan limits dirs g anchors l i
  merged serial flat a b i h =
      ap (λ (x : ℕ). goes_to x (at flat i) i) (a i h)
      ∙ (ap (λ (x : ℕ). goes_to (serial_goes limits dirs g anchors l few i) x i) (b i h) ∙ sym (plan-goes limits dirs g anchors l few i h))
