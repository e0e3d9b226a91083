-- The merge plan by what the serial and the flat groups make of each rank.
use mathlib.Core.Path.{◌≡◌, refl, sym, ◌∙◌, ap}
use mathlib.Core.Bool.{Bool, true, false, cond, not}
use mathlib.Core.List.{List, Memᴰ}
use Prim.Native.Nat.{ℕ, ◌≤◌, ◌<◌}
use native.Mathlib.Omega.{arith}
use borrow.Author.Tests.{ne_eqb}
use lib.Dec.{eqb}
use lib.ListN.{length}
use Rattle.position.specs.declared.WalkPosition.{WalkPosition}
use Rattle.grid.specs.Cells.{Grid}
use Rattle.serial_links.specs.Limits.{Limits}
use Rattle.context.specs.Listing.{Item}
use Rattle.serial_groups.specs.Links.{LinkAt}
use Rattle.serial_groups.specs.Groups.{LinkGroup}
use Rattle.serial_groups.specs.Serial.{accepts_serial, serial_links}
use Rattle.serial_groups.specs.Flat.{accepts_flat, flat_links, accepted, is_left}
use Rattle.serial_groups.specs.Representative.{retained}
use Rattle.serial_groups.specs.Plan.{merge_plan}
use Rattle.serial_groups.proofs.Accepted.{accepted-below}
use Rattle.serial_groups.proofs.Plan.{accepted-retained}
use Rattle.serial_plan.specs.Into.{goes_to}
use Rattle.serial_plan.proofs.TakenLaws.{own_group, taken, serial_taken, flat_taken, serial-any, serial-accepted, flat-accepted, plan-serial, plan-flat}
use Rattle.serial_plan.proofs.TakenLaws.{plan-stays}

-- the rank that the rank goes into by the accepted ones of the links' groups
abbrev pub goes_by : Limits → List Item → ℕ → List LinkAt → (LinkGroup → Bool) → ℕ → ℕ
goes_by limits l n ks t i = cond (taken n ks t i) (retained limits l (own_group n ks i).ranks) 256

free-by : (t : Bool) (x : ℕ) → (t ≡ true → x < 256) → eqb (cond t x 256) 256 ≡ not t
free-by true x f = ne_eqb x 256 (λ e. omega (arith, f refl))
free-by false x f = refl

goes_by_lem : (a b : Bool) (x y i p : ℕ) → (a ≡ true → x < 256) → (b ≡ true → y < 256) → (a ≡ true → p ≡ x) → (b ≡ true → p ≡ y)
    → (a ≡ false → b ≡ false → p ≡ i)
    → p ≡ goes_to (cond a x 256) (cond b y 256) i
goes_by_lem true b x y i p f g s t u = let h : eqb x 256 ≡ false = ne_eqb x 256 (λ e. omega (arith, f refl)) in rw h (s refl)
goes_by_lem false true x y i p f g s t u = let h : eqb y 256 ≡ false = ne_eqb y 256 (λ e. omega (arith, g refl)) in rw h (t refl)
goes_by_lem false false x y i p f g s t u = u refl refl

module _ (limits : Limits) (dirs : List ℕ) (g : Grid) (anchors : List WalkPosition) (l : List Item) (few : length l ≤ 256) where
  abbrev pub serial_goes : ℕ → ℕ
  serial_goes = goes_by limits l (length l) (serial_links dirs g anchors l) (accepts_serial limits dirs g l)

  abbrev pub flat_goes : ℕ → ℕ
  flat_goes = goes_by limits l (length l) (flat_links limits dirs g anchors l) (accepts_flat limits dirs g l)

  retained-low : {a : LinkGroup} → Memᴰ a (accepted limits dirs g anchors l) → retained limits l a.ranks < 256
  retained-low {a} m = omega (arith, few, accepted-below limits dirs g anchors l m (retained limits l a.ranks) (accepted-retained limits dirs g anchors l m))

  serial-low : (i : ℕ) → i < length l → serial_taken limits dirs g anchors l i ≡ true
      → retained limits l (own_group (length l) (serial_links dirs g anchors l) i).ranks < 256
  serial-low i h e = retained-low (serial-accepted limits dirs g anchors l i h e).0

  flat-low : (i : ℕ) → i < length l → flat_taken limits dirs g anchors l i ≡ true
      → retained limits l (own_group (length l) (flat_links limits dirs g anchors l) i).ranks < 256
  flat-low i h e = retained-low (flat-accepted limits dirs g anchors l i h e).0

  -- no serial group has the rank just if it goes into 256
  pub left_is : (i : ℕ) → i < length l → is_left limits dirs g anchors l i ≡ eqb (serial_goes i) 256
  left_is i h =
      ap not (serial-any limits dirs g anchors l i h)
      ∙ sym (free-by (serial_taken limits dirs g anchors l i) (retained limits l (own_group (length l) (serial_links dirs g anchors l) i).ranks)
      (serial-low i h))

  pub plan-goes : (i : ℕ) → i < length l → merge_plan limits dirs g anchors l i ≡ goes_to (serial_goes i) (flat_goes i) i
  plan-goes i h =
      goes_by_lem (serial_taken limits dirs g anchors l i) (flat_taken limits dirs g anchors l i)
      (retained limits l (own_group (length l) (serial_links dirs g anchors l) i).ranks)
      (retained limits l (own_group (length l) (flat_links limits dirs g anchors l) i).ranks)
      i (merge_plan limits dirs g anchors l i) (serial-low i h) (flat-low i h) (plan-serial limits dirs g anchors l i h) (plan-flat limits dirs g anchors l i h)
      (plan-stays limits dirs g anchors l i)
