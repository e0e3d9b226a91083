-- Arrays lent to the walk serve closing too.
use mathlib.Core.Path.{sym, ◌∙◌}
use mathlib.Core.List.{List}
use Prim.Native.Nat.{ℕ}
use native.Mathlib.Omega.{arith}
use Rattle.serial_walk.specs.Slices.{Lent}
use Rattle.marks_closing.specs.Log.{forest_tables}
use Rattle.marks.specs.Owned.{SpareArrays}

pub spare-lent : {K R : ℕ} {small_lefts small_rights heads left_nexts right_nexts disc stack parents nexts lows : List ℕ}
    → Lent K R small_lefts small_rights heads left_nexts right_nexts disc stack parents nexts lows
    → SpareArrays K small_lefts small_rights (forest_tables parents lows left_nexts right_nexts)
spare-lent l =
    let size = l.sized.parents-are in
    record {
      enough = omega (arith, l.enough, size);
      near = omega (arith, l.near, size);
      small-lefts-are = l.small-lefts-are;
      small-rights-are = l.small-rights-are;
      lent = record { heights-are = l.sized.lows-are ∙ sym size; joined-are = l.left-nexts-are; earlier-are = l.right-nexts-are };
    }
