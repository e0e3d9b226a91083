-- How many of the numbers of a part there are.
use mathlib.Core.Path.{◌≡◌, ◌∙◌, ap}
use mathlib.Core.List.{List}
use Prim.Native.Nat.{ℕ, ◌-◌, ◌≤◌}
use Rattle.std.specs.Prelude.{min}
use native.Mathlib.Omega.{arith}
use lib.ListN.{length, drop, length-drop}
use Rattle.std.proofs.lemmas.List.{length-take}
use Rattle.wire.specs.Bytes.{part}

module _ (keys : List ℕ) (a c : ℕ) where
  pub part-long : length (part keys a c) ≡ min c (length keys - a)
  unfolding part
  part-long = length-take c (drop a keys) ∙ ap (min c) (length-drop a keys)

  pub part-short : (length (part keys a c) ≤ c) × (length (part keys a c) ≤ length keys)
  part-short = (omega (arith, part-long), omega (arith, part-long))
