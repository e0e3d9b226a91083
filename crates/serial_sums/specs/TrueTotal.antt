-- What an exact total is: the true one. Only whole numbers, and the values of a binary64.
use Rattle.std.specs.Prelude.{◌≡◌, List, map, ℕ, ◌*◌, Float}
use Rattle.lists.specs.Rows.{sum}
use Rattle.length.specs.Nearest.{PlainFloat, num, den, square}

-- r is half the sum of the roots of the ds, itself.
pub record TrueTotal (ds : List ℕ) (r : Float) : Type 0 where
  pub roots : List ℕ
  pub squared : map square roots ≡ ds
  pub value : PlainFloat r
  pub half : 2 * num r ≡ sum roots * den r
