-- Which of two values a test picks.
use mathlib.Core.Path.{◌≡◌}
use mathlib.Core.Bool.{Bool, true, false, cond}

pub picks_first : {A : Type 0} (t : Bool) (x y : A) → t ≡ true → x ≡ cond t x y
picks_first t x y e = rw e

pub picks_second : {A : Type 0} (t : Bool) (x y : A) → t ≡ false → y ≡ cond t x y
picks_second t x y e = rw e
