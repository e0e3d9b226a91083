-- What a test and what follows it come to.
use mathlib.Core.Path.{◌≡◌}
use mathlib.Core.Bool.{Bool, true, false, ◌&&◌}

pub and-taken : {p q r : Bool} → p ≡ true → r ≡ q → r ≡ (p && q)
and-taken e h = rw (e, h)

pub and_left : {p : Bool} (q : Bool) → p ≡ false → false ≡ (p && q)
and_left q e = rw e
