-- The operations on f64s, each rounded once, and those that Rust has as methods. Document 01: "Float operations are each rounded once, in the order
-- the Rust writes them."
use Rattle.std.specs.Prelude.{Bool, false, not, cond, ℕ, pos, Float}
use Rattle.std.specs.Float.{nan, inf, fin, binary64}
use Rattle.std.specs.Float.Ieee.{add, sub, mul, div, neg, lt, of_bits, of_int}

infixl 65 ◌⊕◌ ◌⊖◌
infixl 70 ◌⊗◌ ◌⊘◌
abbrev pub ◌⊕◌ : Float → Float → Float
◌⊕◌ x y = add binary64 x y

abbrev pub ◌⊖◌ : Float → Float → Float
◌⊖◌ x y = sub binary64 x y

abbrev pub ◌⊗◌ : Float → Float → Float
◌⊗◌ x y = mul binary64 x y

abbrev pub ◌⊘◌ : Float → Float → Float
◌⊘◌ x y = div binary64 x y

-- The f64 of a whole_float number.
abbrev pub whole_float : ℕ → Float
whole_float n = of_int binary64 (pos n)

-- Rust's `abs`, `min` and `max` of numbers. They may differ from Rust's in a zero's sign, which no result tells, and at a NaN, which does not arise.
abbrev pub abs_of : Float → Float
abs_of a = cond (lt a (of_bits binary64 0)) (neg a) a

abbrev pub min_of : Float → Float → Float
min_of a b = cond (lt b a) b a

abbrev pub max_of : Float → Float → Float
max_of a b = cond (lt a b) b a

-- A finite number that is not negative; -0 is negative.
abbrev pub finite_up : Float → Bool
finite_up nan = false
finite_up (inf s) = false
finite_up (fin s m e) = not s
