-- Numbers as text: lists of ASCII codes.
use Rattle.std.specs.Prelude.{ℕ, zero, suc, ◌+◌, ◌/◌, ◌%◌, true, false, cond, List, [], ◌∷◌, ◌++◌, ltb}

-- The code of a digit below 16: '0' to '9', then 'a' to 'f' ("lower-case").
unfoldable pub glyph : ℕ → ℕ
glyph d = cond (ltb d 10) (48 + d) (87 + d)

-- The last k digits of v in base b, the most significant first.
unfoldable pub last_digits : ℕ → ℕ → ℕ → List ℕ
unfolding glyph
last_digits b zero v = []
last_digits b (suc k) v = last_digits b k (v / b) ++ (glyph (v % b) ∷ [])

-- How many decimal digits v has without leading zeros, where v ≤ n; 0 has one.
unfoldable pub digit_count_from : ℕ → ℕ → ℕ
digit_count_from zero v = 1
digit_count_from (suc n) v = elim (ltb v 10) [ true ↦ 1 | false ↦ suc (digit_count_from n (v / 10)) ]

unfoldable pub digit_count : ℕ → ℕ
unfolding digit_count_from
digit_count v = digit_count_from v v

-- v in decimal, without leading zeros.
unfoldable pub digits : ℕ → List ℕ
unfolding last_digits digit_count
digits v = last_digits 10 (digit_count v) v

-- "bits are 16 lower-case hexadecimal digits"
unfoldable pub hex_digits : ℕ → List ℕ
unfolding last_digits
hex_digits v = last_digits 16 16 v
