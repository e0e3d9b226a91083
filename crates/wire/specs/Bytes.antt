-- Numbers in bytes, and parts of byte lists. Document 01: "Fields are little-endian."
use Rattle.std.specs.Prelude.{ℕ, zero, suc, ◌+◌, ◌*◌, ◌/◌, ◌%◌, ◌<◌, length, get_or, take, drop}
use mathlib.Core.List.{List, [], ◌∷◌, ◌++◌, flat_map}

-- The part of s that starts at i and is n long; shorter where s ends before.
unfoldable pub part : List ℕ → ℕ → ℕ → List ℕ
part s i n = take n (drop i s)

-- s with the elements from i on replaced by bs, as many as bs has.
unfoldable pub splice : List ℕ → ℕ → List ℕ → List ℕ
splice s i bs = take i s ++ (bs ++ drop (i + length bs) s)

-- The number that little-endian bytes stand for: the first byte counts least.
unfoldable pub number : List ℕ → ℕ
number [] = 0
number (b ∷ bs) = b + 256 * number bs

-- The n bytes of a number, little-endian.
unfoldable pub bytes : ℕ → ℕ → List ℕ
bytes zero v = []
bytes (suc n) v = v % 256 ∷ bytes n (v / 256)

-- The n-byte number at place i of s.
unfoldable pub number_at : ℕ → List ℕ → ℕ → ℕ
unfolding part number
number_at n s i = number (part s i n)

-- The two widths in use.
abbrev pub u32_at : List ℕ → ℕ → ℕ
u32_at s i = number_at 4 s i

abbrev pub u64_at : List ℕ → ℕ → ℕ
u64_at s i = number_at 8 s i

abbrev pub u32_bytes : ℕ → List ℕ
u32_bytes v = bytes 4 v

abbrev pub u64_bytes : ℕ → List ℕ
u64_bytes v = bytes 8 v

-- u32 after u32.
unfoldable pub words : List ℕ → List ℕ
unfolding flat_map
words ws = flat_map u32_bytes ws

-- Every element is a byte, as those of a byte slice are.
abbrev pub AreBytes : List ℕ → Type 0
AreBytes s = (i : ℕ) → get_or s i 0 < 256
