-- IEEE 754's total_order of f64 bit patterns, as Rust's `total_cmp` has it. Document 01: "Widths in observations are ordered by IEEE 754 total_order."
use Rattle.std.specs.Prelude.{Bool, cond, ℕ, ◌+◌, ◌-◌, leb, ltb}

-- The place of a bit pattern: patterns without the sign come after all those with it, which count down.
-- A number that is no bit pattern comes after them all.
unfoldable pub total_key : ℕ → ℕ
total_key b =
    cond (ltb b 0x8000_0000_0000_0000) (b + 0x8000_0000_0000_0000) (cond (ltb b 0x1_0000_0000_0000_0000) (0xFFFF_FFFF_FFFF_FFFF - b) b)

unfoldable pub total_le : ℕ → ℕ → Bool
unfolding total_key
total_le a b = leb (total_key a) (total_key b)
