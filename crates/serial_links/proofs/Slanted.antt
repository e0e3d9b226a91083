-- Slanted links, by computing: cells, bits and outcome are those that the Rust has for these jobs. Each measure just meets its limit, and each of its sums
-- taken in another order gives another f64 or another outcome for one of them.
use mathlib.Core.Path.{◌≡◌, refl}
use mathlib.Core.Bool.{true, false}
use mathlib.Core.List.{[], ◌∷◌}
use Prim.Native.Nat.{ℕ}
use lib.Ieee.{binary64, neg, add, sub, mul, div, lt, le, of_bits, of_int}
use Rattle.length.specs.Length.{length_of}
use Rattle.position.specs.Order.{canonical}
use Rattle.position.specs.declared.Span.{Span}
use Rattle.serial_links.specs.Limits.{limits000}
use Rattle.serial_links.specs.Geometry.{squares}
use Rattle.serial_links.specs.Link.{Link, widened_by, link_of}
use Rattle.serial_links.specs.Measure.{within, beyond, extremes, judged, measured, transverse_limit, longitudinal_limit}
use Rattle.serial_links.specs.Flat.{inside_flat}
use Rattle.serial_links.specs.Parallel.{cosine_of}
use Rattle.serial_links.proofs.Cases.{span}

-- Two boundaries of the same width.
abbrev between : ℕ → Span → Span → Link
between bits first second = link_of (record { span = first; bits = bits }) (record { span = second; bits = bits })

-- 4 × 2 open cells; cells 1 and 5 lie between the spans. The transverse envelope is just 1.5 widths and 16; its extent added to the greatest
-- first, it is one unit more.
abbrev narrow : Link
narrow = between 0x3FEA_D78E_E8AA_C444 (span 8 0 8 16) (span 12 0 14 14)

narrow_within : measured limits000 narrow 4 (1 ∷ 5 ∷ []) ≡ within (of_bits binary64 0x4031_421A_B2E8_0133) (of_bits binary64 0x4025_F70A_B527_4758)
unfolding measured judged extremes link_of canonical widened_by length_of squares of_int of_bits neg add sub mul div lt le
narrow_within = refl

narrow-limits :
    transverse_limit limits000 narrow ∷ longitudinal_limit limits000 narrow ∷ []
    ≡ of_bits binary64 0x4031_421A_B2E8_0133 ∷ of_bits binary64 0x4035_84B7_9367_370E ∷ []
unfolding link_of length_of squares of_int of_bits add sub mul div lt
narrow-limits = refl

-- 6 × 3 open cells. The least less the extent, the second centre as origin, or half a width and 16 added first change the envelope or the limit.
abbrev broad : Link
broad = between 0x4017_7C35_874F_4D32 (span 5 0 8 22) (span 12 0 17 24)

broad-within : measured limits000 broad 6 (1 ∷ 7 ∷ 13 ∷ []) ≡ within (of_bits binary64 0x4038_CE94_12BD_BCF3) (of_bits binary64 0x4025_D482_4DEE_A646)
unfolding measured judged extremes link_of canonical widened_by length_of squares of_int of_bits neg add sub mul div lt le
broad-within = refl

-- A row of 8 cells with a passage below it, in a map of 8 columns: the longitudinal envelope is just the distance, half a width and 16, in this order alone.
abbrev long : Link
long = between 0x401D_3743_A72C_63DB (span 7 9 11 0) (span 12 0 16 8)

long-within : measured limits000 long 8 (1 ∷ 9 ∷ 17 ∷ 18 ∷ 19 ∷ []) ≡ within (of_bits binary64 0x403A_44DB_FE1E_BFAF) (of_bits binary64 0x4038_AD4A_C7EE_56F8)
unfolding measured judged extremes link_of canonical widened_by length_of squares of_int of_bits neg add sub mul div lt le
long-within = refl

-- One unit less of width, and it is beyond.
long-beyond :
    measured limits000 (between 0x401D_3743_A72C_63DA (span 7 9 11 0) (span 12 0 16 8)) 8 (1 ∷ 9 ∷ 17 ∷ 18 ∷ 19 ∷ [])
    ≡ beyond (of_bits binary64 0x403A_44DB_FE1E_BFAF) (of_bits binary64 0x4038_AD4A_C7EE_56F8)
unfolding measured judged extremes link_of canonical widened_by length_of squares of_int of_bits neg add sub mul div lt le
long-beyond = refl

-- Columns of cells that reach down from a row, in maps 5 cells wide: the last cell is past the spans' ends by just a quarter of the width.
-- One unit less of width, and it is outside.
abbrev deep : ℕ → Link
deep bits = between bits (span 7 0 9 10) (span 16 0 20 9)

deep-above :
    inside_flat limits000 (deep 0x406A_92E0_6205_3C06) 5 (1 ∷ 6 ∷ 11 ∷ 16 ∷ 21 ∷ 26 ∷ 31 ∷ 36 ∷ [])
    ∷ inside_flat limits000 (deep 0x406A_92E0_6205_3C05) 5 (1 ∷ 6 ∷ 11 ∷ 16 ∷ 21 ∷ 26 ∷ 31 ∷ 36 ∷ [])
    ∷ []
    ≡ true ∷ false ∷ []
unfolding inside_flat link_of canonical widened_by length_of squares of_int of_bits neg add sub mul div lt
deep-above = refl

abbrev leaning : ℕ → Link
leaning bits = between bits (span 12 8 16 0) (span 25 0 25 9)

leaning-below :
    inside_flat limits000 (leaning 0x4060_FE7E_6D69_F538) 5 (2 ∷ 7 ∷ 12 ∷ 17 ∷ 22 ∷ 27 ∷ [])
    ∷ inside_flat limits000 (leaning 0x4060_FE7E_6D69_F537) 5 (2 ∷ 7 ∷ 12 ∷ 17 ∷ 22 ∷ 27 ∷ [])
    ∷ []
    ≡ true ∷ false ∷ []
unfolding inside_flat link_of canonical widened_by length_of squares of_int of_bits neg add sub mul div lt
leaning-below = refl

-- The dot product by the first length, then by the second: by their product, or by the second length first, it is one unit less.
leaning-cosine : cosine_of (span 6 0 15 15) (span 20 0 24 23) ≡ of_bits binary64 0x3FED_DADC_6348_16F2
unfolding length_of squares of_int of_bits add sub mul div lt
leaning-cosine = refl
