-- What the functions read: numbers of labels, spans and widths of ranks.
use mathlib.Core.Path.{◌≡◌, sym, ◌∙◌, ap, subst}
use mathlib.Core.List.{List}
use Prim.Native.Nat.{ℕ, ◌+◌, ◌*◌, ◌-◌, ◌≤◌, ◌<◌}
use native.Mathlib.Nat.{mul-le-mul}
use native.Mathlib.Omega.{arith}
use borrow.Author.Tests.{eq-eqb, ne_eqb}
use Rattle.lists.specs.Rows.{at}
use Rattle.wire.specs.Bytes.{u32_at}
use Rattle.position.specs.declared.Span.{Span}
use Rattle.areas.specs.Spans.{span_in}
use Rattle.serial_links.specs.Link.{link_of}
use Rattle.serial_links.specs.Held.{SpanBounded}
use Rattle.serial_links.specs.HeldLink.{side, no_cell}
use Rattle.serial_measures.specs.Tables.{table_number}
use Rattle.serial_measures.specs.Judging.{CoordinatesBounded, value_in}

pub number-zero : (work : List ℕ) (n : ℕ) {r : ℕ} → r ≡ 0 → 0 ≡ table_number work n r
number-zero work n {r} e = let h = eq-eqb r 0 e in rw h

pub number_word : (work : List ℕ) (n : ℕ) {r : ℕ} → (r ≡ 0 → ⊥) → u32_at work (4 * n + 4 * (r - 1)) ≡ table_number work n r
number_word work n {r} e = let h = ne_eqb r 0 e in rw h

-- the spans of plain arrays are in bounds
pub span-bounded : {own bits : List ℕ} → CoordinatesBounded own bits → (i : ℕ) → i < 256 → {s : Span} → s ≡ span_in own i → SpanBounded s
unfolding span_in
span-bounded P i l e = subst SpanBounded (sym e) (record {
  first = record { column = P.coordinate (4 * i) (omega arith); row = P.coordinate (4 * i + 1) (omega arith) };
  second = record { column = P.coordinate (4 * i + 2) (omega arith); row = P.coordinate (4 * i + 3) (omega arith) };
})

pub same-value : (own bits : List ℕ) {s t : Span} {i j first second : ℕ} → s ≡ span_in own i → t ≡ span_in own j → i ≡ first → j ≡ second
    → no_cell (link_of (side s (at bits i)) (side t (at bits j))) ≡ no_cell (value_in own bits first second)
same-value own bits {s} {t} {i} {j} {first} {second} e f p q =
    ap (λ (z : Span). no_cell (link_of (side z (at bits i)) (side t (at bits j)))) e
    ∙ (ap (λ (z : Span). no_cell (link_of (side (span_in own i) (at bits i)) (side z (at bits j)))) f
    ∙ (ap (λ (z : ℕ). no_cell (value_in own bits z j)) p ∙ ap (λ (z : ℕ). no_cell (value_in own bits first z)) q))

-- how many cells a map has at most
pub area : {width height n : ℕ} → width ≤ 1024 → height ≤ 1024 → n ≡ width * height → n ≤ 0x10_0000
area {width} {height} w h e = let m : width * height ≤ 1024 * 1024 = mul-le-mul w h in omega (arith, m, e)
