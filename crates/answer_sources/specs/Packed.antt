-- Two u32 in one u64, which orders as they do: columns and rows, and the halves of sources.
use Rattle.std.specs.Prelude.{◌≡◌, List, map, ℕ, ◌<◌, get_or}
use Rattle.order.specs.Keys.{pack}
use Rattle.position.specs.declared.Span.{Span}
use Rattle.length.specs.Total.{total_key}
use Rattle.format.specs.declared.records.Source.{Source}

unfoldable pub source_pack : Source → ℕ
source_pack s = pack s.from s.to

unfoldable pub packed : List Source → List ℕ
packed ss = map source_pack ss

-- At place p: the ends, packed, and where the width stands in the total order.
pub record KeyAt (first second third : List ℕ) (p : ℕ) (e : Span) (bits : ℕ) : Type 0 where
  pub first-is : get_or first p 0 ≡ pack e.a.x e.a.y
  pub second_is : get_or second p 0 ≡ pack e.b.x e.b.y
  pub third-is : get_or third p 0 ≡ total_key bits
  pub first_fits : e.a.y < 0x1_0000_0000
  pub second_fits : e.b.y < 0x1_0000_0000
