-- Positions that a map of at most 1,024 by 1,024 cells can have: each coordinate is at most 8 · 1,024.
use Rattle.std.specs.Prelude.{◌≤◌}
use Rattle.position.specs.declared.PixelPosition.{PixelPosition}

pub record Bounded (p : PixelPosition) : Type 0 where
  pub column : p.x ≤ 8192
  pub row : p.y ≤ 8192
