-- Bytes written one block after another.
use Rattle.std.specs.Prelude.{List, [], ◌++◌, ℕ, zero, suc}

-- f 0, then f 1, up to f (n − 1)
unfoldable pub blocks : ℕ → (ℕ → List ℕ) → List ℕ
blocks zero f = []
blocks (suc n) f = blocks n f ++ f n
