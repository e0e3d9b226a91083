use mathlib.Core.Path.{◌∙◌, ap}
use mathlib.Core.List.{List}
use Prim.Native.Nat.{ℕ, ◌+◌, ◌/◌}
use native.Mathlib.Omega.{arith}
use Rattle.wire.specs.Bytes.{splice, u32_bytes}
use Rattle.wire.proofs.Words.{two-writes}
use Rattle.wire.proofs.write_u64.Goals as goal

pub returns : goal.returns
returns c =
    let a = c.args in
    let first = c.write_u32.ensures in
    c.write_u32-2.ensures
    ∙ ap (λ (l : List ℕ). splice l (a.at + 4) (u32_bytes (a.v / 0x1_0000_0000))) first
    ∙ two-writes a.s.now a.at a.v (omega arith)
