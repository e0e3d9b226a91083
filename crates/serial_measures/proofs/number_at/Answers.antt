use mathlib.Core.Path.{◌≡◌, sym, ◌∙◌, ap}
use Prim.Native.Nat.{ℕ, ◌+◌, ◌*◌, ◌-◌}
use native.Mathlib.Omega.{arith}
use Rattle.wire.specs.Bytes.{u32_at}
use Rattle.serial_measures.proofs.Reading.{number-zero, number_word}
use Rattle.serial_measures.proofs.number_at.Goals as goal

pub returns-then-label-eq0 : goal.returns-then-label-eq0
returns-then-label-eq0 c =
    let a = c.args in
    let zero : c.read_u32-label.result ≡ 0 = omega (arith, c.if-label-eq0.true) in
    number-zero a.work.now a.n (sym c.read_u32-label.ensures ∙ zero)

pub word_of-requires : goal.word_of-requires
word_of-requires c =
    let p = c.requires in
    (omega (arith, c.if-label-eq0.false), omega (arith, c.read_u32-label.ensures, p.2, p.3))

pub returns : goal.returns
returns c =
    let a = c.args in
    let q = c.read_u32-label.ensures in
    c.word_of.ensures
    ∙ (ap (λ (z : ℕ). u32_at a.work.now (4 * a.n + 4 * (z - 1))) q ∙ number_word a.work.now a.n (λ e. omega (arith, e, q, c.if-label-eq0.false)))
