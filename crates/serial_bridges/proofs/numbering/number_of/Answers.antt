use mathlib.Core.Path.{◌≡◌, refl, sym, ◌∙◌}
use native.Mathlib.Omega.{arith}
use Prim.Native.Nat.{◌+◌, ◌-◌}
use Rattle.serial_bridges.proofs.numbering.number_of.Goals as goal

pub returns-then-found-ne0 : goal.returns-then-found-ne0
returns-then-found-ne0 c =
    let q = sym c.word_of-found.ensures in
    let t : c.word_of-found.result ≡ c.word_of-found.result - 1 + 1 = omega (arith, c.if-found-ne0.true) in
    record { old = λ n. (q ∙ t, refl); new = λ z. absurd (c.if-found-ne0.true (sym q ∙ z)) }

pub returns : goal.returns
returns c =
    let t : c.word_of-found.result ≡ 0 = omega (arith, c.if-found-ne0.false) in
    record { old = λ n. absurd (n (sym c.word_of-found.ensures ∙ t)); new = λ z. (refl, c.put_word.ensures) }
