use mathlib.Core.Path.{◌≡◌, refl, ◌∙◌, subst}
use native.Mathlib.Omega.{arith}
use Rattle.serial_measures.specs.Tables.{Cleared}
use Rattle.serial_measures.proofs.Writing.{word-there, clear-start, clear_next, clear-end}
use Rattle.serial_measures.proofs.clear_all.Goals as goal

pub loop-k-init : goal.loop-k-init
loop-k-init c = record { as_long = refl; cleared = λ s L W. clear-start W }

pub put_word-requires : goal.put_word-requires
put_word-requires c =
    let m = c.loop-k in
    let k : m.k ≡ m.k = refl in
    word-there c.requires.2 c.loop-k-test.true k m.work (omega (arith, c.requires.1, m.invariant.as_long))

pub loop-k-preserved : goal.loop-k-preserved
loop-k-preserved c =
    let put = c.put_word in
    let m = c.loop-k in
    let k : m.k ≡ m.k = refl in
    record {
      as_long = put.auto.work ∙ m.invariant.as_long;
      cleared = λ s L W. clear_next c.requires.2 L.room c.loop-k-test.true k (m.invariant.cleared s L W) put.ensures;
    }

pub returns : goal.returns
returns c =
    let all : c.loop-k.k ≡ c.args.links = omega arith in
    λ s L W. clear-end L (subst (Cleared _ _ _ _ _) all (c.loop-k.invariant.cleared s L W))
