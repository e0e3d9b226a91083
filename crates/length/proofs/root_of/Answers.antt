use Rattle.std.proofs.Common.{◌*◌, ◌^◌, arith}
use Rattle.length.proofs.Digits.{next, all, small-root}
use Rattle.length.proofs.Roots.{is-root}
use Rattle.length.proofs.root_of.Goals as goal

pub digit-r-requires : goal.digit-r-requires
digit-r-requires c =
    let fits = small-root c.args.n (2 ^ (2 * c.loop-i.i)) c.loop-i.r.root c.loop-i.r.rem c.requires
    c.loop-i.invariant.0 in
    omega arith

pub loop-i-preserved : goal.loop-i-preserved
loop-i-preserved c =
    omega (arith, next c.args.n c.loop-i.i c.loop-i-test.true, c.digit-r.ensures.sum)

pub returns : goal.returns
returns c =
    is-root c.args.n c.loop-i.r (omega (arith, all c.args.n c.loop-i.i c.loop-i-test.false))
