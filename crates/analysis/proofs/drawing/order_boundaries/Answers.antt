use native.Mathlib.Omega.{arith}
use Rattle.analysis.proofs.Headed.{keys_in_lem, headed-ranked}
use mathlib.Core.Path.{refl}
use Rattle.analysis.proofs.drawing.order_boundaries.Goals as goal

pub fill_keys-requires : goal.fill_keys-requires
fill_keys-requires c =
    let k = keys_in_lem c.requires.0 _ _ refl refl in
    (k.0, k.1, refl, refl)

pub sort_ranks-requires : goal.sort_ranks-requires
sort_ranks-requires c =
    (omega (arith, (keys_in_lem c.requires.0 _ _ refl refl).0, c.requires.1), omega (arith, (keys_in_lem c.requires.0 _ _ refl refl).0))

pub returns : goal.returns
returns c =
    headed-ranked c.requires.0 _ _ refl refl _ c.fill_keys.ensures
    (omega (arith, (keys_in_lem c.requires.0 _ _ refl refl).0, c.requires.1)) c.sort_ranks.ensures
