-- The line has at most 40 bytes, for which there is room.
use native.Mathlib.Omega.{arith}
use Rattle.answer_text.proofs.Pieces.{refused-length, refused-room}
use Rattle.answer_text.proofs.listing.write_refused.Goals as goal

pub write_pair-requires : goal.write_pair-requires
write_pair-requires c = refused-room c.args.number c.args.detail c.args.out.now c.ranges.number.fits c.ranges.detail.fits c.requires

pub returns-clause-fits : goal.returns-clause-fits
returns-clause-fits c =
    omega (arith, c.write_pair.ensures.end, refused-length c.args.number c.args.detail c.ranges.number.fits c.ranges.detail.fits)
