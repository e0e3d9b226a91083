use Rattle.std.proofs.Common.{refl, arith}
use Rattle.answer_text.proofs.Writing.{room, next, done, as_long}
use Rattle.answer_text.proofs.Sizing.{no_header, no-records, no_room, listing_start}
use Rattle.answer_text.proofs.listing.write_listing.Goals as goal

pub returns-then-n-lt-ANSWER_HEADER_SIZE : goal.returns-then-n-lt-ANSWER_HEADER_SIZE
returns-then-n-lt-ANSWER_HEADER_SIZE c = record { writes = no_header _ _ (omega arith); fits = omega arith }

pub returns-then-n-total : goal.returns-then-n-total
returns-then-n-total c =
    record {
      writes = no-records _ _ (omega (arith, c.read_u32-kept.ensures, c.read_u32-o.ensures, c.read_u32-s.ensures));
      fits = omega arith;
    }

pub returns-then-out-total : goal.returns-then-out-total
returns-then-out-total c =
    record {
      writes = no_room _ _ (omega (arith, c.read_u32-kept.ensures, c.read_u32-o.ensures, c.read_u32-s.ensures));
      fits = omega arith;
    }

pub write_kept-at-requires : goal.write_kept-at-requires
write_kept-at-requires c =
    room (listing_start c.args.answer.now c.args.out.now (λ i. (c.type_inv.answer i).fits) _ _ _ c.read_u32-kept.ensures c.read_u32-o.ensures
    c.read_u32-s.ensures (omega arith) (omega arith) (omega arith) (omega arith) (omega arith) _ refl)

pub write_boundaries-requires : goal.write_boundaries-requires
write_boundaries-requires c = (
  record { observations = omega arith; sources = omega arith },
  omega arith,
  room (next (listing_start c.args.answer.now c.args.out.now (λ i. (c.type_inv.answer i).fits) _ _ _ c.read_u32-kept.ensures c.read_u32-o.ensures
      c.read_u32-s.ensures (omega arith) (omega arith) (omega arith) (omega arith) (omega arith) _ refl) c.write_kept-at.ensures),
)

pub returns : goal.returns
returns c =
    let l = next (next (listing_start c.args.answer.now c.args.out.now (λ i. (c.type_inv.answer i).fits) _ _ _ c.read_u32-kept.ensures
    c.read_u32-o.ensures c.read_u32-s.ensures (omega arith) (omega arith) (omega arith) (omega arith) (omega arith) _ refl)
    c.write_kept-at.ensures) c.write_boundaries.ensures in
    record { writes = done l; fits = omega (arith, l.fits, as_long l, (done l).end) }
