use Rattle.std.proofs.Common.{refl, ap, arith}
use Rattle.format.specs.declared.records.BoundaryRecord.{BoundaryRecord}
use Rattle.answer_gathering.proofs.Owns.{own-inside, own-small, by-else, by-room, by_next}
use Rattle.answer_gathering.proofs.own.add_own.Goals as goal

pub returns-then-plan-j : goal.returns-then-plan-j
returns-then-plan-j c = by-else c.requires.3 refl c.if-plan-j.true

pub add_places-requires : goal.add_places-requires
add_places-requires c =
    let many = ap (λ (r : BoundaryRecord). r.sources) c.read_boundary-x.ensures in
    record {
      linked = c.requires.3.firsts.linked;
      first_le_count = (
        c.requires.3.firsts.low,
        by-room c.requires.3 refl c.if-plan-j.false c.requires.0 c.requires.1 refl refl many c.requires.2,
        own-inside c.requires.0 c.requires.1 refl refl many,
        own-small c.requires.0 c.requires.1 refl refl many,
      );
    }

pub returns : goal.returns
returns c =
    by_next c.requires.3 refl c.if-plan-j.false c.requires.0 c.requires.1 refl refl (ap (λ (r : BoundaryRecord). r.sources) c.read_boundary-x.ensures)
    (λ i. omega (arith, c.type_inv.job i)) c.add_places.ensures
