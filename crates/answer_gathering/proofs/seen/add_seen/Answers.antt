use Rattle.std.proofs.Common.{length, refl, ap}
use Rattle.format.specs.declared.records.BoundaryRecord.{BoundaryRecord}
use Rattle.answer_gathering.proofs.Goings.{elsewhere, there}
use Rattle.answer_gathering.proofs.Sights.{own-place, places-inside, seen-room, places-there}
use Rattle.answer_gathering.proofs.seen.add_seen.Goals as goal

pub returns-then-plan-j : goal.returns-then-plan-j
returns-then-plan-j c = elsewhere _ _ _ refl c.if-plan-j.true

pub add_seen_places-requires : goal.add_seen_places-requires
add_seen_places-requires c =
    let many = ap (λ (r : BoundaryRecord). r.observations) c.read_boundary-x.ensures in (
      own-place c.requires.0 c.requires.1 refl,
      places-inside c.requires.0 c.requires.1 refl refl many,
      seen-room c.requires.0 c.requires.1 refl c.args.to (length c.args.seen.now) c.read_boundary-x.result.observations many refl c.if-plan-j.false
          c.requires.3,
    )

pub returns : goal.returns
returns c =
    let many = ap (λ (r : BoundaryRecord). r.observations) c.read_boundary-x.ensures in
    there refl c.if-plan-j.false
    (places-there c.requires.0 c.requires.1 refl refl c.if-plan-j.false c.requires.2 refl many refl c.add_seen_places.ensures)
