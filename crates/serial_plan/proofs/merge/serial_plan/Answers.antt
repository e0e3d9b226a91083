use mathlib.Core.Path.{refl}
use Rattle.serial_links.specs.HeldLimits.{limits_of}
use Rattle.serial_plan.proofs.JudgeLaws.{wider-ranked}
use Rattle.serial_plan.proofs.IntoLaws.{by-serial}
use Rattle.serial_plan.proofs.merge.serial_plan.Goals as goal

pub join_chosen-requires : goal.join_chosen-requires
join_chosen-requires c =
    (wider-ranked c.requires.1, refl, refl)

pub returns : goal.returns
returns c =
    let t = c.args.t.now in
    record {
      chosen = c.select_serial.new.chosen;
      parts = c.join_chosen.new.parts;
      joined = c.join_chosen.new.joined;
      selected = c.select_serial.ensures;
      parted = c.join_chosen.ensures;
      goes = by-serial (limits_of c.args.limits) t.n t.own.now t.bits.now t.lowers.now t.highers.now t.regions.now t.firsts.now t.seconds.now t.links
          _ _ _ c.args.passing.now
          c.into_groups.ensures;
    }
