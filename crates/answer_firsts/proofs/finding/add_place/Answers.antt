use Rattle.std.proofs.Common.{◌+◌, refl, arith, length-set}
use lib.ListN.{set}
use lib.Seq.{get_or-set_same, get_or-set_other}
use Rattle.answer_firsts.proofs.Grows.{grown-new, linking}
use Rattle.answer_firsts.proofs.finding.add_place.Goals as goal

pub returns : goal.returns
returns c =
    let asked = c.requires in
    let count = c.args.count in
    let p = c.args.p in
    let places = c.args.places.now in
    let looked = c.in-Err.ensures in
    let cells-long = asked.0.cells-long in
    let places-long = asked.0.places-long in
    let cell = c.in-Err.cell in
    let cells = linking c.args.heads c.args.links.now count cell (count + 1) (omega arith) looked.within refl in
    grown-new asked.0 asked.1 asked.2 (looked.missing refl) looked.within cells p (set places count p) c.key_at-x.ensures asked.3
    (length-set places count p) (λ k h. get_or-set_other places count k p 0 (λ z. omega arith)) (get_or-set_same places count p 0 (omega arith))
