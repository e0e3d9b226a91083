use Rattle.serial_candidates.proofs.TopLaws.{below_all, answered}
use Rattle.serial_candidates.proofs.candidate_links.Goals as goal

pub first_pairs-requires : goal.first_pairs-requires
first_pairs-requires c =
    let p = c.requires in (p.2, below_all p.0 p.3)

pub returns : goal.returns
returns c =
    let a = c.args in
    answered a.anchors.now a.own.now a.owners.now a.lefts.now a.rights.now a.records
    c.first_pairs.ensures c.find_linkables.ensures c.collect.ensures
