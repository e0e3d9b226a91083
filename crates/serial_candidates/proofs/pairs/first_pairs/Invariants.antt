use Rattle.serial_candidates.specs.Owners.{Firsts}
use Rattle.serial_candidates.proofs.pairs.first_pairs.Given as goal

abbrev pub invariant-loop-k : goal.invariant-loop-k
invariant-loop-k l = Firsts l.owners l.lefts l.rights l.k l.counts l.lowers l.highers
