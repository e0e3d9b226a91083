use Rattle.std.proofs.Common.{◌+◌, ◌≤◌, length}
use Rattle.order.specs.Lists.{gather}
use Rattle.answer_sources.specs.Laying.{sum_below, seen_count}
use Rattle.answer_gathering.specs.Runs.{Appended, going, places_at, seen_weight, into}
use Rattle.answer_gathering.proofs.seen.add_seens.Given as goal

abbrev pub invariant-loop-j : goal.invariant-loop-j
invariant-loop-j l =
    Appended l.initial.seen l.from
    (gather (places_at l.base l.order l.firsts (seen_count l.job l.at) (length (going l.plan l.n l.i))) (going l.plan l.j l.i)) l.seen l.to
    × (l.to ≤ l.from + sum_below (into l.plan (seen_weight l.order (seen_count l.job l.at)) l.i) l.j)
