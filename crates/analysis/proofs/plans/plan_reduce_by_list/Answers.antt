use Rattle.analysis.proofs.plans.plan_reduce_by_list.Goals as goal

pub returns : goal.returns
returns c = rw (c.from.ensures.0, c.from.ensures.1) c.merges_by_list-made.ensures
