use Rattle.std.proofs.Common.{ℕ, ◌+◌, ◌*◌, arith, rules}
use Rattle.format.specs.Sizes.{boundary_size, observation_size}
use Rattle.format.specs.Records.{boundary_at, observation_at}
use Rattle.format.specs.declared.records.BoundaryRecord.{BoundaryRecord}
use Rattle.format.specs.declared.records.ObservationRecord.{ObservationRecord}
use Rattle.answer_sources.proofs.Together.{placed, placed-inside, keys-room, parts-room, places-few}
use Rattle.answer_sources.proofs.Ranked.{ranks-room}
use Rattle.answer_sources.proofs.placing.place_all.Goals as goal

pub overflow_add-m : goal.overflow_add-m
overflow_add-m c = omega (arith, places-few c.requires.0)

pub read_keys-requires : goal.read_keys-requires
read_keys-requires c = keys-room c.requires.0 c.requires.1 c.lay_boundaries.ensures (omega arith) (omega arith)

pub sort_parts-requires : goal.sort_parts-requires
sort_parts-requires c =
    parts-room c.requires.0 c.requires.1 c.lay_boundaries.ensures (omega arith) (omega arith) c.read_keys.ensures

pub rank_records-requires-clause-room : goal.rank_records-requires-clause-room
rank_records-requires-clause-room c = ranks-room c.requires.1.ranks (omega arith)

pub returns-clause-inside : goal.returns-clause-inside
returns-clause-inside c = placed-inside c.requires.0 c.lay_boundaries.ensures

pub returns-clause-copies_placed : goal.returns-clause-copies_placed
returns-clause-copies_placed c =
    let observation : ℕ → ObservationRecord = λ k. observation_at c.args.job.now (c.args.ats + k * observation_size) in
    let boundary : ℕ → BoundaryRecord = λ k. boundary_at c.args.job.now (c.args.at + k * boundary_size) in
    placed c.requires.0 (λ i. omega (arith, c.type_inv.job i)) c.read_keys.ensures c.lay_boundaries.ensures c.sort_parts.ensures
    (c.rank_records.ensures (λ k. (observation k).ends) (λ k. (observation k).bits) (λ k h r p. search rules))
    (c.rank_records-2.ensures (λ k. (boundary k).ends) (λ k. (boundary k).bits) (λ k h r p. search rules))
