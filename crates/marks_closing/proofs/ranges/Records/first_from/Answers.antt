use mathlib.Core.Path.{◌≡◌}
use Rattle.std.proofs.Common.{rules, ltb}
use Rattle.std.proofs.lemmas.List.Sorted.{IsPartitionPoint-from_clause}
use Rattle.marks_closing.proofs.Runs.{owners-parted, owners_split}
use Rattle.marks_closing.proofs.ranges.Records.first_from.Goals as goal

pub returns : goal.returns
returns c =
    let part = owners-parted _ _ _ c.args.b c.requires.0 c.requires.1 c.requires.2 in
    let point = c.partition_point.ensures in
    owners_split _ _ _ _ c.requires.0 c.requires.1 _ point.bound
    (IsPartitionPoint-from_clause (λ y. ltb y c.args.b) _ _ point.partitioned part (λ a r f' k. search rules))
