-- The ids ascend, so the lower ones come first.
use Rattle.std.proofs.Common.{rules, ltb}
use Rattle.std.proofs.lemmas.List.Sorted.{IsPartitionPoint-from_clause, IsPartitionedBy-ltb}
use Rattle.hlc_snapshot.{specs.declared.snapshot.Snapshot.Snapshot, proofs.Found.ids-non_decreasing}
use Rattle.hlc_snapshot.proofs.registry.count_below.Goals as goal

pub returns : goal.returns
returns c =
    IsPartitionPoint-from_clause (λ (snapshot : Snapshot). ltb snapshot.id c.args.id) c.args.snapshots.now
    c.partition_point.result c.partition_point.ensures.partitioned
    (IsPartitionedBy-ltb (λ (snapshot : Snapshot). snapshot.id) c.args.snapshots.now c.args.id
    (ids-non_decreasing c.args.snapshots.now c.requires))
    (λ a r q k. search rules)
