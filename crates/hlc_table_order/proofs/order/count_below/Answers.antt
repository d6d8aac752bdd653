-- The stamps ascend along the index, so those below a stamp come first.
use Rattle.std.proofs.Common.{◌≡◌, ℕ, get_or, rules, arith, ltb, true, false}
use Rattle.std.proofs.lemmas.{Bool.Decides.nat_tests, List.Sorted.IsPartitionPoint-from_clause}
use Rattle.std.specs.List.Sorted.{IsPartitionPoint}
use Rattle.hlc_table_order.proofs.{PlaceLemmas.stamps_partitioned_below, order.count_below.Goals.After-partition_point}
use Rattle.hlc_table_order.proofs.order.count_below.Goals as goal

point : (c : After-partition_point) → IsPartitionPoint (λ p. ltb (get_or c.args.stamps.now p 0) c.args.stamp ≡ true)
    (λ p. ltb (get_or c.args.stamps.now p 0) c.args.stamp ≡ false) c.args.order.now c.partition_point.result
point c =
    IsPartitionPoint-from_clause (λ (p : ℕ). ltb (get_or c.args.stamps.now p 0) c.args.stamp) c.args.order.now
    c.partition_point.result c.partition_point.ensures.partitioned
    (stamps_partitioned_below c.args.stamps.now c.args.nodes.now c.args.order.now c.args.stamp c.requires)
    (λ a r q k. search rules)

pub returns-clause-below : goal.returns-clause-below
returns-clause-below c = λ i lt. let h = (point c).0 i 0 (omega arith) lt in grind (arith, nat_tests)

pub returns-clause-above : goal.returns-clause-above
returns-clause-above c = λ i le lt. let h = (point c).1 i 0 le lt in grind (arith, nat_tests)
