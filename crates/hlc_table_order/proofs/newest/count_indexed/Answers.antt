-- The rows at or below the bound are at the front of the index.
use Rattle.std.proofs.Common.{◌≡◌, ℕ, get_or, rules, leb, true, false, length, arith}
use Rattle.std.{specs.List.Sorted.IsPartitionPoint, proofs.lemmas.List.Sorted.IsPartitionPoint-from_clause}
use Rattle.hlc_table_order.proofs.{PlaceLemmas.stamps_partitioned, PlaceLemmas.all_indexed, CountLemmas.index_counted}
use Rattle.hlc_table_order.proofs.newest.count_indexed.Goals as goal

pub returns-then-is_last_within : goal.returns-then-is_last_within
returns-then-is_last_within c =
    let point = all_indexed c.args.stamps.now c.args.nodes.now c.args.order.now c.args.bound c.requires
    (c.is_last_within.ensures c.if-is_last_within.true) in record {
      point = point;
      few = omega arith;
      count = index_counted c.args.stamps.now c.args.nodes.now c.args.order.now c.args.bound (length c.args.order.now)
          c.requires (omega arith) point;
    }

pub returns : goal.returns
returns c =
    let at = λ (p : ℕ). leb (get_or c.args.stamps.now p 0) c.args.bound in
    let point : IsPartitionPoint (λ p. leb (get_or c.args.stamps.now p 0) c.args.bound ≡ true)
    (λ p. leb (get_or c.args.stamps.now p 0) c.args.bound ≡ false) c.args.order.now c.partition_point.result =
    IsPartitionPoint-from_clause at c.args.order.now c.partition_point.result c.partition_point.ensures.partitioned
    (stamps_partitioned c.args.stamps.now c.args.nodes.now c.args.order.now c.args.bound c.requires)
    (λ a r q k. search rules) in record {
      point = point;
      few = c.partition_point.ensures.bound;
      count = index_counted c.args.stamps.now c.args.nodes.now c.args.order.now c.args.bound c.partition_point.result
          c.requires c.partition_point.ensures.bound point;
    }
