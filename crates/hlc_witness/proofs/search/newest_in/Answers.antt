-- The search ends after the last row that does not come after the key and the stamp.
use Rattle.std.proofs.Common.{rules, arith, sym, ◌∙◌, true≢false}
use Rattle.std.proofs.lemmas.{Slice.Eq.bytes_eq-Decides, List.Sorted.IsPartitionPoint-from_clause}
use Rattle.hlc_witness.specs.Reached.{is_reached}
use Rattle.hlc_witness.proofs.LastReached.{partitioned, none_at_start, last_newest, last_other}
use Rattle.hlc_witness.proofs.search.newest_in.Goals as goal

pub returns-then-end-eq0 : goal.returns-then-end-eq0
returns-then-end-eq0 c =
    let parted = IsPartitionPoint-from_clause
    (is_reached c.args.key.now c.args.bound) _ _ c.partition_point-end.ensures.partitioned
    (partitioned c.args.rows.now c.args.key.now c.args.bound c.requires) (λ a r q k. search rules) in
    none_at_start c.args.rows.now c.args.key.now c.args.bound c.partition_point-end.result c.requires parted
    c.if-end-eq0.true

pub returns-then-eq : goal.returns-then-eq
returns-then-eq c =
    let parted = IsPartitionPoint-from_clause
    (is_reached c.args.key.now c.args.bound) _ _ c.partition_point-end.ensures.partitioned
    (partitioned c.args.rows.now c.args.key.now c.args.bound c.requires) (λ a r q k. search rules) in
    last_newest c.args.rows.now c.args.key.now c.args.bound c.partition_point-end.result
    c.requires parted c.index-rows-end.result (omega arith)
    (omega (arith, c.partition_point-end.ensures.bound)) c.index-rows-end.is
    ((bytes_eq-Decides c.index-rows-end.result.key c.args.key.now).0 (sym c.if-eq.ensures))

pub returns-else-eq : goal.returns-else-eq
returns-else-eq c =
    let parted = IsPartitionPoint-from_clause
    (is_reached c.args.key.now c.args.bound) _ _ c.partition_point-end.ensures.partitioned
    (partitioned c.args.rows.now c.args.key.now c.args.bound c.requires) (λ a r q k. search rules) in
    last_other c.args.rows.now c.args.key.now c.args.bound c.partition_point-end.result c.requires
    parted c.index-rows-end.result (omega arith) (omega (arith, c.partition_point-end.ensures.bound))
    c.index-rows-end.is (λ same. true≢false
    (sym ((bytes_eq-Decides c.index-rows-end.result.key c.args.key.now).1 same) ∙ sym c.if-eq.ensures))
