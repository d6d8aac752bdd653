-- The count is found at the first row above the bound, or at the end.
use Rattle.std.proofs.Common.{◌≤◌, ◌<◌, arith, length, subst}
use Rattle.hlc_table_order.proofs.PlaceLemmas.{point_after, within_more}
use Rattle.hlc_table_order.proofs.newest.count_from.Goals as goal

pub loop-count-preserved : goal.loop-count-preserved
loop-count-preserved c =
    within_more c.args.stamps.now c.args.order.now c.args.bound c.loop-count.count c.loop-count.invariant
    (subst (λ s. s ≤ c.args.bound) c.stamp_at.ensures c.if-stamp_at-bound.false)

pub returns-then-stamp_at-bound-clause-point : goal.returns-then-stamp_at-bound-clause-point
returns-then-stamp_at-bound-clause-point c =
    point_after c.args.stamps.now c.args.nodes.now c.args.order.now c.args.bound c.loop-count.count c.requires
    (let inside = c.loop-count-test.true in omega (arith, inside)) c.loop-count.invariant
    (λ inside. subst (λ s. c.args.bound < s) c.stamp_at.ensures c.if-stamp_at-bound.true)

pub returns-clause-point : goal.returns-clause-point
returns-clause-point c =
    point_after c.args.stamps.now c.args.nodes.now c.args.order.now c.args.bound (length c.args.order.now) c.requires
    (omega arith) (λ i lt. c.loop-count.invariant i (let past = c.loop-count-test.false in omega (arith, lt, past)))
    (λ inside. absurd (omega (arith, inside)))
