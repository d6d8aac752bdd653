-- Eight more are counted each time, and the rest at the end.
use Rattle.std.proofs.Common.{arith, leb}
use Rattle.hlc_lanes.proofs.Lanes.{count_block, count_whole, count_le}
use Rattle.hlc_lanes.proofs.count.count_at.Goals as goal

pub loop-at-preserved : goal.loop-at-preserved
loop-at-preserved c =
    let few = count_le (λ s. leb s c.args.bound) c.args.stamps.now c.loop-at.at c.count_in.result
    (omega (arith, c.loop-at-test.true, c.loop-at.invariant.inside)) c.count_in.ensures in
    record {
      counted = count_block (λ s. leb s c.args.bound) c.args.stamps.now c.loop-at.at c.loop-at.count c.count_in.result
          c.loop-at.invariant.counted c.count_in.ensures;
      at_most = omega (arith, few, c.loop-at.invariant.at_most);
      inside = omega (arith, c.loop-at-test.true, c.loop-at.invariant.inside);
    }

pub returns : goal.returns
returns c = count_whole (λ s. leb s c.args.bound) c.args.stamps.now c.loop-at.at c.loop-at.count c.count_rest.result
    c.loop-at.invariant.counted c.count_rest.ensures
