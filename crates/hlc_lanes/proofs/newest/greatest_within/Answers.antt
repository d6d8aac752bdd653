-- Eight more each time, and the rest at the end.
use Rattle.std.proofs.Common.{arith, ap, ◌∙◌}
use Rattle.hlc_lanes.specs.Greatest.{within, greatest}
use Rattle.hlc_lanes.proofs.Lanes.{greatest_block, greatest_whole}
use Rattle.hlc_lanes.proofs.newest.greatest_within.Goals as goal

pub loop-at-preserved : goal.loop-at-preserved
loop-at-preserved c = record {
  lanes = c.greater-best.ensures.long;
  top = greatest_block (within c.args.bound) c.args.stamps.now c.loop-at.at (greatest c.loop-at.best)
      (greatest c.within_in.result) (greatest c.greater-best.result) c.greater-best.ensures.top c.loop-at.invariant.top
      (ap greatest c.within_in.ensures);
  inside = omega (arith, c.loop-at-test.true, c.loop-at.invariant.inside);
}

pub returns : goal.returns
returns c = c.max.ensures ∙ greatest_whole (within c.args.bound) c.args.stamps.now c.loop-at.at c.top_lane.result
    c.greatest_rest.result (c.top_lane.ensures ∙ c.loop-at.invariant.top) c.greatest_rest.ensures
