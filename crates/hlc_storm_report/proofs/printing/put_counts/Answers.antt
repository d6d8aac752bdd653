-- The line of one more node is printed.
use Rattle.hlc_storm_report.proofs.Counts.{counted_more}
use Rattle.hlc_storm_report.proofs.printing.put_counts.Goals as goal

pub loop-node-preserved : goal.loop-node-preserved
loop-node-preserved g c =
    counted_more c.args.counts.now c.loop-node.node 0 c.loop-node-test.true c.loop-node.invariant c.put_count.ensures
