-- One more position: it has the stamp or it does not.
use Rattle.std.proofs.Common.{◌∙◌}
use Rattle.hlc_lanes.proofs.GreaterNode.{node_yes, node_no}
use Rattle.hlc_lanes.proofs.nodes.greatest_node_in.Goals as goal
use Rattle.hlc_lanes.proofs.nodes.greatest_node_in.Goals.{then-stamps-i, else-stamps-i}

pub loop-i-preserved : goal.loop-i-preserved
loop-i-preserved c =
    elim c.if-stamps-i.branch [
      | then-stamps-i w ↦ node_yes c.args.stamps.now c.args.nodes.now c.args.stamp c.loop-i.i c.loop-i.best
          c.if-stamps-i.best c.loop-i.invariant w.if-stamps-i.true (w.best-is ∙ w.greater_node-best.ensures)
      | else-stamps-i w ↦ node_no c.args.stamps.now c.args.nodes.now c.args.stamp c.loop-i.i c.loop-i.best
          c.if-stamps-i.best c.loop-i.invariant w.if-stamps-i.false w.best-is
    ]
