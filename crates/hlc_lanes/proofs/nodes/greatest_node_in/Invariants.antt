-- The best is the greatest node with the stamp at the positions so far.
use Rattle.hlc_lanes.specs.Places.{IsGreatestNodeBelow}
use Rattle.hlc_lanes.proofs.nodes.greatest_node_in.Given as goal

abbrev pub invariant-loop-i : goal.invariant-loop-i
invariant-loop-i l = IsGreatestNodeBelow l.stamps l.nodes l.stamp l.i l.best
