-- The best is the greatest node with the stamp at the positions so far.
use Rattle.std.proofs.Common.{◌-◌, ◌≤◌, length}
use Rattle.hlc_lanes.specs.Places.{IsGreatestNodeBelow}
use Rattle.hlc_lanes.proofs.nodes.greatest_node.Given as goal

abbrev pub invariant-loop-at : goal.invariant-loop-at
invariant-loop-at l = record {
  so_far : IsGreatestNodeBelow l.stamps l.nodes l.stamp l.at l.best;
  inside : l.at ≤ length l.stamps;
}

abbrev pub decreases-loop-at : goal.decreases-loop-at
decreases-loop-at l = length l.stamps - l.at
