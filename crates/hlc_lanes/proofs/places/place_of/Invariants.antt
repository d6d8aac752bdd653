-- No position so far has the stamp and the node.
use Rattle.std.proofs.Common.{◌-◌, ◌≤◌, length}
use Rattle.hlc_lanes.specs.Places.{IsNowhere}
use Rattle.hlc_lanes.proofs.places.place_of.Given as goal

abbrev pub invariant-loop-at : goal.invariant-loop-at
invariant-loop-at l = record {
  nowhere : IsNowhere l.stamps l.nodes l.stamp l.node 0 l.at;
  inside : l.at ≤ length l.stamps;
}

abbrev pub decreases-loop-at : goal.decreases-loop-at
decreases-loop-at l = length l.stamps - l.at
