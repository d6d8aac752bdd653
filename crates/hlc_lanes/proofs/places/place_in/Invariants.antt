-- No position of the range so far has the stamp and the node.
use Rattle.hlc_lanes.specs.Places.{IsNowhere}
use Rattle.hlc_lanes.proofs.places.place_in.Given as goal

abbrev pub invariant-loop-i : goal.invariant-loop-i
invariant-loop-i l = IsNowhere l.stamps l.nodes l.stamp l.node l.from l.i
