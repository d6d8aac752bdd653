-- The best is the greatest of the stamps so far, where each above the bound counts as 0.
use Rattle.std.proofs.Common.{◌≡◌, take, map}
use Rattle.hlc_lanes.specs.Greatest.{within, greatest}
use Rattle.hlc_lanes.proofs.newest.greatest_rest.Given as goal

abbrev pub invariant-loop-stamp : goal.invariant-loop-stamp
invariant-loop-stamp l = l.best ≡ greatest (map (within l.bound) (take l.stamp-index l.rest))
