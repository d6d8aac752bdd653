-- The greatest lane is the greatest of the stamps before the position, where each above the bound counts as 0.
use Rattle.std.proofs.Common.{◌≡◌, ◌-◌, ◌≤◌, length, take, map}
use Rattle.hlc_lanes.specs.Greatest.{within, greatest}
use Rattle.hlc_lanes.proofs.newest.greatest_within.Given as goal

abbrev pub invariant-loop-at : goal.invariant-loop-at
invariant-loop-at l = record {
  lanes : length l.best ≡ 8;
  top : greatest l.best ≡ greatest (map (within l.bound) (take l.at l.stamps));
  inside : l.at ≤ length l.stamps;
}

abbrev pub decreases-loop-at : goal.decreases-loop-at
decreases-loop-at l = length l.stamps - l.at
