-- The best is the greatest of the values so far.
use Rattle.std.proofs.Common.{◌≡◌, take}
use Rattle.hlc_lanes.specs.Greatest.{greatest}
use Rattle.hlc_lanes.proofs.newest.greatest_of.Given as goal

abbrev pub invariant-loop-value : goal.invariant-loop-value
invariant-loop-value l = l.best ≡ greatest (take l.value-index l.values)
