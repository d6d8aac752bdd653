-- No floor that was looked at is below the least so far, which is one of them.
use Rattle.hlc_routing.proofs.Floors.{IsLeastTo}
use Rattle.hlc_routing.proofs.ranges.Ranges.cut.Given as goal

abbrev pub invariant-loop-index : goal.invariant-loop-index
invariant-loop-index l = IsLeastTo l.self l.index l.least
