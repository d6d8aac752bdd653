-- Each store so far has its checkpoint.
use Rattle.std.proofs.Common.{◌≤◌, length, vec_capacity}
use Rattle.hlc_routing.proofs.Copying.{AreCopied}
use Rattle.hlc_routing.proofs.ranges.Ranges.checkpoints.Given as goal

abbrev pub invariant-loop-core : goal.invariant-loop-core
invariant-loop-core l = record {
  room : length l.self.stores ≤ vec_capacity l.made;
  copied : AreCopied l.self.stores l.made.items l.core-index;
}
