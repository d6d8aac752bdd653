-- The remaining range gets smaller.
use Rattle.std.proofs.Common.{◌-◌, ◌≤◌, length}
use Rattle.hlc_table_index.proofs.head.narrowed.Given as goal

abbrev pub invariant-loop-high : goal.invariant-loop-high
invariant-loop-high l = record {
  order : l.low ≤ l.high;
  inside : l.high ≤ length l.heads;
}

abbrev pub decreases-loop-high : goal.decreases-loop-high
decreases-loop-high l = l.high - l.low
