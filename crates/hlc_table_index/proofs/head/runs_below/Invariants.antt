-- No more runs were counted than were passed.
use Rattle.std.proofs.Common.{◌*◌, ◌-◌, ◌≤◌, length}
use Rattle.hlc_table_index.proofs.head.runs_below.Given as goal

abbrev pub invariant-loop-at : goal.invariant-loop-at
invariant-loop-at l = record {
  few : 16 * l.count ≤ l.at;
  inside : l.at ≤ length l.heads;
}

abbrev pub decreases-loop-at : goal.decreases-loop-at
decreases-loop-at l = length l.heads - l.at
