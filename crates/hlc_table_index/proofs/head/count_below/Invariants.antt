-- First no head at or after the position is below, and then none before it is skipped.
use Rattle.std.proofs.Common.{◌-◌, ◌≤◌, ◌<◌, length, slice_index}
use Rattle.hlc_table_index.proofs.head.count_below.Given as goal

abbrev pub invariant-loop-place : goal.invariant-loop-place
invariant-loop-place l = l.place ≤ length l.heads

abbrev pub decreases-loop-place : goal.decreases-loop-place
decreases-loop-place l = l.place

abbrev pub invariant-loop-place-2 : goal.invariant-loop-place-2
invariant-loop-place-2 l = record {
  inside : l.place ≤ length l.heads;
  below : 0 < l.place → slice_index l.heads (l.place - 1) < l.head;
}

abbrev pub decreases-loop-place-2 : goal.decreases-loop-place-2
decreases-loop-place-2 l = length l.heads - l.place
