-- The leaves that begin at or below the key are before the remaining part, and the others are after it.
use Rattle.std.proofs.Common.{◌-◌, ◌≤◌, length}
use Rattle.hlc_table_index.specs.Entries.{first_keys, IsUptoAt, IsAboveAt}
use Rattle.hlc_table_index.proofs.leaves.Leaves.count_from.Given as goal

abbrev pub invariant-loop-low : goal.invariant-loop-low
invariant-loop-low g l = record {
  order : l.low ≤ l.high;
  inside : l.high ≤ length l.self;
  upto : IsUptoAt (first_keys l.self) l.low l.key;
  above : IsAboveAt (first_keys l.self) l.high l.key;
}

abbrev pub decreases-loop-low : goal.decreases-loop-low
decreases-loop-low g l = l.high - l.low
