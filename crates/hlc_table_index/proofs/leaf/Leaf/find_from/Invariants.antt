-- The keys below are before the remaining part, and those above are after it.
use Rattle.std.proofs.Common.{◌-◌, ◌≤◌, length}
use Rattle.hlc_table_index.specs.Entries.{keys_in, IsBelowAt, IsAboveAt}
use Rattle.hlc_table_index.proofs.leaf.Leaf.find_from.Given as goal

abbrev pub invariant-loop-low : goal.invariant-loop-low
invariant-loop-low g l = record {
  order : l.low ≤ l.high;
  inside : l.high ≤ length l.self;
  below : IsBelowAt (keys_in l.self) l.low l.key;
  above : IsAboveAt (keys_in l.self) l.high l.key;
}

abbrev pub decreases-loop-low : goal.decreases-loop-low
decreases-loop-low g l = l.high - l.low
