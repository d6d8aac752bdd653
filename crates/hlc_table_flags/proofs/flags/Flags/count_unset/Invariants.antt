-- How many of the first flags are not set.
use Rattle.std.proofs.Common.{◌≡◌, ◌≤◌, not, take, count_by}
use Rattle.hlc_table_flags.proofs.flags.Flags.count_unset.Given as goal

abbrev pub invariant-loop-at : goal.invariant-loop-at
invariant-loop-at l = record {
  few : l.count ≤ l.at;
  count : l.count ≡ count_by not (take l.at l.self);
}
