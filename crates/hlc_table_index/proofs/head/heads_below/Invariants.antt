-- No more were counted than were passed.
use Rattle.std.proofs.Common.{◌≤◌}
use Rattle.hlc_table_index.proofs.head.heads_below.Given as goal

abbrev pub invariant-loop-i : goal.invariant-loop-i
invariant-loop-i l = l.count ≤ l.i
