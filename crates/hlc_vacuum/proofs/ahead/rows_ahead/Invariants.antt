-- No more rows were counted than the earlier columns have.
use Rattle.std.proofs.Common.{◌≤◌, length, take}
use Rattle.hlc_table_column.specs.Rows.{rows_in}
use Rattle.hlc_vacuum.proofs.ahead.rows_ahead.Given as goal

abbrev pub invariant-loop-i : goal.invariant-loop-i
invariant-loop-i l = l.rows ≤ length (rows_in (take l.i l.columns))
