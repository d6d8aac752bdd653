-- No more rows were counted than the earlier columns have.
use Rattle.std.proofs.Common.{◌≤◌, length, take}
use Rattle.hlc_table_column.specs.Rows.{rows_in}
use Rattle.hlc_vacuum.proofs.ahead.rows_of_leaf.Given as goal

abbrev pub invariant-loop-place : goal.invariant-loop-place
invariant-loop-place l = l.rows ≤ length (rows_in (take l.place l.leaf))
