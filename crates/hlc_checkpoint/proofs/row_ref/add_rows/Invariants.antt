-- The rows at the positions so far were added.
use Rattle.std.proofs.Common.{◌≡◌, ◌++◌, take}
use Rattle.hlc_table_column.specs.Rows.{rows_of}
use Rattle.hlc_checkpoint.proofs.row_ref.add_rows.Given as goal

abbrev pub invariant-loop-place : goal.invariant-loop-place
invariant-loop-place l = l.rows.items ≡ l.fn.rows.items ++ take l.place (rows_of l.key l.column)
