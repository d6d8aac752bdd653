-- The rows at the positions so far are copied.
use Rattle.std.proofs.Common.{◌≡◌, ◌++◌, take}
use Rattle.hlc_table_column.specs.Rows.{rows_of}
use Rattle.hlc_checkpoint.specs.Sorted.{rows_on}
use Rattle.hlc_checkpoint.proofs.sorted.copy_column.Given as goal

abbrev pub invariant-loop-place : goal.invariant-loop-place
invariant-loop-place l =
    l.copies.items ≡ l.fn.copies.items ++ rows_on l.side (take l.place (rows_of l.key l.column))
