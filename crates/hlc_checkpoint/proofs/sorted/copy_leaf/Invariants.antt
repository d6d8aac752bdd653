-- The rows of the columns so far are copied.
use Rattle.std.proofs.Common.{◌≡◌, ◌++◌, take}
use Rattle.hlc_table_column.specs.Rows.{rows_in}
use Rattle.hlc_checkpoint.specs.Sorted.{rows_on}
use Rattle.hlc_checkpoint.proofs.sorted.copy_leaf.Given as goal

abbrev pub invariant-loop-place : goal.invariant-loop-place
invariant-loop-place l = l.copies.items ≡ l.fn.copies.items ++ rows_on l.side (rows_in (take l.place l.leaf))
