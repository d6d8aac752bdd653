-- The rows of the leaves so far are copied.
use Rattle.std.proofs.Common.{◌≡◌, take}
use Rattle.hlc_table_column.specs.Rows.{rows_in}
use Rattle.hlc_columns.specs.Table.{columns_in}
use Rattle.hlc_checkpoint.specs.Sorted.{rows_on}
use Rattle.hlc_checkpoint.proofs.sorted.copies_on.Given as goal

abbrev pub invariant-loop-leaf : goal.invariant-loop-leaf
invariant-loop-leaf l = l.copies.items ≡ rows_on l.side (rows_in (columns_in (take l.leaf-index l.leaves)))
