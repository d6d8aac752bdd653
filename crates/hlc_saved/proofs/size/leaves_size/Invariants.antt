-- The size of those so far.
use Rattle.std.proofs.Common.{take}
use Rattle.hlc_table_column.specs.Rows.{rows_in}
use Rattle.hlc_columns.specs.Table.{columns_in}
use Rattle.hlc_body.specs.Spelling.{AreOfSize}
use Rattle.hlc_saved.proofs.size.leaves_size.Given as goal

abbrev pub invariant-loop-place : goal.invariant-loop-place
invariant-loop-place l = AreOfSize (rows_in (columns_in (take l.place l.leaves))) l.size
