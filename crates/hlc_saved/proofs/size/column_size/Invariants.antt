-- The size of those so far.
use Rattle.std.proofs.Common.{take}
use Rattle.hlc_table_column.specs.Rows.{rows_of}
use Rattle.hlc_body.specs.Spelling.{AreOfSize}
use Rattle.hlc_saved.proofs.size.column_size.Given as goal

abbrev pub invariant-loop-place : goal.invariant-loop-place
invariant-loop-place l = AreOfSize (take l.place (rows_of l.key l.column)) l.size
