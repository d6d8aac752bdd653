-- The best so far is the newest of the rows so far.
use Rattle.hlc_table_column.specs.Versions.{IsNewestLeft}
use Rattle.hlc_table_column.proofs.versions.newest_left.Given as goal

abbrev pub invariant-loop-place : goal.invariant-loop-place
invariant-loop-place l = IsNewestLeft l.fn.from l.fn.to l.fn.last l.fn.lanes l.place l.best
