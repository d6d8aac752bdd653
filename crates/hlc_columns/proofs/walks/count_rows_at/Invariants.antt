-- The rows so far are counted, and those of the remaining columns are left.
use Rattle.std.proofs.Common.{◌≡◌, ◌+◌, length, filter}
use Rattle.hlc_columns.specs.{Answers.entries_left, Table.indexed_rows, Table.table_rows}
use Rattle.hlc_columns.proofs.WalkLemmas.{within}
use Rattle.hlc_columns.proofs.walks.count_rows_at.Given as goal

abbrev pub invariant-loop-entry : goal.invariant-loop-entry
invariant-loop-entry l =
    l.total + length (filter (within l.bound) (table_rows (entries_left l.walk)))
    ≡ length (filter (within l.bound) (indexed_rows l.columns))

abbrev pub decreases-loop-entry : goal.decreases-loop-entry
decreases-loop-entry l = length (entries_left l.walk)
