-- The table has the rows so far, and the others come after them.
use Rattle.std.{proofs.Common.◌≡◌, proofs.Common.◌++◌, proofs.Common.IsPermutation, specs.Vec.Iter.into_iter_items}
use Rattle.hlc_checkpoint.proofs.restoring.table_of_moved.Given as goal

abbrev pub invariant-loop-row : goal.invariant-loop-row
invariant-loop-row l = (l.yielded ++ into_iter_items l.row-iterator ≡ l.fn.rows.items) × IsPermutation l.yielded l.table
