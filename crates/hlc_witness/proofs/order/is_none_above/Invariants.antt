-- What is known of the rows that were checked.
use Rattle.std.proofs.Common.{ℕ, ◌<◌, ◌≤◌, get_or}
use Rattle.hlc_rows.specs.declared.row.Row.{Row}
use Rattle.hlc_witness.proofs.order.is_none_above.Given as goal

-- none of the rows so far is above the last point
abbrev pub invariant-loop-row : goal.invariant-loop-row
invariant-loop-row l = (k : ℕ) (d : Row) → k < l.row-index → (get_or l.rows k d).stamp ≤ l.last
