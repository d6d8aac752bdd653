-- Each of the keys so far is not below it.
use Rattle.std.proofs.Common.{◌≡◌, ℕ, ◌<◌, get_or, true}
use Rattle.hlc_rows.specs.declared.row.Row.{Row}
use Rattle.hlc_split.specs.Split.{is_from}
use Rattle.hlc_split.proofs.joining.are_from.Given as goal

abbrev pub invariant-loop-row : goal.invariant-loop-row
invariant-loop-row l = (k : ℕ) (d : Row) → k < l.row-index → is_from l.bound (get_or l.rows k d).key ≡ true
