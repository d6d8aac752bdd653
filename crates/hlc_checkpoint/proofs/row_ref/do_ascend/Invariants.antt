-- Each of the rows so far is below the next.
use Rattle.std.proofs.Common.{◌≡◌, ℕ, ◌<◌, ◌+◌, get_or, Less}
use Rattle.hlc_rows.specs.declared.row.Row.{Row}
use Rattle.hlc_witness.specs.Certificate.{row_cmp}
use Rattle.hlc_checkpoint.proofs.row_ref.do_ascend.Given as goal

abbrev pub invariant-loop-i : goal.invariant-loop-i
invariant-loop-i l = (k : ℕ) (d : Row) → k + 1 < l.i → row_cmp (get_or l.rows k d) (get_or l.rows (k + 1) d) ≡ Less
