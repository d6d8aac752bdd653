-- The size of those so far, which fit.
use Rattle.std.proofs.Common.{◌≡◌, ℕ, ◌<◌, length, take, get_or, flat_map}
use Rattle.hlc_rows.specs.declared.row.Row.{Row}
use Rattle.hlc_body.specs.Spelling.{row_bytes, RowFits}
use Rattle.hlc_saved.proofs.size.rows_size.Given as goal

abbrev pub invariant-loop-row : goal.invariant-loop-row
invariant-loop-row l = record {
  size : l.size ≡ length (flat_map row_bytes (take l.row-index l.rows));
  small : l.size < 18446744073709551616;
  fits : (k : ℕ) (d : Row) → k < l.row-index → RowFits (get_or l.rows k d);
}
