-- The row that a new one becomes.
use Rattle.hlc_rows.specs.declared.row.Row.{Row}
use Rattle.hlc_columns.specs.declared.putting.NewRow.{NewRow}

abbrev pub new_row : NewRow → Row
new_row row = record { key = row.key.now; stamp = row.stamp; node = row.node; value = row.value }
