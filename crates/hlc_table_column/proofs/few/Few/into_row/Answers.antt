-- The row at the first position is the only one.
use Rattle.hlc_table_column.proofs.Moved.{only_row}
use Rattle.hlc_table_column.proofs.few.Few.into_row.Goals as goal

pub returns : goal.returns
returns g c = only_row c.args.self c.take_row.result c.requires c.take_row.ensures.row
