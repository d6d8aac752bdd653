-- The table is a row set, and so are its rows above the bound.
use Rattle.std.proofs.Common.{ltb, ap, ◌∙◌, ◌≡◌}
use Rattle.hlc_rows.specs.declared.row.Row.{Row}
use Rattle.hlc_table_column.specs.Rows.{rows_in}
use Rattle.hlc_columns.specs.Table.{columns_in}
use Rattle.hlc_table_column.proofs.FlagLemmas.{filter-IsRowSet}
use Rattle.hlc_checkpoint.proofs.sorted.sorted_rows_above.Goals as goal

pub sort-requires : goal.sort-requires
sort-requires c =
    let same : rows_in (columns_in c.as_slice.result.now) ≡ c.args.table.now =
    ap (λ leaves. rows_in (columns_in leaves)) c.as_slice.ensures.value ∙ c.in_ok-leaves.ensures.rows in
    rw (c.in_ok-listed.ensures, same)
    (filter-IsRowSet (λ (row : Row). ltb c.args.bound row.stamp) c.args.table.now c.in_ok-leaves.ensures.row_set)
