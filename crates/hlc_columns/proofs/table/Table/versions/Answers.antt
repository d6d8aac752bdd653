-- The rows of the key are those of its column.
use Rattle.std.proofs.Common.{◌≡◌, subst, sym}
use Rattle.hlc_table_column.specs.{Rows.rows_of, Rows.rows_with, Versions.AreVersions}
use Rattle.hlc_columns.specs.Table.{cells_in}
use Rattle.hlc_table_column.proofs.KeyLemmas.{column_apart, versions_are}
use Rattle.hlc_columns.proofs.{FoundLemmas.rows_found, table.Table.versions.Goals.After-column}
use Rattle.hlc_columns.proofs.table.Table.versions.Goals as goal

rows_are : (c : After-column) → rows_of c.args.key.now (cells_in c.column.result)
    ≡ rows_with c.args.key.now c.args.self.now
rows_are c = rows_found c.column.result c.args.key.now c.args.self.now c.column.ensures.rows c.column.ensures.absent

pub versions_of-requires : goal.versions_of-requires
versions_of-requires c =
    column_apart c.args.key.now c.args.self.now (cells_in c.column.result) c.column.ensures.row_set
    (rows_are c)

pub returns : goal.returns
returns c =
    subst (AreVersions c.args.self.now c.args.key.now c.args.from c.args.to) (sym c.versions_of.ensures)
    (versions_are c.args.self.now c.args.key.now c.args.from c.args.to (cells_in c.column.result)
    c.column.ensures.row_set (rows_are (goal.at.returns c).After-column))
