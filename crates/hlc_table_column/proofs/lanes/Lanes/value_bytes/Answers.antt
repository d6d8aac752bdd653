-- The values of the rows are the stored ones.
use Rattle.std.proofs.Common.{◌∙◌, ap, sum_by}
use Rattle.hlc_table_column.{specs.Cells.cell_bytes, proofs.Beside.cells_values}
use Rattle.hlc_table_column.proofs.lanes.Lanes.value_bytes.Goals as goal

pub returns : goal.returns
returns c =
    let i = c.self.inside in
    c.bytes_in.ensures ∙ cells_values i.stamps.now i.nodes.now i.values.now c.self.invariant.0
    ∙ ap (sum_by cell_bytes) c.self.view_is
