-- The stamps of the rows are the stored ones.
use Rattle.std.proofs.Common.{◌∙◌, ap, map}
use Rattle.hlc_table_column.{specs.Cells.Cell, proofs.Beside.stamps_of_cells}
use Rattle.hlc_table_column.proofs.lanes.Lanes.stamps.Goals as goal

pub returns : goal.returns
returns c = stamps_of_cells _ _ _ c.self.invariant.0 ∙ ap (map (λ (cell : Cell). cell.stamp)) c.self.view_is
