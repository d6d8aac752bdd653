-- There is a row for each stamp.
use Rattle.std.proofs.Common.{length, sym, ap, ◌∙◌}
use Rattle.hlc_table_column.{specs.Cells.CellsWithRoom, proofs.Beside.length_cells}
use Rattle.hlc_table_column.proofs.lists.Lists.len.Goals as goal

pub returns : goal.returns
returns g c = c.len.ensures.value ∙ sym (length_cells _ _ _ c.self.invariant.0)
    ∙ ap (λ (l : CellsWithRoom). length l.cells) c.self.view_is
