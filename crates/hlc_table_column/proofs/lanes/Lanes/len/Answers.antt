-- There is a row for each stamp.
use Rattle.std.proofs.Common.{length, sym, ap, ◌∙◌}
use Rattle.hlc_table_column.proofs.Beside.{length_cells}
use Rattle.hlc_table_column.proofs.lanes.Lanes.len.Goals as goal

pub returns : goal.returns
returns c = sym (length_cells _ _ _ c.self.invariant.0) ∙ ap length c.self.view_is
