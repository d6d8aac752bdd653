-- The list with the least room says whether one more row fits.
use Rattle.std.proofs.Common.{◌∙◌, ap, ap₂, nat_lt, min}
use Rattle.hlc_table_column.specs.Cells.{CellsWithRoom}
use Rattle.hlc_table_column.proofs.lists.Lists.has_room.Goals as goal

pub returns : goal.returns
returns g c =
    ap₂ nat_lt c.len.ensures
    (c.min.ensures ∙ ap₂ min c.capacity-3.ensures.value
    (c.min-nodes_or_values.ensures ∙ ap₂ min c.capacity.ensures.value c.capacity-2.ensures.value)
    ∙ ap (λ (l : CellsWithRoom). l.room) c.self.view_is)
