-- The lists are equally long, and the index is no longer than they.
use Rattle.std.proofs.Common.{ap, arith, length}
use Rattle.hlc_table_column.proofs.Beside.{length_cells}
use Rattle.hlc_table_column.proofs.lanes.Lanes.fetched_len.Goals as goal

pub returns : goal.returns
returns c =
    let cells = length_cells _ _ _ c.self.invariant.0 in
    let view = ap length c.self.view_is in
    let beside = c.self.invariant.0 in
    let indexed = c.self.invariant.1.0 in
    let least = c.min-beside.ensures in
    let less = c.min.ensures in
    let most = c.max.ensures in
    grind arith
