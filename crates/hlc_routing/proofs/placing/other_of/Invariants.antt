-- The leaves so far have keys of the store.
use Rattle.std.proofs.Common.{take}
use Rattle.hlc_table_column.specs.Rows.{rows_in}
use Rattle.hlc_columns.specs.Table.{columns_in}
use Rattle.hlc_routing.specs.Placing.{ArePlaced}
use Rattle.hlc_routing.proofs.placing.other_of.Given as goal

abbrev pub invariant-loop-at : goal.invariant-loop-at
invariant-loop-at l = ArePlaced l.division l.store (rows_in (columns_in (take l.at l.leaves)))
