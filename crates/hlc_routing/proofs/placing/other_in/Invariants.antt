-- The columns so far have keys of the store.
use Rattle.std.proofs.Common.{take}
use Rattle.hlc_table_column.specs.Rows.{rows_in}
use Rattle.hlc_routing.specs.Placing.{ArePlaced}
use Rattle.hlc_routing.proofs.placing.other_in.Given as goal

abbrev pub invariant-loop-place : goal.invariant-loop-place
invariant-loop-place l = ArePlaced l.division l.store (rows_in (take l.place l.leaf))
