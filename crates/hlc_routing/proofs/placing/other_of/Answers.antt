-- The next leaf has no column of another store's key.
use Rattle.std.proofs.Common.{subst, arith}
use Rattle.hlc_table_column.specs.Rows.{rows_in}
use Rattle.hlc_columns.specs.Table.{columns_in}
use Rattle.hlc_routing.{specs.Placing.ArePlaced, proofs.Placed.leaf-next, proofs.Placed.take-all}
use Rattle.hlc_routing.proofs.placing.other_of.Goals as goal

pub loop-at-preserved : goal.loop-at-preserved
loop-at-preserved c =
    leaf-next c.args.division.now c.args.store c.args.leaves.now c.loop-at.at c.at.result.now c.at.ensures.leaf
    c.loop-at.invariant c.in-None.ensures

pub returns : goal.returns
returns c =
    subst (λ leaves. ArePlaced c.args.division.now c.args.store (rows_in (columns_in leaves)))
    (take-all c.args.leaves.now c.loop-at.at (omega arith)) c.loop-at.invariant
