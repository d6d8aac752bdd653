-- The next column has no rows, or a key of the store.
use Rattle.std.proofs.Common.{subst, arith}
use Rattle.hlc_table_column.specs.Rows.{rows_in}
use Rattle.hlc_routing.specs.Placing.{ArePlaced}
use Rattle.hlc_routing.proofs.Placed.{placed-next, not-other, take-all}
use Rattle.hlc_routing.proofs.placing.other_in.Goals as goal

pub loop-place-preserved : goal.loop-place-preserved
loop-place-preserved c =
    placed-next c.args.division.now c.args.store c.args.leaf.now c.loop-place.place c.at.result c.at.ensures
    c.loop-place.invariant
    (not-other c.args.division.now c.args.store c.at.result c.is_other.result c.if-is_other.false c.is_other.ensures)

pub returns : goal.returns
returns c =
    subst (λ columns. ArePlaced c.args.division.now c.args.store (rows_in columns))
    (take-all c.args.leaf.now c.loop-place.place (omega arith)) c.loop-place.invariant
