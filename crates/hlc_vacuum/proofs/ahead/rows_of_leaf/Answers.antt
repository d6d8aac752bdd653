-- The first columns have no more rows than all have.
use Rattle.std.proofs.Common.{ap, arith, length}
use Rattle.hlc_vacuum.proofs.Pieces.{fetched_on, fetched_few}
use Rattle.hlc_vacuum.proofs.ahead.rows_of_leaf.Goals as goal

pub loop-place-preserved : goal.loop-place-preserved
loop-place-preserved c =
    let lt = c.loop-place-test.true in
    let long = c.len-place-end.ensures in
    let next = fetched_on c.args.leaf.now c.loop-place.place c.at.result c.at.ensures (omega (arith, lt, long)) in
    let few = c.loop-place.invariant in
    let one = c.fetched_len.ensures in
    let cells = ap length c.column-column.ensures in
    let sum = c.saturating_add-rows.ensures in
    omega (arith, next, few, one, cells, sum)

pub returns-else-sum : goal.returns-else-sum
returns-else-sum c =
    let few = c.loop-place.invariant in
    let all = fetched_few c.args.leaf.now c.loop-place.place in
    omega (arith, few, all)
