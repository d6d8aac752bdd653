-- Each column is written after those before it.
use Rattle.std.proofs.Common.{arith}
use Rattle.hlc_saved.proofs.StorePieces.{column_on, columns_all, writable_at}
use Rattle.hlc_saved.proofs.leaf.append_leaf.Goals as goal

pub append_column-requires : goal.append_column-requires
append_column-requires c = writable_at c.args.leaf.now c.loop-place.place c.at.result c.at.ensures c.requires

pub loop-place-preserved : goal.loop-place-preserved
loop-place-preserved c =
    column_on c.args.leaf.now c.loop-place.place c.at.result c.args.out.now.items c.loop-place.out.items
    c.append_column.new.out.items c.at.ensures c.loop-place.invariant c.in_ok-append_column.ensures.ok

pub returns-clause-ok : goal.returns-clause-ok
returns-clause-ok c =
    let past = c.loop-place-test.false in
    let long = c.len-place-end.ensures in
    columns_all c.args.leaf.now c.loop-place.place c.args.out.now.items c.loop-place.out.items
    (λ lt. omega (arith, past, long, lt)) c.loop-place.invariant
