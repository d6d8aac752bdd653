-- One more is read, or none is.
use Rattle.hlc_body.specs.Reading.{times_at, row_at}
use Rattle.hlc_body.proofs.ListLemmas.{goes_on, ends, is_done}
use Rattle.hlc_body.proofs.reading.rows_at.Goals as goal

pub returns-in-Err : goal.returns-in-Err
returns-in-Err c =
    ends row_at c.in-Err.error c.loop.rows.items c.args.count c.loop.counter c.loop.rest.now
    (times_at row_at c.args.count c.args.bytes.now) c.loop-test.true c.in-Err.ensures c.loop.invariant

pub loop-preserved : goal.loop-preserved
loop-preserved c =
    rw c.in_ok-push-in-Ok.ensures.items
    (goes_on row_at c.loop.rows.items c.args.count c.loop.counter c.loop.rest.now _ _
    (times_at row_at c.args.count c.args.bytes.now) c.loop-test.true c.in-Ok.ensures c.loop.invariant)

pub returns : goal.returns
returns c =
    is_done row_at c.loop.rows.items c.args.count c.loop.counter c.loop.rest.now
    (times_at row_at c.args.count c.args.bytes.now) c.loop-test.false c.loop.invariant
