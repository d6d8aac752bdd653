-- A list with a bad claim is bad after those before it; where no list has one, all claims are good.
use Rattle.std.proofs.Common.{arith, sym, ◌∙◌}
use Rattle.hlc_server.proofs.Settlings.{list_good, list_bad}
use Rattle.hlc_server.proofs.settle.first_bad.Goals as goal

pub overflow_add-result : goal.overflow_add-result
overflow_add-result g c =
    let bad = list_bad c.args.trail.now c.args.lists.now c.loop-list.list-index c.list-item.result
    c.number.result c.as_slice.result.now c.loop-list.last c.loop-list.count c.in-Err.i c.loop-list-test.true
    c.list-item.is c.number.ensures c.as_slice.ensures.value c.loop-list.invariant.0 c.loop-list.invariant.1
    c.loop-list.invariant.2 c.in-Err.ensures.bad in
    record { fits = omega (arith, bad.1, c.requires, c.ranges.entries.fits) }

pub returns-in-Err-clause-bad : goal.returns-in-Err-clause-bad
returns-in-Err-clause-bad g c =
    (list_bad c.args.trail.now c.args.lists.now c.loop-list.list-index c.list-item.result c.number.result
    c.as_slice.result.now c.loop-list.last c.loop-list.count c.in-Err.i c.loop-list-test.true c.list-item.is
    c.number.ensures c.as_slice.ensures.value c.loop-list.invariant.0 c.loop-list.invariant.1 c.loop-list.invariant.2
    c.in-Err.ensures.bad).0

pub overflow_add-count : goal.overflow_add-count
overflow_add-count g c =
    let good = list_good c.args.trail.now c.args.lists.now c.loop-list.list-index c.list-item.result
    c.number.result c.as_slice.result.now c.loop-list.last c.in-Ok.key c.loop-list.count c.len.result
    c.loop-list-test.true c.list-item.is c.number.ensures c.as_slice.ensures.value c.loop-list.invariant.0
    c.loop-list.invariant.1 c.loop-list.invariant.2 c.in-Ok.ensures.good.0 c.in-Ok.ensures.good.1
    (c.len.ensures ∙ sym c.as_slice.ensures.len) in
    record { fits = omega (arith, good.1, c.requires, c.ranges.entries.fits) }

pub loop-list-preserved : goal.loop-list-preserved
loop-list-preserved g c = (list_good c.args.trail.now c.args.lists.now c.loop-list.list-index c.list-item.result
    c.number.result c.as_slice.result.now c.loop-list.last c.in-Ok.key c.loop-list.count c.len.result
    c.loop-list-test.true c.list-item.is c.number.ensures c.as_slice.ensures.value c.loop-list.invariant.0
    c.loop-list.invariant.1 c.loop-list.invariant.2 c.in-Ok.ensures.good.0 c.in-Ok.ensures.good.1
    (c.len.ensures ∙ sym c.as_slice.ensures.len)).0
