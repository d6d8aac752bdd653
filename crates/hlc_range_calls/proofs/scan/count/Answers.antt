-- The pairs of the view's range are those of the snapshot.
use Rattle.hlc_range_calls.proofs.ScanLemmas.{counted_at}
use Rattle.hlc_range_calls.proofs.scan.count.Goals as goal

pub returns : goal.returns
returns c = λ past h.
    let views = c.in-Some.ensures past h in
    counted_at c.in-Some.view.rows _ _ c.in-Some.view.stamp c.args.from.now c.args.to.now _ c.range.result
    c.number_of.result views.0 views.1 c.end.ensures c.range.ensures c.number_of.ensures
