-- The pairs of the view's range are those of the snapshot.
use Rattle.hlc_range_calls.proofs.ScanLemmas.{scanned_at}
use Rattle.hlc_range_calls.proofs.scan.scan.Goals as goal

pub returns-in-Some : goal.returns-in-Some
returns-in-Some c = λ past h.
    let views = c.in-Some.ensures past h in
    scanned_at c.args.alone c.in-Some.view.rows _ _ c.in-Some.view.stamp c.args.from.now c.args.to.now _ c.range.result
    c.put_fitting.result c.put_fitting.new.len c.put_fitting.new.count c.args.out.now c.put_fitting.new.out views.0
    views.1 c.end.ensures c.range.ensures c.put_fitting.ensures
