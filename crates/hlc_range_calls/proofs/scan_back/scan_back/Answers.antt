-- The pairs of the view's range are those of the snapshot.
use Rattle.hlc_range_calls.proofs.ScanLemmas.{scanned_back_at}
use Rattle.hlc_range_calls.proofs.scan_back.scan_back.Goals as goal

pub returns-in-Some : goal.returns-in-Some
returns-in-Some c = λ past h.
    let views = c.in-Some.ensures past h in
    scanned_back_at c.in-Some.view.rows _ _ c.in-Some.view.stamp c.args.from.now c.args.to.now _ c.range_back.result
    c.put_fitting_back.result c.put_fitting_back.new.len c.put_fitting_back.new.count c.args.out.now
    c.put_fitting_back.new.out views.0 views.1 c.end.ensures c.range_back.ensures c.put_fitting_back.ensures
