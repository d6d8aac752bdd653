-- The differences of the range are those between the snapshots.
use Rattle.hlc_range_calls.proofs.Differing.{compared, not_compared}
use Rattle.hlc_range_calls.proofs.changes.changes.Goals as goal

pub returns-in-None : goal.returns-in-None
returns-in-None c = λ past h.
    not_compared c.args.before c.args.after past c.args.from.now c.args.to.now c.args.out.now
    (c.in-None.ensures past h)

pub returns-in-Some : goal.returns-in-Some
returns-in-Some c = λ past h.
    compared c.args.before c.args.after past c.args.from.now c.args.to.now _ c.in-Some.changes c.put_changes.result
    c.put_changes.new.len c.put_changes.new.count c.args.out.now c.put_changes.new.out c.end.ensures
    (c.in-Some.ensures past h) c.put_changes.ensures
