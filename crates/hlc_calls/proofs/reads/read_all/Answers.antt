-- The view's answers are those of the snapshot.
use Rattle.hlc_calls.proofs.Readings.{read-at}
use Rattle.hlc_calls.proofs.reads.read_all.Goals as goal

pub returns-in-Some : goal.returns-in-Some
returns-in-Some c = λ past h.
    let views = c.in-Some.ensures past h in
    read-at c.in-Some.view.rows _ _ c.in-Some.view.stamp c.args.places.now c.args.bytes.now c.put_answers.result
    c.put_answers.new.len c.put_answers.new.count c.args.out.now c.put_answers.new.out views.0 views.1
    c.put_answers.ensures
