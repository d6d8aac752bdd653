-- One more key is answered, or left out.
use Rattle.std.proofs.Common.{rules}
use Rattle.hlc_calls.proofs.Readings.{answered-more, left-out}
use Rattle.hlc_calls.proofs.reads.put_answers.Goals as goal

pub loop-index-preserved : goal.loop-index-preserved
loop-index-preserved c =
    answered-more c.args.view.now.rows c.args.view.now.stamp c.args.places.now c.args.bytes.now c.loop-index.index
    c.loop-index.at c.in-Ok.end _ c.args.out.now c.loop-index.out c.put_key.new.out
    c.loop-index.invariant c.loop-index-test.true (search rules) c.in-Ok.ensures.0 c.in-Ok.ensures.1
    c.in-Ok.ensures.2 c.in-Ok.ensures.3

pub returns-in-Err : goal.returns-in-Err
returns-in-Err c =
    left-out c.args.view.now.rows c.args.view.now.stamp c.args.places.now c.args.bytes.now c.loop-index.index
    c.loop-index.at c.in-Err.code _ c.args.out.now c.loop-index.out c.put_key.new.out
    c.loop-index.invariant c.loop-index-test.true (search rules) c.in-Err.ensures.0 c.in-Err.ensures.1
