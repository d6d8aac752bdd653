-- One more item was taken; or the next one was not.
use Rattle.std.proofs.Common.{arith, rules}
use Rattle.hlc_calls.{specs.Log.with_items, proofs.Logs.one_more, proofs.Logs.stopped_here}
use Rattle.hlc_calls.proofs.log.take_all.Goals as goal

pub loop-rest-preserved : goal.loop-rest-preserved
loop-rest-preserved c = record {
  within = omega (arith, c.in-Ok.ensures.shorter, c.loop-rest.invariant.within);
  taken = λ past h.
      let so = c.loop-rest.invariant.taken past h in
      one_more c.take_front.new.core c.args.bytes.now c.loop-rest.rest.now c.in-Ok.after.now past c.loop-rest.taken
      c.loop-rest.core so (c.in-Ok.ensures.answer (with_items so.0 past) so.4);
}

pub returns-in-Err : goal.returns-in-Err
returns-in-Err c = λ past h.
    let so = c.loop-rest.invariant.taken past h in
    stopped_here c.take_front.new.core c.loop-rest.core c.args.bytes.now c.loop-rest.rest.now past c.in-Err.code
    c.loop-rest.taken c.take_front.new.word so c.in-Err.ensures.unchanged (search rules)
    (c.in-Err.ensures.answer (with_items so.0 past) so.4)
