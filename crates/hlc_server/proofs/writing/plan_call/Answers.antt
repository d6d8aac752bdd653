-- With no trail nothing is entered, and the event had its step.
use Rattle.std.proofs.Common.{rules}
use Rattle.hlc_server.proofs.writing.plan_call.Goals as goal

pub returns-in-None : goal.returns-in-None
returns-in-None g c = record {
  made = record {
    form = c.finish.ensures.form c.args.event.now c.in_ok-planned-in-Vacuum.ensures.ok;
    step = λ nodes history represents.
        c.finish.ensures.step nodes c.args.event.now history c.in_ok-planned-in-Vacuum.ensures.ok represents;
  };
  trail = search rules;
}
