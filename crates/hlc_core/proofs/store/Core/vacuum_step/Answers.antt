-- What was planned for the event is carried out.
use Rattle.hlc_core.proofs.store.Core.vacuum_step.Goals as goal

pub returns-clause-past : goal.returns-clause-past
returns-clause-past c = λ past h. c.finish.ensures.past c.args.event.now past c.in_ok-planned.ensures.ok h
