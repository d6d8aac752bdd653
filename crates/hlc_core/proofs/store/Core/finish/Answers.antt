-- What it does after each past is a step of each history.
use Rattle.hlc_core.{specs.History.past_of, proofs.StepLemmas.move_is_step}
use Rattle.hlc_core.proofs.store.Core.finish.Goals as goal

pub returns-clause-step : goal.returns-clause-step
returns-clause-step c = λ nodes event history planned h.
    move_is_step nodes c.args.self.now c.carry_out_planned.new.self event history c.carry_out_planned.result h
    (c.carry_out_planned.ensures.past event (past_of nodes history) planned h.core)
