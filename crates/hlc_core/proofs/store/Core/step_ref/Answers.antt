-- What it does after each past is a step of each history.
use Rattle.hlc_core.{specs.History.past_of, proofs.StepLemmas.moves_are_steps}
use Rattle.hlc_core.proofs.store.Core.step_ref.Goals as goal

pub returns-clause-represents : goal.returns-clause-represents
returns-clause-represents c = λ nodes history h.
    moves_are_steps nodes c.args.self.now c.make.new.self c.args.event.now history c.make.result h
    (c.make.ensures.past (past_of nodes history) h.core)
