-- Each record that was read came before, or is no step.
use Rattle.hlc_log.proofs.LogLemmas.{read-again, once-passed, legally-passed, over-all}
use Rattle.hlc_log.proofs.laws.a_log_may_be_read_again.Goals as goal

pub returns-clause-again : goal.returns-clause-again
returns-clause-again c = read-again

pub returns-clause-passed : goal.returns-clause-passed
returns-clause-passed c = once-passed

pub returns-clause-since : goal.returns-clause-since
returns-clause-since c = legally-passed

pub returns-clause-over : goal.returns-clause-over
returns-clause-over c = over-all
