-- The floor is the head of some node that has not retired, or, if all have, the greatest head.
use Rattle.hlc_replicas.proofs.RaiseLemmas.{heads-raise, items-raise}
use Rattle.hlc_replicas.proofs.reports_raise_the_floor.Goals as goal

pub returns-clause-heads : goal.returns-clause-heads
returns-clause-heads c = heads-raise

pub returns-clause-items : goal.returns-clause-items
returns-clause-items c = items-raise
