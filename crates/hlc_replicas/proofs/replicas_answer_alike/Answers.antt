-- The accepted writes are the same rows.
use Rattle.hlc_replicas.proofs.ReplicaLemmas.{answers-agree, stores-agree}
use Rattle.hlc_replicas.proofs.replicas_answer_alike.Goals as goal

pub returns-clause-accepted : goal.returns-clause-accepted
returns-clause-accepted c = answers-agree

pub returns-clause-stored : goal.returns-clause-stored
returns-clause-stored c = stores-agree
