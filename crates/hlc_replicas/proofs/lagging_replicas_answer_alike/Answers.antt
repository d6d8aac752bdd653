-- Both go on until they are replicas, and no answer up to the floor of either changes on the way.
use Rattle.hlc_replicas.proofs.ReplicaLemmas.{lagging-agree, lagging_stores-agree}
use Rattle.hlc_replicas.proofs.lagging_replicas_answer_alike.Goals as goal

pub returns-clause-accepted : goal.returns-clause-accepted
returns-clause-accepted c = lagging-agree

pub returns-clause-stored : goal.returns-clause-stored
returns-clause-stored c = lagging_stores-agree
