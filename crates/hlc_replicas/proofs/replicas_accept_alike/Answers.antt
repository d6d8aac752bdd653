-- A node's link follows from its items and its start, and the floor from all links.
use Rattle.hlc_replicas.proofs.ReplicaLemmas.{refusals-agree, floors-agree, joins-agree}
use Rattle.hlc_replicas.proofs.replicas_accept_alike.Goals as goal

pub returns-clause-items : goal.returns-clause-items
returns-clause-items c = refusals-agree

pub returns-clause-floor : goal.returns-clause-floor
returns-clause-floor c = floors-agree

pub returns-clause-joins : goal.returns-clause-joins
returns-clause-joins c = joins-agree
