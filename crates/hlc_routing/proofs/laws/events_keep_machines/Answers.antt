-- No link and no clock of the machine changes.
use Rattle.hlc_routing.proofs.Apart.{issued-apart, sent-apart, received-apart, observed-apart}
use Rattle.hlc_routing.proofs.laws.events_keep_machines.Goals as goal

pub returns-clause-issued : goal.returns-clause-issued
returns-clause-issued c = issued-apart

pub returns-clause-sent : goal.returns-clause-sent
returns-clause-sent c = sent-apart

pub returns-clause-received : goal.returns-clause-received
returns-clause-received c = received-apart

pub returns-clause-observed : goal.returns-clause-observed
returns-clause-observed c = observed-apart
