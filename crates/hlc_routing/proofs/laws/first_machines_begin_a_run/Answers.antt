-- No link has an item of the run.
use Rattle.hlc_routing.proofs.Beginning.{machine-begins}
use Rattle.hlc_routing.proofs.laws.first_machines_begin_a_run.Goals as goal

pub returns : goal.returns
returns c = machine-begins
