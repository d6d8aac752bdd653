-- No link and no clock changes, and no fewer numbers are assigned.
use Rattle.hlc_routing.proofs.Machines.{step-keeps}
use Rattle.hlc_routing.proofs.laws.steps_keep_machines.Goals as goal

pub returns : goal.returns
returns c = step-keeps
