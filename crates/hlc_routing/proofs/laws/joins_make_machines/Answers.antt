-- The nodes have the numbers that the stores assigned, and have issued nothing.
use Rattle.hlc_routing.proofs.Newcomer.{new-machine}
use Rattle.hlc_routing.proofs.laws.joins_make_machines.Goals as goal

pub returns : goal.returns
returns c = new-machine
