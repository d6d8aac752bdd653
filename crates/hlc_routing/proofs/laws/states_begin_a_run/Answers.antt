-- Each state is a past of its own.
use Rattle.hlc_routing.proofs.Beginning.{states-begin}
use Rattle.hlc_routing.proofs.laws.states_begin_a_run.Goals as goal

pub returns : goal.returns
returns c = states-begin
