-- Each is a checkpoint, and has only rows of its keys.
use Rattle.hlc_routing.proofs.Parts.{part-state, joined-state, halves-states, restored-begin}
use Rattle.hlc_routing.proofs.laws.parts_begin_ranges.Goals as goal

pub returns-clause-part : goal.returns-clause-part
returns-clause-part c = part-state

pub returns-clause-joined : goal.returns-clause-joined
returns-clause-joined c = joined-state

pub returns-clause-halves : goal.returns-clause-halves
returns-clause-halves c = halves-states

pub returns-clause-restored : goal.returns-clause-restored
returns-clause-restored c = restored-begin
