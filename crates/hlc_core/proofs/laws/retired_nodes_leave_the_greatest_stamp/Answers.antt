-- The head of each node that has retired is the stamp of its last item.
use Rattle.hlc_core.proofs.CheckpointLemmas.{floor-retired}
use Rattle.hlc_core.proofs.laws.retired_nodes_leave_the_greatest_stamp.Goals as goal

pub returns : goal.returns
returns c = floor-retired
