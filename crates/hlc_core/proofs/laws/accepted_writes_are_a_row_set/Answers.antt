-- Stamps ascend on a link, so no two writes of a node have one stamp.
use Rattle.hlc_core.proofs.PastLemmas.{writes-row_set}
use Rattle.hlc_core.proofs.laws.accepted_writes_are_a_row_set.Goals as goal

pub returns : goal.returns
returns c = writes-row_set
