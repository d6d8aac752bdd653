-- No property of the stored rows depends on their order.
use Rattle.hlc_vacuum.proofs.RepresentingLemmas.{stored_rows_may_be_moved}
use Rattle.hlc_vacuum.proofs.laws.stored_rows_may_be_moved.Goals as goal

pub returns : goal.returns
returns c = stored_rows_may_be_moved
