-- No turn took place.
use Rattle.hlc_routing.proofs.Beginning.{new-stores}
use Rattle.hlc_routing.proofs.laws.new_stores_begin_a_run.Goals as goal

pub returns : goal.returns
returns c = new-stores
