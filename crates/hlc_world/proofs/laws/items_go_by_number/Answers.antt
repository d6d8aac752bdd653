-- Each node numbers its items in turn, with rising stamps.
use Rattle.hlc_world.proofs.StoreEvents.{goes-by-number}
use Rattle.hlc_world.proofs.laws.items_go_by_number.Goals as goal

pub returns : goal.returns
returns c = goes-by-number
