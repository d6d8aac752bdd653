-- What happened before an item has a lesser stamp, and the floor is complete.
use Rattle.hlc_world.proofs.Times.{closed}
use Rattle.hlc_world.proofs.laws.open_snapshots_are_closed.Goals as goal

pub returns : goal.returns
returns c = closed
