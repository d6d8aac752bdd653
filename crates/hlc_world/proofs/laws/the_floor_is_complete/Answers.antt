-- Items come in order over each link, and no head is below the floor.
use Rattle.hlc_world.proofs.Orderly.{complete}
use Rattle.hlc_world.proofs.laws.the_floor_is_complete.Goals as goal

pub returns : goal.returns
returns c = complete
