-- An item that is accepted is above its node's head, and no head is below the floor.
use Rattle.hlc_core.proofs.PastLemmas.{above_floor}
use Rattle.hlc_core.proofs.laws.later_items_are_above_the_floor.Goals as goal

pub returns : goal.returns
returns c = above_floor
