-- The floor is defined as the least of the heads of the nodes that have not retired, or else the greatest stamp.
use Rattle.hlc_core.proofs.PastLemmas.{floor-some, floor-le}
use Rattle.hlc_core.proofs.laws.floor_is_the_least_head.Goals as goal

pub returns-clause-some : goal.returns-clause-some
returns-clause-some c = floor-some

pub returns-clause-least : goal.returns-clause-least
returns-clause-least c = floor-le
