-- An item only raises its own node's head, or retires the node, and a node joins at or above the floor.
use Rattle.hlc_core.proofs.{PastLemmas.floor-grows, PastLemmas.floor-joins, StayLemmas.floor-never_falls}
use Rattle.hlc_core.proofs.laws.the_floor_never_falls.Goals as goal

pub returns-clause-took : goal.returns-clause-took
returns-clause-took c = floor-grows

pub returns-clause-joined : goal.returns-clause-joined
returns-clause-joined c = λ past node start legal. floor-joins past node start legal.1 legal.2

pub returns-clause-later : goal.returns-clause-later
returns-clause-later c = floor-never_falls
