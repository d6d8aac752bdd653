-- Each has the rows of these keys, and the floor, the horizon and the open snapshots.
use Rattle.hlc_routing.proofs.Parts.{part-takes, moved-takes, left-takes, right-takes}
use Rattle.hlc_routing.proofs.laws.parts_take_over.Goals as goal

pub returns-clause-part : goal.returns-clause-part
returns-clause-part c = part-takes

pub returns-clause-moved : goal.returns-clause-moved
returns-clause-moved c = moved-takes

pub returns-clause-left : goal.returns-clause-left
returns-clause-left c = left-takes

pub returns-clause-right : goal.returns-clause-right
returns-clause-right c = right-takes
