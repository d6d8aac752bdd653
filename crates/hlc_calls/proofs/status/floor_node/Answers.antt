-- A place of the links is a node's number.
use Rattle.hlc_calls.proofs.Holders.{first-holds, none-holds}
use Rattle.hlc_calls.proofs.status.floor_node.Goals as goal

pub returns-in-Some : goal.returns-in-Some
returns-in-Some c = λ past h.
    first-holds past c.links.result.now c.floor.result c.in-Some.place (c.links.ensures.represents past h)
    (c.floor.ensures.represents past h) c.in-Some.ensures

pub returns-in-None : goal.returns-in-None
returns-in-None c = λ past h.
    none-holds past c.links.result.now c.floor.result (c.links.ensures.represents past h)
    (c.floor.ensures.represents past h) c.in-None.ensures
