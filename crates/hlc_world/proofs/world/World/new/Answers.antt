-- A new core and nodes that issued nothing represent the empty schedule.
use Rattle.hlc_world.proofs.Nodes.{starts}
use Rattle.hlc_world.proofs.world.World.new.Goals as goal

pub returns : goal.returns
returns c = (
  c.in_ok-core.ensures.0,
  rw (c.in_ok-nodes.ensures, c.new-2.ensures.items) (starts c.args.nodes _ c.in_ok-core.ensures.1),
)
