-- The floor is no higher than any head, and a head is the stamp of an event of its node.
use Rattle.hlc_world.proofs.Orderly.{below_clocks}
use Rattle.hlc_world.proofs.laws.no_clock_is_below_the_floor.Goals as goal

pub returns : goal.returns
returns c = below_clocks
