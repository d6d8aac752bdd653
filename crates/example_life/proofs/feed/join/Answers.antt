-- The run goes on with a step of each range, by which no node of the machine joins.
use Rattle.example_life.proofs.Feeding.{joined-on}
use Rattle.example_life.proofs.feed.join.Goals as goal

pub returns-in-Ok : goal.returns-in-Ok
returns-in-Ok c = λ rows bound written machine stood.
    joined-on stood _ (c.in-Ok.ensures.ok stood.layout stood.run stood.represents).0.represents
    c.steps_keep_machines.ensures c.in-Ok.ensures.division
