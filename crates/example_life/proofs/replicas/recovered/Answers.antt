-- Nothing stopped.
use Rattle.example_life.proofs.replicas.recovered.Goals as goal

pub returns-in-None : goal.returns-in-None
returns-in-None c = λ tag past of. (c.in-Ok.made.applied, c.in-None.is, (c.in-Ok.ensures.represents tag past of).1)
