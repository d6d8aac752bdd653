-- The increment is of this store.
use Rattle.example_life.proofs.replicas.advanced.Goals as goal

pub returns-in-Ok-Ok : goal.returns-in-Ok-Ok
returns-in-Ok-Ok c = λ past more h g.
    rw c.in-Ok-Ok.field-0-is at (c.in-Ok-Ok.ensures.represents past more c.args.core.now h g c.in-Ok.ensures.ok)
