-- The stamp is the floor.
use Rattle.std.proofs.Common.{subst}
use Rattle.hlc_core.specs.Calls.{Vacuums}
use Rattle.hlc_core.proofs.store.Core.vacuum_parallel.Goals as goal

pub returns-clause-ok : goal.returns-clause-ok
returns-clause-ok g c = λ past h.
    subst (λ at. Vacuums c.carry_out.new.self at past c.carry_out.result)
    (c.floor-floor.ensures.represents past h) (c.carry_out.ensures.vacuums past h)
