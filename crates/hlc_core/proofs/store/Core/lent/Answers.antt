-- A core is consistent and sound, so its state is that of a store.
use Rattle.std.proofs.Common.{subst}
use Rattle.hlc_core.specs.Checkpoint.{IsStore}
use Rattle.hlc_core.proofs.store.Core.lent.Goals as goal

pub returns-clause-sound : goal.returns-clause-sound
returns-clause-sound c =
    subst IsStore c.self.view_is
    (record { consistent = c.self.invariant.0; sound = c.self.invariant.1; register = c.of.ensures.register })
