-- The store has the state that was checked.
use Rattle.std.proofs.Common.{subst, sym, refl}
use Rattle.hlc_checkpoint.specs.Checkpoint.{IsCopyOf}
use Rattle.hlc_saved.proofs.stage.restored.Goals as goal

pub returns-in-Ok : goal.returns-in-Ok
returns-in-Ok c = λ kept grown.
    let made = c.in-Ok.ensures kept grown in
    (kept, refl, made.0, subst (IsCopyOf kept) (sym c.resuming.ensures) made.1)
