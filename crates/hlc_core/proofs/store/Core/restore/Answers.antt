-- The new core has the state of the checkpoint, with its rows in another order; and nothing is against a checkpoint.
use Rattle.std.proofs.Common.{subst, sym}
use Rattle.hlc_checkpoint.specs.Checkpoint.{IsCopyOf, Restores}
use Rattle.hlc_checkpoint.proofs.CheckpointLemmas.{sound-has_no_reason}
use Rattle.hlc_core.proofs.CheckpointLemmas.{copy-represents}
use Rattle.hlc_core.proofs.store.Core.restore.Goals as goal

pub returns-in-Ok-clause-represents : goal.returns-in-Ok-clause-represents
returns-in-Ok-clause-represents c = λ past h.
    let made = subst (Restores c.args.checkpoint.now) c.in-Ok.is c.in_ok-checked.ensures in
    copy-represents c.args.checkpoint.now c.resuming.result past h
    (subst (IsCopyOf c.args.checkpoint.now) (sym c.resuming.ensures) made.1)

pub returns-in-Err-clause-only : goal.returns-in-Err-clause-only
returns-in-Err-clause-only c = λ is.
    absurd (sound-has_no_reason c.args.checkpoint.now c.in-Err.fault is
    (subst (Restores c.args.checkpoint.now) c.in-Err.is c.in_ok-checked.ensures))
