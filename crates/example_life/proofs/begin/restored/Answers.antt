-- What was restored is a checkpoint, so it has a past that begins with it.
use Rattle.std.proofs.Common.{[], ◌∷◌}
use Rattle.hlc.specs.Store.{Began}
use Rattle.hlc_checkpoint.specs.Checkpoint.{IsCheckpoint, IsCopyOf}
use Rattle.example_life.proofs.begin.restored.Goals as goal

pub returns-in-Ok-Ok-clause-began : goal.returns-in-Ok-Ok-clause-began
returns-in-Ok-Ok-clause-began c =
    let made : IsCheckpoint c.args.kept × IsCopyOf c.args.kept c.in-Ok-Ok.core =
    rw c.in-Ok-Ok.field-0-is at c.in-Ok-Ok.ensures.kept in
    rw c.in-Ok-Ok.field-0-is at (c.in-Ok-Ok.ensures.represents (Began c.args.kept ∷ [])
    (c.each_checkpoint_has_a_past.ensures c.args.kept made.0))
