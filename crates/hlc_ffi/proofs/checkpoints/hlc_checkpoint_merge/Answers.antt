-- No bytes were made, so the output has none.
use Rattle.std.proofs.Common.{refl}
use Rattle.hlc_ffi.proofs.checkpoints.hlc_checkpoint_merge.Goals as goal

pub returns-in-Err-clause-answer : goal.returns-in-Err-clause-answer
returns-in-Err-clause-answer c =
    rw (c.in-None.ensures.boxed, c.in-None.ensures.closed) (refl, c.in-Err.ensures.err)
