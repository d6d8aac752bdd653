-- The state that was refused is the increment's.
use Rattle.std.{proofs.Common.subst, specs.Prelude.IfErr}
use Rattle.hlc_core.specs.Checkpoint.{IsFirstReason}
use Rattle.hlc_increment.proofs.bytes.encode_increment.Goals as goal

pub returns-in-Err-clause-err : goal.returns-in-Err-clause-err
returns-in-Err-clause-err c =
    subst (λ state. IsFirstReason state c.in-Err.fault) c.state.ensures
    (subst (λ r. IfErr r (IsFirstReason c.state.result.now)) c.in-Err.is c.in_ok-state.ensures.err)
