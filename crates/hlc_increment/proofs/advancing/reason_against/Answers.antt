-- The state of the increment is no checkpoint, but the older one is one.
use Rattle.std.proofs.{Common.inr, Common.subst, Common.rules, lemmas.Grind.common_steps}
use Rattle.hlc_core.specs.Checkpoint.{IsCheckpoint, IsFirstReason}
use Rattle.hlc_increment.proofs.advancing.reason_against.Goals as goal

pub returns-in-Some-fault-clause-some : goal.returns-in-Some-fault-clause-some
returns-in-Some-fault-clause-some c =
    let sound : IsCheckpoint c.args.older.now = search (rules, common_steps) in
    inr (
      sound,
      subst (λ state. IsFirstReason state c.in-Some-fault.fault) c.state-state.ensures c.in-Some-fault.ensures,
    )
