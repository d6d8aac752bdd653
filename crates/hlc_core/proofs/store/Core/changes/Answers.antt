-- The stored rows answer at both open snapshots as all accepted writes do.
use Rattle.std.proofs.Common.{sym}
use Rattle.hlc_core.proofs.Answering.{compares-alike}
use Rattle.hlc_core.proofs.store.Core.changes.Goals as goal

pub returns : goal.returns
returns c = λ past h.
    compares-alike _ past c.args.from c.args.to _ _ (λ key. Unit {0}) c.changes.result (rw (← c.self.view_is) at h)
    (sym c.in_ok-before.ensures.value) (sym c.in_ok-after.ensures.value) c.changes.ensures
