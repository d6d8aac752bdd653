-- The stored rows answer at both open snapshots as all accepted writes do.
use Rattle.std.{proofs.Common.sym, specs.Prelude.option_copied}
use Rattle.hlc_columns.specs.Answers.{IsBetween}
use Rattle.hlc_core.proofs.Answering.{compares-alike}
use Rattle.hlc_core.proofs.store.Core.changes_between.Goals as goal

pub returns : goal.returns
returns c = λ past h.
    compares-alike _ past c.args.from c.args.to _ _ (IsBetween c.args.first.now (option_copied c.args.end))
    c.changes_between.result (rw (← c.self.view_is) at h) (sym c.in_ok-before.ensures.value)
    (sym c.in_ok-after.ensures.value) c.changes_between.ensures
