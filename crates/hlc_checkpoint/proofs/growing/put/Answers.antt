-- With no reason against the rows, the row is of a new version.
use Rattle.std.proofs.Common.{sym, ◌∙◌}
use Rattle.hlc_checkpoint.proofs.Grown.{all_true}
use Rattle.hlc_checkpoint.proofs.growing.put.Goals as goal

pub insert_ascending-requires : goal.insert_ascending-requires
insert_ascending-requires c =
    let t = all_true c.args.checks.ascend c.args.checks.under c.args.checks.limits (sym c.first_fault.ensures
    ∙ c.in-None.is) in
    rw c.as_slice.ensures (c.requires t.0 t.1 t.2)
