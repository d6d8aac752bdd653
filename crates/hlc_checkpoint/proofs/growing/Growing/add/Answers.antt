-- One more row was checked; it is of a new version if all rows are those of a checkpoint.
use Rattle.std.proofs.Common.{ap, Some}
use Rattle.hlc_checkpoint.{specs.Growing.with_row, proofs.Grown.grown-fresh, proofs.Grown.grown-more}
use Rattle.hlc_checkpoint.proofs.growing.Growing.add.Goals as goal

pub put-requires : goal.put-requires
put-requires c =
    grown-fresh c.self.inside.head c.self.inside.table _ _ _ _ _ _ _ c.args.row c.self.invariant.0 c.self.invariant.1
    c.checked_on-checks.ensures.ascend (rw c.links.ensures at c.checked_on-checks.ensures.under)
    c.checked_on-checks.ensures.limits

pub invariant_of-self-2 : goal.invariant_of-self-2
invariant_of-self-2 c = (
  with_row c.self.invariant.0 c.args.row,
  grown-more c.self.inside.head c.self.inside.table _ _ _ _ c.put.new.table _ _ _ _ c.args.row _ c.self.invariant.1
      (ap Some c.in_ok-last.ensures.last) c.checked_on-checks.ensures.ascend
      (rw c.links.ensures at c.checked_on-checks.ensures.under) c.checked_on-checks.ensures.limits
      c.in_ok-last.ensures.ok,
)

pub returns-clause-ok : goal.returns-clause-ok
returns-clause-ok c = λ kept grown.
    grown-more c.self.inside.head c.self.inside.table _ _ _ _ c.put.new.table _ _ _ _ c.args.row kept
    (rw (← c.self.view_is) at grown) (ap Some c.in_ok-last.ensures.last) c.checked_on-checks.ensures.ascend
    (rw c.links.ensures at c.checked_on-checks.ensures.under) c.checked_on-checks.ensures.limits
    c.in_ok-last.ensures.ok
