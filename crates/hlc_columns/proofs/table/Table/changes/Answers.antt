-- The range of all keys.
use Rattle.std.proofs.Common.{subst}
use Rattle.hlc_columns.{specs.Differences.AreDifferences, specs.Table.indexed_rows, proofs.Differing.all_differ}
use Rattle.hlc_columns.proofs.table.Table.changes.Goals as goal

pub returns : goal.returns
returns c =
    subst (λ rows. AreDifferences rows c.args.from c.args.to (λ key. Unit {0}) c.changes_between.result) c.self.view_is
    (all_differ (indexed_rows c.self.inside.columns) c.args.from c.args.to c.changes_between.result
    c.changes_between.ensures)
