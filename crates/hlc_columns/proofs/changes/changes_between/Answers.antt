-- The walk is over the columns of the range.
use Rattle.std.proofs.Common.{subst, sym, option_copied}
use Rattle.hlc_columns.{specs.Answers.IsBetween, specs.Table.indexed_rows, proofs.Differing.differences_are}
use Rattle.hlc_columns.specs.Differences.{AreDifferences, differences_in}
use Rattle.hlc_table_index.specs.Entries.{entries_in}
use Rattle.hlc_columns.proofs.changes.changes_between.Goals as goal

pub returns : goal.returns
returns c =
    let end = option_copied c.args.end in
    subst (λ es. AreDifferences (indexed_rows c.args.columns.now) c.args.from c.args.to
    (IsBetween c.args.first.now end) (differences_in es c.args.from c.args.to)) (sym c.between.ensures.exact)
    (differences_are (entries_in c.args.columns.now) c.args.from c.args.to c.args.first.now end
    c.between.ensures.ascend)
