-- The walk is over the columns of the range.
use Rattle.std.proofs.Common.{subst, sym, option_copied}
use Rattle.hlc_columns.specs.{Answers.AreAnswers, Answers.answers_in, Answers.IsBetween, Table.indexed_rows}
use Rattle.hlc_table_index.specs.Entries.{entries_in}
use Rattle.hlc_columns.proofs.Answered.{answers_are}
use Rattle.hlc_columns.proofs.answers.answers_between.Goals as goal

pub returns : goal.returns
returns c =
    let to = option_copied c.args.to in
    subst (λ es. AreAnswers (indexed_rows c.args.columns.now) c.args.bound (IsBetween c.args.from.now to)
    (answers_in es c.args.bound)) (sym c.between.ensures.exact)
    (answers_are (entries_in c.args.columns.now) c.args.bound c.args.from.now to c.between.ensures.ascend)
