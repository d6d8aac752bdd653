-- The walk is over the columns of the range, from the last one on.
use Rattle.std.proofs.Common.{◌∙◌, subst, sym, ap, option_copied}
use Rattle.hlc_columns.specs.Answers.{AreAnswers, answers_in, entries_left_back, IsBetween}
use Rattle.hlc_columns.{specs.Table.indexed_rows, proofs.Answered.answers_are, proofs.Answered.answers_reverse}
use Rattle.hlc_table_index.specs.Entries.{entries_in}
use Rattle.hlc_columns.proofs.answers.answers_back.Goals as goal

pub returns : goal.returns
returns c =
    let to = option_copied c.args.to in
    subst (AreAnswers (indexed_rows c.args.columns.now) c.args.bound (IsBetween c.args.from.now to))
    (ap (λ es. answers_in es c.args.bound) (sym c.between.ensures.exact)
    ∙ answers_reverse (entries_left_back c.between.result) c.args.bound)
    (answers_are (entries_in c.args.columns.now) c.args.bound c.args.from.now to c.between.ensures.ascend)
