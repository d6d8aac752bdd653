-- The range of all keys.
use Rattle.std.proofs.Common.{subst}
use Rattle.hlc_columns.{specs.Answers.AreAnswers, specs.Table.indexed_rows, proofs.Answered.all_are}
use Rattle.hlc_columns.proofs.table.Table.answers.Goals as goal

pub returns : goal.returns
returns c =
    subst (λ rows. AreAnswers rows c.args.bound (λ key. Unit {0}) c.answers_between.result) c.self.view_is
    (all_are (indexed_rows c.self.inside.columns) c.args.bound c.answers_between.result c.answers_between.ensures)
