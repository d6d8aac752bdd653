-- The answer is the value of the newest row.
use Rattle.std.proofs.Common.{sym, option_copied}
use Rattle.hlc_table_column.{specs.Rows.rows_of, proofs.Beside.answer_there}
use Rattle.hlc_rows.proofs.NewestLemmas.{answer_none}
use Rattle.hlc_table_column.proofs.lanes.Lanes.answer.Goals as goal

pub returns-in_default : goal.returns-in_default
returns-in_default c =
    λ key. sym (answer_none (rows_of key c.args.self.now) key c.args.bound (sym (c.in_default.ensures.newest key)))

pub returns : goal.returns
returns c = λ key. answer_there c.args.self.now key c.args.bound c.in-Some.place
    (option_copied c.value_at.result) c.in-Some.ensures.within (c.in-Some.ensures.newest key) c.value_at.ensures.value
